-- laws
pub mod Triples
pub mod Plain
pub mod Checked
pub mod Codes
mod Chunks

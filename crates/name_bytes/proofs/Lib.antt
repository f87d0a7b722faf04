-- What the scans and the searches show.
pub mod Spans
pub mod Trimming
pub mod Meaning
mod Scan
mod Search

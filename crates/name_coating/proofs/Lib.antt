-- An upper-case name, and answers of document 01 that are computed.
pub mod Known
pub mod Names
mod UpperCase

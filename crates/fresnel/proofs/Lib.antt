-- Answers of document 01 that are computed.
pub mod Known

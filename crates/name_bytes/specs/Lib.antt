-- Byte strings.
pub mod Trim
pub mod Search
pub mod Ascii

-- The sheet of document 01, section 1: its data and bytes, how it is read, and what the one has to do with the other.
pub mod Blocks
pub mod Sheet
pub mod Words
pub mod Read
pub mod Claim
pub mod Internal

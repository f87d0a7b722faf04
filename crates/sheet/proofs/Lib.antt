-- Facts on words, blocks and places, the claim on the grammar, and the calls on a reader.
pub mod WordBytes
pub mod Lists
pub mod AnyGrammar
pub mod KindWords
pub mod Forward
pub mod Back
pub mod Measure
pub mod Longest
pub mod Claim
pub mod Stands
pub mod Standings
pub mod Scan
mod Whole
pub mod Plain
mod Calls

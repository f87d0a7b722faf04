-- Codes of coatings and their names, and the refusal of a name.
pub mod Again
pub mod Codes
pub mod Refused
pub mod Short

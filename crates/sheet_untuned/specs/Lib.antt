-- Sheets without kind 7.
pub mod Untuned
pub mod Claim
pub mod Internal

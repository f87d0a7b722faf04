-- The claim.
pub mod Claim
pub mod Exists
pub mod Known

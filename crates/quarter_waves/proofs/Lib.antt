-- Exact arithmetic on counts of 2 ^ -1074, long division, and the claim.
pub mod Counts
pub mod Halves
pub mod Steps
pub mod Lengths
pub mod Claim
pub mod Known

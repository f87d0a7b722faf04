-- Demand 1.
pub mod Claim

-- One surface, a train, and the claim.
pub mod Surface
pub mod Train
pub mod Claim

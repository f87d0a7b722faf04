-- The walk to the first kind 7, what a caller knows, and the claim.
pub mod Walk
pub mod Admitted
pub mod Claim

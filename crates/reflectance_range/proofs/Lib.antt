-- The order of the fractions, one pair of indices, and the claim.
pub mod Order
pub mod Corner
pub mod Ends
pub mod Claim

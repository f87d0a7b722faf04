-- R and T up to so many roundings, their sum, and the claim.
pub mod Sum
pub mod Powers
pub mod Straight
pub mod Claim

-- What a bare surface reflects head-on.
pub mod Claim

-- Head-on, up to so many roundings, and the claim.
pub mod HeadOn
pub mod Claim

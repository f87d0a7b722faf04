-- A low and a high reflectance for ranges of indices, and what is claimed of them.
pub mod Range
pub mod Claim

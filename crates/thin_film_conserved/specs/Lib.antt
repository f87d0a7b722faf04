-- R + T of a surface without layers, met head-on.
pub mod Claim

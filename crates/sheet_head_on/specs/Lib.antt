-- A sheet's surfaces without layers, met head-on.
pub mod Claim

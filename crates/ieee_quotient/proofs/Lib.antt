-- A quotient by a sum of two powers of 2 without a division.
mod Units
mod Numbers
mod Laws
mod Small
mod Step
pub mod Claim

-- A layer, a surface and a sheet that became plain; a train's way; and the claim.
mod Plain
mod Runs
pub mod Claim
pub mod Words

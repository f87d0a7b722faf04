-- Layers from the far side.
pub mod Claim

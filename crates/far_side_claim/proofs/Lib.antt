-- Layers from the far side: the claim's proof.
pub mod Claim

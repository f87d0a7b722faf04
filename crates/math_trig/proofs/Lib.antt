-- The laws for callers, and what the functions share in their proofs.
pub mod Turns
pub mod Less
pub mod Turned
pub mod TrigBounds
pub mod Opposites
pub mod Parity
pub mod Examples
pub mod Known
pub mod Shifted
pub mod AtZero
pub mod Constants

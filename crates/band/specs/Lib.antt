-- A whole band.
pub mod Band
pub mod Claim
pub mod Known
pub mod Internal

-- Quarter waves, and what is over.
pub mod Waves
pub mod Claim
pub mod Known
pub mod Internal

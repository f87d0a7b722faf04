-- The series step by step.
pub mod Sizes
pub mod Step
pub mod Runs
pub mod Sums
pub mod Series
pub mod Pythagoras
pub mod Link
pub mod Below
pub mod Angle
pub mod Cosine
pub mod Sine
pub mod Fine
pub mod Turned
pub mod Facing
pub mod Averted
pub mod Claim
pub mod Known

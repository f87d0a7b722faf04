-- Amplitudes without a zero, and the whole response.
pub mod Parts
pub mod Whole

-- sin and cos of 01 section 2, its angles, what an opposite is, and some answers; Internal need not be believed. Definitions only.
pub mod Angles
pub mod Trig
pub mod Opposite
pub mod Known
pub mod Internal

-- A surface: its answers, what is claimed of them, and what stands where there are none.
pub mod Answers
pub mod Known
pub mod Finite
pub mod Absorptance

-- The refusal of a range, and its layout.
pub mod Sound
pub mod Known

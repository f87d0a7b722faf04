-- Whole numbers that differ by so much at most.
pub mod Off

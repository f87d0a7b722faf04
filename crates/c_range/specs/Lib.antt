-- A low and a high reflectance by their numbers, and a known answer.
pub mod Range
pub mod Known

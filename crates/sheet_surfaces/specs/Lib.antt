-- The surfaces of a sheet by their numbers: their words, their LAYERs, their answers.
pub mod Surfaces
pub mod Internal

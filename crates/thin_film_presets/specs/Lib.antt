-- The layers of the preset coatings, and some answers.
pub mod Layers
pub mod Known

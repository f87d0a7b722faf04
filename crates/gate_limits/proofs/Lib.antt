-- From the limits to ranges, and the layers of the preset coatings.
pub mod Ranges
pub mod Metal
pub mod Known
pub mod Presets

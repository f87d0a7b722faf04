-- Facts on the numbers of layers.
pub mod Flat
pub mod Stacked

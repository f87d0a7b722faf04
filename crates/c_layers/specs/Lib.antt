-- Coatings by code, with their layers in a flat list; Internal need not be believed.
pub mod Evaluate
pub mod Internal

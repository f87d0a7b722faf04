-- Coatings of thin_film.rs as they are ordered, and some answers; Internal need not be believed.
pub mod Coating
pub mod Evaluate
pub mod Absorptance
pub mod Known
pub mod Internal

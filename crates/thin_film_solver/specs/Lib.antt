-- The transfer-matrix method of thin_film.rs, and what stands where there is no response; Internal need not be believed.
pub mod Layer
pub mod Absorptance
pub mod Solve
pub mod Known
pub mod Internal

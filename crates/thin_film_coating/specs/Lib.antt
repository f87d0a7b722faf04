-- A coating beside its layers, and a known answer; Internal need not be believed.
pub mod Coating
pub mod Evaluate
pub mod Known
pub mod Internal

-- The gate of document 01: what is admitted, and what is claimed of it.
pub mod Gate
pub mod Wavelength
pub mod Claim
pub mod Index
pub mod Internal

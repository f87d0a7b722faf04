-- The verdicts of a sheet's blocks, the gate's claim, the walk over the blocks and over layers, and what a caller of the gate knows.
pub mod Wavelengths
pub mod Verdicts
pub mod Claim
pub mod Surfaces
pub mod Admitted
pub mod Index
pub mod HoldsHere

-- polarization.rs: Jones and Stokes vectors, the Stokes parameters after Born and Wolf, and a known answer. Definitions only.
pub mod BornWolf
pub mod Stokes
pub mod Jones
pub mod Known
pub mod Claim

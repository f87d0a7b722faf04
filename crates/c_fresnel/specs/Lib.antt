-- What the calls of a bare surface write.
pub mod Fresnel

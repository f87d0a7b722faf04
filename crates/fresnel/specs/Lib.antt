-- fresnel.rs: the powers that a bare surface reflects.
pub mod Fresnel

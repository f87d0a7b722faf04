-- From ranges to the claims, and a known answer.
pub mod Polarized
pub mod Bare
pub mod Coated
pub mod Finite
pub mod Alone
pub mod InTheGlass
pub mod Known

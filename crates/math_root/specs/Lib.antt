-- The square root's definition, the claim that it is the nearest f64, and what its callers are told.
pub mod Root
pub mod Nearest
pub mod Known
pub mod RootLaw

-- polarization.rs: Jones and Mueller matrices, and some answers. Definitions only.
pub mod Jones
pub mod Mueller
pub mod Known

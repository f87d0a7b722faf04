-- polarization.rs: the Jones matrices of a surface. Definitions only.
pub mod Surface

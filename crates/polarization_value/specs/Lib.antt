-- Equality in value.
pub mod Value
pub mod Known

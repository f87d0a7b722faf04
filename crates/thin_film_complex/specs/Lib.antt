-- Complex numbers.
pub mod Complex

-- The laws of binary64, for this crate's functions and for every crate above.
pub mod Signs
pub mod Patterns
pub mod Range
pub mod Rounding
pub mod Count
pub mod Fmod
pub mod Half

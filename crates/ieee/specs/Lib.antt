-- The operations of binary64, the small functions of document 01's section 2, what a range and a count of a float are, and the laws of
-- rounding and of the remainder as statements.
pub mod Operators
pub mod Functions
pub mod Range
pub mod Rounding
pub mod Count
pub mod Fmod

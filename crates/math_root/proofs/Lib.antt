-- The laws of the square root.
pub mod Floor
pub mod Closest
pub mod Grid
pub mod Laws
pub mod Square
pub mod Nearest
pub mod SquareRoot
pub mod Range
pub mod Known

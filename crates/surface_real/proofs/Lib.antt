-- Laws of the real way: what finite numbers say, a film's matrices, products of them, powers; all of it; films of media in arrays.
pub mod Back
pub mod Lossless
pub mod Products
pub mod Powers
pub mod Whole
pub mod Turns
pub mod Stacking
mod Arrays
mod Loops
pub mod Memo

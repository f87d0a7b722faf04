-- laws
pub mod Order
pub mod Matrices
pub mod Lists

-- Laws of values that are equal or both zeros, and of complex numbers whose one part is such a zero.
pub mod Keeps
mod Exact
pub mod Parts
pub mod Phase

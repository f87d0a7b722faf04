-- The ranges of the solver's values, from complex numbers up to the response.
pub mod Complex
pub mod Powers
pub mod Size
pub mod Film
pub mod Lossless
pub mod Absorbing
pub mod Layer
pub mod InTheGlass
pub mod Solve

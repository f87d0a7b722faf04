-- What is claimed of the solver's values.
pub mod Range
pub mod Solver

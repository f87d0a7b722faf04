-- Matrices of complex numbers, and the characteristic matrix of one film.
pub mod Matrix
pub mod Film

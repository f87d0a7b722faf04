-- Jones and Stokes vectors and their matrices by numbers that were lent.
pub mod Numbers

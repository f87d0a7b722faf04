-- Laws of complex numbers.
pub mod RealRoot
pub mod Known

-- Mueller matrices of a Jones matrix that was lent by its numbers.
pub mod Mueller

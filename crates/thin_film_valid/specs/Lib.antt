-- What an evaluation asks and answers before any layer is read, by definitions and by bits.
pub mod Valid
pub mod Ideal
pub mod Known

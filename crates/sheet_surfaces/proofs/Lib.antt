-- Facts on the surface of a number, and that every surface of an admitted sheet is answered.
pub mod Nth
pub mod Answers
pub mod There

-- Facts on lists that numbers are written to, and on what is returned; known answers.
pub mod Front
pub mod Answers
pub mod Returned
pub mod Known

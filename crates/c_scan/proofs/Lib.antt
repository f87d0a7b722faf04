-- The cases, one after the other; which argument fails; known answers.
pub mod Cases
pub mod Written
pub mod Placed
pub mod Filled
pub mod Argument
pub mod Known

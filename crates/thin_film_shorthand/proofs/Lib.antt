-- The stack shorthand meets its contracts and its claim; known answers.
pub mod Made
pub mod Given
pub mod Claim
pub mod Known

-- What is answered for 8 numbers, and for any other count.
pub mod Answered

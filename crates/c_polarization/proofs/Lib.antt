-- What is answered for so many numbers, and for any other count.
pub mod Taken

-- What the functions on the way to a root are told of their results.
pub mod Steps

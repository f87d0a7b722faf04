-- The layers of a stack by their numbers.
pub mod Stack

-- The value of a pattern, and the remainder of two.
pub mod Steps
pub mod Value
pub mod Pattern

-- The reader meets its contracts.
pub mod Steps
pub mod Pushes
pub mod Small
pub mod Grown
pub mod Kept
pub mod Held
pub mod Reached

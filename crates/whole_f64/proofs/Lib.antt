-- Exact operations, and the same with bounds on their results.
pub mod Laws
pub mod Bounds

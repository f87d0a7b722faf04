-- The bounds for callers, examples, known answers, and a constant.
pub mod ExpBounds
pub mod Examples
pub mod Known
mod Constants

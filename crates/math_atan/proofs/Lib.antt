-- The bounds for callers, the signs, an example, known answers, and what the functions share in their proofs.
pub mod AtanBounds
pub mod Signs
pub mod Examples
pub mod Known
mod Tests

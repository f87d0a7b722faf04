-- The identities over the whole numbers and the claim on f64; numbers up to the sign of a zero and the columns of a diagonal matrix; known answers.
pub mod Known
pub mod Identity
pub mod Parts
pub mod Exact
pub mod Near
pub mod Fourfold
pub mod Beams
pub mod Columns
pub mod Claim

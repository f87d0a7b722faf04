-- The claim of slip 7, and some answers.
mod Whole
mod Exact
mod Accurate
mod Near
mod Below
pub mod Claim
pub mod Known

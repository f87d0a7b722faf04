-- The stack shorthand, its claim, and some answers.
pub mod Stack
pub mod Claim
pub mod Known

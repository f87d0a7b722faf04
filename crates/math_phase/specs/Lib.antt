-- 02 slip 7, one type, and some answers.
pub mod Claim
pub mod Known

-- Laws, and a known answer.
pub mod Repeat
pub mod Answers
pub mod Places
pub mod Claim
pub mod Known

-- Laws, and known answers.
pub mod Nth
pub mod Decimals
pub mod Known

-- What a call that can refuse gives.
pub mod Outcome

-- A line's state, the first line that fails, what is added up, the claim, and a known answer.
pub mod Line
pub mod Lines
pub mod Sums
pub mod Bounds
pub mod Always
pub mod Claim
pub mod Known

-- A surface: its coating and its limits.
pub mod Coating
pub mod Limits
pub mod Known

-- A surface's answers after a retune.
pub mod Retuned

-- Counts of a replay.
pub mod Counts

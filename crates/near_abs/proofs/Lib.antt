-- Distances of whole numbers; the operations in counts.
pub mod Within
pub mod Counts
pub mod Laws
pub mod Root

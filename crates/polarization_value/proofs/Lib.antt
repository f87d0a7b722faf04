-- Laws of equality in value: matrices by their entries, operations in either order, sums with zeros; and known cases.
pub mod Laws
pub mod Commute
pub mod Keeps
pub mod Known

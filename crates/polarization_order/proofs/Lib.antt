-- The two laws, and where they end.
pub mod Order
pub mod Sharp

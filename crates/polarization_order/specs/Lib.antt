-- The order of two plates, and the identity.
pub mod Order
pub mod Sharp

-- The laws of values up to so many roundings.
pub mod Gap
pub mod Close
pub mod Laws
pub mod Zeros
pub mod Exact
pub mod Pair

-- The layers of a mirror by their numbers.
pub mod Mirror

-- The powers of a surface within the limits, and what a run writes on the way.
pub mod Takes
pub mod Here
pub mod Written
pub mod RunAt
pub mod Picked

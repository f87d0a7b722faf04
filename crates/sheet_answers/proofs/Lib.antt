-- The layers after the block at a place, as a list.
pub mod After
mod Walk
mod Choice

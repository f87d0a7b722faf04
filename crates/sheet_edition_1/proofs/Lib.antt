-- Stores of words one after the other, the new sheet's blocks, the walk over them, and how long it is.
pub mod Stores
pub mod NewBlocks
pub mod Walk
pub mod Shorter

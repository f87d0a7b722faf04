-- The parts of a pattern, and how they are put together. What `rem` gives is the kit's own `rem binary64`.
pub mod Internal

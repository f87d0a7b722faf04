-- What an exported call returns and leaves, the layouts of its numbers, and known answers.
pub mod Call
pub mod Layout
pub mod Known

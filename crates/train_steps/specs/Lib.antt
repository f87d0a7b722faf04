-- The train of document 01: its calls.
pub mod Train
pub mod Internal

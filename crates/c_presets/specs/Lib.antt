-- The layers of a mirror, or its refusal.
pub mod Presets

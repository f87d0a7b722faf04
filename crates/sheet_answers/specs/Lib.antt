-- The layers of a surface in a sheet.
pub mod Internal

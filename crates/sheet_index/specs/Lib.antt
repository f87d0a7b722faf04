-- The index of a sheet: Internal need not be believed.
pub mod Index
pub mod Internal

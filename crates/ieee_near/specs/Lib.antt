-- What it is for an f64 to be an exact fraction up to so many roundings; values of a range.
pub mod Index
pub mod Near

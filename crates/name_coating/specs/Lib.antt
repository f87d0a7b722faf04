-- The names of coatings, on bytes, and some answers.
pub mod Name
pub mod Known

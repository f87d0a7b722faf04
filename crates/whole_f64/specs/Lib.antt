-- f64 that are whole numbers, and their exact operations.
pub mod Whole

-- atan, asin and atan2 of 01 section 2, and some of their answers. Definitions only.
pub mod Atan
pub mod Signs
pub mod Known

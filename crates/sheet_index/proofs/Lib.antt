-- What is stored in a list, place after place, and the index of a sheet.
pub mod Filled

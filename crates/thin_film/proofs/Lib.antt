-- Known answers; that both evaluations refuse alike; and what stays in the glass.
pub mod Known
pub mod Coatings
pub mod Alike
pub mod InTheGlass
pub mod Decimals
pub mod Own

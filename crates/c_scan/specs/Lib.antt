-- A coated surface at many angles and wavelengths, and which argument fails, with known answers; Internal need not be believed.
pub mod Scan
pub mod Argument
pub mod Known
pub mod Internal

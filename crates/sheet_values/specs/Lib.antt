-- The values that a sheet's BEAM, SURFACEs and LAYERs hold.
pub mod Values
pub mod Known
pub mod Internal

-- An edition 1 sheet written from an edition 2 sheet.
pub mod Edition
pub mod Internal

-- The whole response of a coated surface over real numbers: Internal need not be believed.
pub mod Internal

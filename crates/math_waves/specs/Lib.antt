-- Sines and cosines of up to 16 angles: Internal need not be believed.
pub mod Waves
pub mod Internal

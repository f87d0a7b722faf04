-- What an evaluation gives; Internal need not be believed.
pub mod Evaluation
pub mod Internal

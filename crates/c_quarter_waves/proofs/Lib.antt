-- What the call can say.
pub mod Sound

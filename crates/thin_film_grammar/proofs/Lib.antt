-- What a text gives is what the grammar says of it.
pub mod Complete
pub mod Sound
pub mod Films
pub mod Claim
pub mod Known

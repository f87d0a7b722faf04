-- What the program `train` prints.
pub mod Text
pub mod Page
pub mod Claim
pub mod Known

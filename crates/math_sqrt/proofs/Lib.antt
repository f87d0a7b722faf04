-- What the functions' proofs use.
mod Digits
mod Product
mod Patterns
mod Lift
mod Finish
mod Cases

-- From the cosine to the powers, operation by operation.
pub mod Squares
pub mod Refraction
pub mod Ratio
pub mod Powers
pub mod Claim
pub mod Known

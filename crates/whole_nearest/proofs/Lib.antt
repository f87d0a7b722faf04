-- The nearest whole number is one, and adding and subtracting 1.5 · 2 ^ 52 finds it.
pub mod Laws
pub mod Shift
pub mod Claim

-- Demand 3: powers that fall, values after so many steps, what a whole run writes, and the claim.
pub mod Falls
pub mod Writes
mod One
pub mod Claim

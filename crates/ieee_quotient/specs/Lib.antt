-- A quotient by 2^a + 2^b without a division.
pub mod Quick

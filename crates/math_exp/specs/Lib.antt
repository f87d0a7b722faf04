-- exp of 01 section 2, and some of its answers. Definitions only.
pub mod Exp
pub mod Known

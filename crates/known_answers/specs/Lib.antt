-- The starred known answers, further ones, and those of C's calls.
pub mod Known
pub mod Further
pub mod Exports

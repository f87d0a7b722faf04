-- The starred known answers, further ones, and those of C's calls, computed.
pub mod Known
pub mod Further
pub mod Exports

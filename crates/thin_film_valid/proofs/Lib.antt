-- Known answers, computed.
pub mod Known

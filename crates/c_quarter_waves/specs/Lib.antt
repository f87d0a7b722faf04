-- What dihkelu_quarter_waves returns and writes.
pub mod Waves

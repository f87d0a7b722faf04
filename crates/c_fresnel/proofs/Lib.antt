-- What is answered for a bare surface.
pub mod Surface

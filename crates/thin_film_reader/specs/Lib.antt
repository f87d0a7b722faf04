-- The films of a text.
pub mod Read
pub mod InternalMachine
pub mod InternalFilms

-- Recorded answers: their words, and the words of an answer.
pub mod Words
pub mod Parts

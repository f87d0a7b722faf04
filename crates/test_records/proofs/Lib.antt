-- Facts on the words of a record and of an answer.
pub mod Words

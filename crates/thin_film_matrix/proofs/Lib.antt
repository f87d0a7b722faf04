-- Laws of one film: equal entries, exponentials.
pub mod Entries
pub mod Exponentials

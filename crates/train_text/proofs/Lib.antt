-- What stands on a page, the lines, the text of a run, what is written of it, and the claim.
pub mod Pages
pub mod Pieces
pub mod Runs
pub mod Whole
pub mod Claim
pub mod Known

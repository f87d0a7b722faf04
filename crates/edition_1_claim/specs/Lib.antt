-- What the edition 1 sheet that is written has to do with the sheet that it is written from.
pub mod Claim

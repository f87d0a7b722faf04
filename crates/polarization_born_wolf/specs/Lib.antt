-- Mueller matrices over Stokes vectors with S3 = 2·Im(Ex*·Ey): the conversion of a Jones matrix, what is claimed of it, and some answers.
pub mod Conversion
pub mod Claim
pub mod Known

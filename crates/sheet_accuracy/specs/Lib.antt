-- How near an admitted sheet's numbers are to exact optics.
pub mod Claim

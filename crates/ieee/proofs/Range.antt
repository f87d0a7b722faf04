-- The laws of ranges, from rounding up.
pub mod Round
pub mod Values
pub mod Relative
pub mod Laws
pub mod Sums
pub mod Quotients
pub mod Tests
pub mod Powers
pub mod Rem
pub mod Zero
pub mod Ratio
pub mod FromZero
pub mod Constants
pub mod Plus
pub mod AbsProduct
pub mod Falls

-- The codes that names of coatings stand for.
pub mod Names

-- Facts on places past the last word, on the values of the blocks of a sheet that stand in some bytes, and known indices.
pub mod Past
pub mod Here
pub mod Known

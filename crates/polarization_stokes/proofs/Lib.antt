-- The Stokes parameters are Born and Wolf's; answers of document 01 that are computed.
pub mod BornWolf
pub mod Known

-- The C interface: what each call of the train answers.
pub mod Train
pub mod Edition
pub mod Band
pub mod Numbers
pub mod Functions
pub mod Version

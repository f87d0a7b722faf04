-- Facts on the refusals of the gate and of a surface's answers, on a state that is lent, and on the length of a sheet that is written.
pub mod Places
pub mod Answered
pub mod Band
pub mod Moved
pub mod Rewritten
pub mod Numbers
pub mod Functions

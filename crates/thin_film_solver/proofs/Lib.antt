-- Laws of the solver: one layer, a list of layers taken one by one; a known answer; and what stays in the glass.
pub mod Steps
pub mod Known
pub mod NoResponse
pub mod InTheGlass

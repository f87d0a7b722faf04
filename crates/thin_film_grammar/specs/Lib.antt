-- The stack shorthand: its grammar, the films of a tree, and what a text gives.
pub mod Grammar
pub mod Films
pub mod Claim
pub mod Reading
pub mod InternalMachine
pub mod Known

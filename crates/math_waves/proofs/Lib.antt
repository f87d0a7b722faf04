-- Lists that a loop writes place by place, or changes; cos beside sin's second fold; and angles below 2^20 in size.
pub mod Written
mod Cosines
mod Sizes
mod Steps
mod Quick

pub mod Masks
pub mod Reach
pub mod Spans
pub mod Passes
pub mod Whence

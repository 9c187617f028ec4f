pub mod Counts
pub mod Gaps
pub mod Zeros
pub mod Shows

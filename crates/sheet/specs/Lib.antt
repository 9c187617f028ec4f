pub mod Opening
pub mod OpeningLaws
pub mod Terms
pub mod BufferLaws
pub mod ReadingLaws
pub mod Theorems
pub mod Writing

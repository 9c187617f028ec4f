pub mod Places
pub mod Search
pub mod Faults
pub mod Rows
pub mod Says
pub mod Parts
pub mod Gather

pub mod Dates
pub mod Days
pub mod Scans

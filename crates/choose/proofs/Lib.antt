pub mod Fitting
pub mod Held
pub mod Taking
pub mod Filled
pub mod Judging

pub mod Carry
pub mod Held
pub mod Laid
pub mod Years

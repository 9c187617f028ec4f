pub mod Narrowing
pub mod Striking
pub mod Marks
pub mod Parts
pub mod Emptiness
pub mod Turns
pub mod Answering
pub mod Changing

pub mod Choosing
pub mod ChoosingLaws
pub mod Taken
pub mod Answers
pub mod Theorems

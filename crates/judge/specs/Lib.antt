pub mod Answers
pub mod Asked
pub mod Bits
pub mod AskedLaws
pub mod AnswerLaws
pub mod Theorems

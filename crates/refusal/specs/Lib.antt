pub mod Refusals
pub mod Print
pub mod Said
pub mod RefusalLaws

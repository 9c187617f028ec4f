pub mod Packed
pub mod Promises
pub mod Unpacked
pub mod UnpackedLaws
pub mod FitLaws
pub mod SheetFitLaws
pub mod Theorems

pub mod Starred
pub mod Packed
pub mod PackedLaws
pub mod Trial
pub mod TrialLaws

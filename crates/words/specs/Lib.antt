pub mod Word
pub mod WordLaws
pub mod MachineLaws
pub mod EndLaws
pub mod Turn
pub mod TurnLaws

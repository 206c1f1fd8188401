pub mod FoldLaws
pub mod InputLaws
pub mod LetterLaws
pub mod RingLaws
pub mod StepLaws
pub mod Theorem
pub mod TurnLaws
pub mod Cases

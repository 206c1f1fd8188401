pub mod LineLaws
pub mod AcceptedLaws
pub mod Inputs
pub mod Cases

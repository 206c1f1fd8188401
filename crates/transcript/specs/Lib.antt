pub mod Transcript
pub mod Laws

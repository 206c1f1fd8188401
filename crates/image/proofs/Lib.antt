pub mod Turns
pub mod BeforeLaws
pub mod Theorem

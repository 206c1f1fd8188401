pub mod Hexadecimal
pub mod Line
pub mod Laws
pub mod RunLaws

pub mod Ways
pub mod Refused

pub mod Checks
pub mod Laws

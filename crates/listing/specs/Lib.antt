pub mod Frame
pub mod Listing
pub mod Laws

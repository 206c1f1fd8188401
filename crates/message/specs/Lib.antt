pub mod Message
pub mod Read
pub mod Write
pub mod Laws

pub mod Play
pub mod Laws

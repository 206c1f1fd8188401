pub mod Laws
pub mod ActedLaws
pub mod TouchLaws

pub mod Find
pub mod FindLaws
pub mod Text
pub mod Inner
pub mod Laws

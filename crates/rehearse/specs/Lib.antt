pub mod Rehearse
pub mod Inner
pub mod Laws

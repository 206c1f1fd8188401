pub mod Dump
pub mod Inner
pub mod Laws

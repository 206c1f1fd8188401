pub mod Ring
pub mod World
pub mod Rehearsed

pub mod Job
pub mod Turn
pub mod Run

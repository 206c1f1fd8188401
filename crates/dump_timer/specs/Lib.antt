pub mod Timer

pub mod ByWalk

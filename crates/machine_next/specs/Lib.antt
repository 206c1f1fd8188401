pub mod Next
pub mod Inner

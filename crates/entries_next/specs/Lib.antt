pub mod Next
pub mod Kind

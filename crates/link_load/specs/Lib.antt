pub mod Model
pub mod Report

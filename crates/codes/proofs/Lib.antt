pub mod Table
pub mod Ways

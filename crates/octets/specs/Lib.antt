pub mod Number
pub mod NumberLaws
pub mod TestLaws
pub mod Values
pub mod ValuesLaws

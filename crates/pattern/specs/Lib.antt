pub mod Pattern
pub mod Marks
pub mod Laws
pub mod MostLaws

pub mod Entries
pub mod Grammar
pub mod Laws
pub mod GrammarLaws

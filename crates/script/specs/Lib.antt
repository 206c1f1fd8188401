pub mod Script
pub mod Inner
pub mod Laws
pub mod AnswerLaws

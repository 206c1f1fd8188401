pub mod Window
pub mod Laws

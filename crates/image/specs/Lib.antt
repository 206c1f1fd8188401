pub mod Image
pub mod Walk
pub mod PartsLaws
pub mod Laws
pub mod Before

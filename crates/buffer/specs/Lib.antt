pub mod Lay
pub mod LayLaws
pub mod WrittenLaws

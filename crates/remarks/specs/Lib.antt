pub mod Remarks
pub mod Laws

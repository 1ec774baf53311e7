pub mod Turn
pub mod Onward
pub mod Laws
pub mod Whole

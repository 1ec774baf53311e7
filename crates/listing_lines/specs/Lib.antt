pub mod Text
pub mod Waiting

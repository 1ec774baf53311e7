pub mod Remainders
pub mod Forms

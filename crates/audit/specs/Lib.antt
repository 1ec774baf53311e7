pub mod Audit
pub mod Rows
pub mod Code

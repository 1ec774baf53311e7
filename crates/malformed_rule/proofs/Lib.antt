pub mod Scans
pub mod Rule

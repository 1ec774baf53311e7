pub mod Endpoint
pub mod Malformed
pub mod Code
pub mod Places

pub mod Payload
pub mod Promises

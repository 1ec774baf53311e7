pub mod Bytes
pub mod Writing
pub mod Items
pub mod Promises

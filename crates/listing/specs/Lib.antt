pub mod Standing
pub mod Promises
pub mod Moving
pub mod Reached

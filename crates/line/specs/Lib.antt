pub mod Receiving
pub mod Cuts
pub mod Worked
pub mod Promises
pub mod Code

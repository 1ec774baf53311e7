pub mod SequenceIds
pub mod Frames
pub mod Repeats
pub mod Promises

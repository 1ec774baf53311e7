pub mod Calls
pub mod Polls
pub mod Receives
pub mod AskedOnce
pub mod HeardResponse
pub mod NeverHeard

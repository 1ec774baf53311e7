pub mod Refining
pub mod Extending
pub mod Witness
pub mod Refused
pub mod Received
pub mod HeardCalls
pub mod Laws
pub mod Audited

pub mod Payloads
pub mod Matches
pub mod Laws
pub mod Examples

pub mod Once
pub mod Examples
pub mod Cases
pub mod States
pub mod Searches
pub mod FreeId
pub mod Keeping
pub mod Numbering

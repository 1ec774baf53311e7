pub mod TwoRequests
pub mod Witness

pub mod Times
pub mod Shortest

pub mod Tables
pub mod Walks
mod RowWalks
pub mod Positions
pub mod Laws
pub mod Examples

pub mod Chains
pub mod Claims

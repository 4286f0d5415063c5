pub mod Chains
pub mod Performing

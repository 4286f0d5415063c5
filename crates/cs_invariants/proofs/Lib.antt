pub mod Exploring
pub mod Sourcing
pub mod Keeping

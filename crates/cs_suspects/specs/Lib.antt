pub mod Spots
pub mod Chosen
pub mod Suspected
pub mod Solved

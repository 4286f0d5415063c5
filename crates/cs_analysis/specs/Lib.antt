pub mod Integers
pub mod Cuts

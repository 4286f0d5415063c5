pub mod Asked
pub mod Ascending
pub mod FaultyValues
pub mod Splits
pub mod Stepping

pub mod LastParts
pub mod Parentheses
pub mod Awaiting
pub mod Spots
pub mod Readings
pub mod Sites
pub mod Declarators

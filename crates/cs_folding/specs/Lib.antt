pub mod TypedParts
pub mod Folding
pub mod Addresses

pub mod Bounds
pub mod Conditions
pub mod Near
pub mod Pieces
pub mod Table
pub mod Term

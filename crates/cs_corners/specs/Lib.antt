pub mod Corners
pub mod Laws
pub mod Operands

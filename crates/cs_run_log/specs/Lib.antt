pub mod Computing
pub mod LogView
pub mod Pieces

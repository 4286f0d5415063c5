pub mod Building
mod Arithmetic
mod Pointers
mod Blocks
mod Control
mod Guesses
mod Initializers
mod Lists
mod Evaluation
mod Touching
pub mod Weights
pub mod Owing
pub mod Keeping
pub mod Weighing
pub mod Lessening
pub mod ProgramEndings

pub mod PathOrder
pub mod PathText
pub mod Inputs
pub mod InputText
pub mod Reading

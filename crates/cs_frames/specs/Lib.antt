pub mod Calling
pub mod Jumping
pub mod Switching

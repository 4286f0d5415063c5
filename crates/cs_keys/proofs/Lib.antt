mod Reading
pub mod Lines
mod Divided
mod Sharing

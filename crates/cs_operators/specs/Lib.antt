pub mod Asking
pub mod Pointing

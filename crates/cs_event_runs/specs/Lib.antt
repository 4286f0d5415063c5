pub mod Settings
pub mod Left
pub mod First
pub mod ByEvents

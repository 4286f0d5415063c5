pub mod Options
pub mod Values
pub mod Settings
pub mod Meaning
pub mod Scan

pub mod Changes
pub mod FirstChanges
pub mod Reading
pub mod Rows
pub mod Starts

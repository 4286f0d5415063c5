pub mod Keys
pub mod Tree
pub mod Update
pub mod Pending
pub mod Many

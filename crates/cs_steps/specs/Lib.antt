pub mod Reaching
pub mod Loading
pub mod Fetching
pub mod Storing
pub mod Updating

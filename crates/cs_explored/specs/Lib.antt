pub mod Found
pub mod Watching
pub mod Answering
pub mod Placing

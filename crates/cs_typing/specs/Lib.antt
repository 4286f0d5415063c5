pub mod Functions
pub mod Files
pub mod View
pub mod Programs

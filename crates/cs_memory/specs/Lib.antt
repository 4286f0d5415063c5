pub mod FoundView
pub mod MemoryView
pub mod Reaching

pub mod LocalMemory
pub mod Unfilled
pub mod Bindings
pub mod WrittenLocals

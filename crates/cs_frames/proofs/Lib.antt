pub mod Beginning
pub mod Calling
pub mod InRows
pub mod NewLocals
pub mod Overwriting
pub mod Rows
pub mod Stacks
pub mod Writing

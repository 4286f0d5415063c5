pub mod Coding
pub mod Digests
pub mod Folding
pub mod After

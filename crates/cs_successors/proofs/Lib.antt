pub mod Proceeding
pub mod Agreeing
pub mod Passing

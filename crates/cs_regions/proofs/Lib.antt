pub mod SameBase
pub mod Places

pub mod Agreement
pub mod Pools
pub mod Certificates
pub mod Proving
pub mod Choosing
pub mod Partnering

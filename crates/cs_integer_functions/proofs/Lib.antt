mod Forms
pub mod Parameters

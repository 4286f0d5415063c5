pub mod Casts
pub mod Layouts
pub mod Numbers

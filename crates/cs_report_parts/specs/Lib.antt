pub mod RunLines
pub mod RunJson

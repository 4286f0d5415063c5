pub mod ArgumentConversions

pub mod Order
pub mod Tags
pub mod Objects
pub mod Functions
pub mod Beginning
pub mod View

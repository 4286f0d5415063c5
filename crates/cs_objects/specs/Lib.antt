pub mod AccessView
pub mod BlockView
pub mod PieceOrder
pub mod Prepared
pub mod TypeView

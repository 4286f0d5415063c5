pub mod Inexact
pub mod Asking
pub mod Real
pub mod Graphs
pub mod Cornered
pub mod Cuts

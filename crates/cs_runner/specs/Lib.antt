pub mod RunView
pub mod RunnerView

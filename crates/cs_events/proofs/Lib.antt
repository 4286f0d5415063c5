pub mod RunLaws
pub mod LogGrowth
pub mod PendingLaws
pub mod PendingKept
pub mod Endings
pub mod Simulations

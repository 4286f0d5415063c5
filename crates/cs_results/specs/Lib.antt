pub mod RunBudgets
pub mod Selected
pub mod Verdicts

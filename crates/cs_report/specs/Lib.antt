pub mod RefusalLines
pub mod ReplayLines
pub mod AnalysisLines
pub mod AnalysisJson
pub mod SummaryLines

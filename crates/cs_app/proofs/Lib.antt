pub mod AnswerLemmas
pub mod AnalysisLemmas
pub mod AcceptedLemmas
pub mod WrittenAnswers

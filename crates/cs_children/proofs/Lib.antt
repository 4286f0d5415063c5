mod Apart
mod AddedPieces
mod Found
mod SettledAnswers

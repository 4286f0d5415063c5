pub mod EveryRun
mod PrefixTrees
mod RunsOfRows
pub mod CutNodes
mod InputFree
mod PlainMemory
mod ReadsNothing
mod SameParameters
mod ChangedNumbers
mod GuessOrder
mod CornerMoves
mod SameOperands
mod EvidentGuesses
mod EvidentSuspects
pub mod AllShown

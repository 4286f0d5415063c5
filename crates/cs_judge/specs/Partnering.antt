-- Partners in the pool that is judged.
use Rattle.std.specs.Prelude.{◌⊎◌, ℕ, ◌<◌, ℤ, IsTrue, List, length, map, Option}
use Rattle.cs_findings.specs.Grounds.{Pair}
use Rattle.cs_findings.specs.Narrower.{fits_left, fits_right}
use Rattle.cs_compared.specs.Guessable.{IsGuessable}
use Rattle.cs_judge.specs.declared.choosing.Candidate.{Candidate}
use Rattle.cs_judge.specs.declared.judging.Judge.{Judge}
use Rattle.cs_judge.specs.declared.judging.Spot.{Spot}
use Rattle.cs_judge.specs.declared.pool.Partners.{Partners}
use Rattle.cs_judge.specs.declared.pool.Replay.{Replay}
use Rattle.cs_judge.specs.Choosing.{IsCandidate}
use Rattle.cs_judge.specs.Proving.{bare, IsPartner, HasOther, ProvesGuess, HasProof, IsProved, FindsProofs}

-- a run of the pool reaches the noted operation too, with these operands
abbrev pub Meets : Judge → Replay → Spot → ℕ → Pair → Type 0
Meets judge mine spot = IsPartner (map bare judge.pool.now) (bare mine) spot.place spot.passed spot.at spot.operation

-- a run of the pool is named that reaches it with another operand
abbrev pub MeetsOther : Judge → Replay → Spot → (Pair → ℤ) → Option ℕ → Type 0
MeetsOther judge mine spot = HasOther (map bare judge.pool.now) (bare mine) spot.place spot.passed spot.at spot.operation

-- the number could be the result with the left operand, or a run with another one is named; the same for the right operand
abbrev pub IsLeftFree : Judge → Replay → Spot → Option ℕ → Type 0
IsLeftFree judge mine spot named = IsTrue (fits_left spot.operation spot.guess.number) ⊎ MeetsOther judge mine spot (λ pair. pair.0) named

abbrev pub IsRightFree : Judge → Replay → Spot → Option ℕ → Type 0
IsRightFree judge mine spot named = IsTrue (fits_right spot.operation spot.guess.number) ⊎ MeetsOther judge mine spot (λ pair. pair.1) named

-- these partners prove a guess of a replay; some partners prove it; those that the replay names prove it
abbrev pub Proves : Judge → Replay → ℕ → Partners → Type 0
Proves judge mine place = ProvesGuess (map bare judge.pool.now) (bare mine) place judge.model

abbrev pub CanProve : Judge → Replay → ℕ → Type 0
CanProve judge mine place = HasProof (map bare judge.pool.now) (bare mine) place judge.model

abbrev pub NamesProof : Judge → Replay → ℕ → Type 0
NamesProof judge mine = IsProved judge.model (map bare judge.pool.now) mine

-- a replay names partners that prove its guesses, for each of them
abbrev pub NamesAllProofs : Judge → Replay → Type 0
NamesAllProofs judge mine = (place : ℕ) → place < length mine.run.guesses.items → NamesProof judge mine place

-- partners that prove a guess are found for each guess of a replay for which the pool has some
abbrev pub FindsRow : Judge → Replay → List Partners → Type 0
FindsRow judge mine = FindsProofs judge.model (map bare judge.pool.now) (bare mine)

-- the candidates are exactly the runs of the pool with numbers below this one that reach the operation
pub record AreCandidatesBelow (judge : Judge) (mine : Replay) (spot : Spot) (below : ℕ) (candidates : List Candidate) : Type 0 where
  pub meet : (number : ℕ) (pair : Pair) → IsCandidate candidates number pair → Meets judge mine spot number pair
  pub all : IsGuessable spot.operation → (number : ℕ) (pair : Pair) → number < below → Meets judge mine spot number pair
      → IsCandidate candidates number pair

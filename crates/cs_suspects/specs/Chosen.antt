-- Which ends of an exploration are suspected: some end of each fault and of each met budget.
use Rattle.std.specs.Prelude.{◌≡◌, ◌⊎◌, ℕ, Bool, true, false, List, map, Some, slice_get, Contains}
use Rattle.cs_events.specs.declared.outcome.Outcome.{Outcome}
use Rattle.cs_explored.specs.declared.explored.End.{End}
use Rattle.cs_findings.specs.GoodFindings.{IsFinding}
use Rattle.cs_suspects.specs.declared.choosing.Rank.{Rank}
use Rattle.cs_suspects.specs.declared.choosing.Count.{Count}

-- the numbers of ranked ends
abbrev pub numbers_of : List Rank → List ℕ
numbers_of ranks = map (λ rank. rank.number) ranks

-- each number is that of an end that is a fault or a met budget
abbrev pub AreOfFindings : List End → List ℕ → Type 0
AreOfFindings ends numbers = (number : ℕ) → Contains numbers number → (end : End) × (slice_get ends number ≡ Some end) × IsFinding end.outcome

-- all ends that are faults or met budgets are among them
abbrev pub HaveAllFindings : List End → List ℕ → Type 0
HaveAllFindings ends numbers = (number : ℕ) (end : End) → slice_get ends number ≡ Some end → IsFinding end.outcome → Contains numbers number

-- an end with this outcome is among them
abbrev pub IsChosen : List End → List ℕ → Outcome → Type 0
IsChosen ends numbers outcome = (number : ℕ) × (end : End) × Contains numbers number × (slice_get ends number ≡ Some end) × (end.outcome ≡ outcome)

-- for each fault and each met budget, an end with this outcome is among them
abbrev pub AreAllChosen : List End → List ℕ → Type 0
AreAllChosen ends numbers = (end : End) → Contains ends end → IsFinding end.outcome → IsChosen ends numbers end.outcome

-- the outcomes that are counted
abbrev pub counted : List Count → List Outcome
counted counts = map (λ count. count.outcome) counts

-- if an end isn't wanted, its outcome was counted before; no further outcome is counted, except that of a wanted end
pub record IsWanted (outcome : Outcome) (before : List Outcome) (wanted : Bool) (after : List Outcome) : Type 0 where
  pub refused : wanted ≡ false → Contains before outcome
  pub others : (other : Outcome) → Contains after other → Contains before other ⊎ ((other ≡ outcome) × (wanted ≡ true))

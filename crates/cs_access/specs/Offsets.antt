-- The offsets of an access, each with the state of the runs that have it.
use Rattle.std.specs.Prelude.{◌≡◌, ◌⊎◌, ◌<◌, ◌≤◌, ◌↔◌, ◌^◌, ◌-◌, ℕ, ℤ, pos, false, int_lt, min, List, [], ◌∷◌}
use Rattle.std.specs.Prelude.{◌++◌, map, reverse, if◌then◌else◌}
use Rattle.std.specs.Ordering.{int_eq}
use Rattle.std.specs.List.{All, Contains}
use Rattle.cs_ranges.specs.declared.range_set.Interval.{Interval}
use Rattle.cs_ranges.specs.Interval.{IsInside}
use Rattle.cs_ranges.specs.RangeSet.{IsCount}
use Rattle.cs_terms.specs.declared.term.Lin.{Lin}
use Rattle.cs_terms.specs.Term.{Valuation, value_of, value_at}
use Rattle.cs_constraints.specs.Constraints.{Fits, IsSetOf}
use Rattle.cs_state.specs.declared.state.State.{State}
use Rattle.cs_access.specs.Checks.{IsPart}
use Rattle.cs_access.specs.Numbers.{IsAscending, IsFollowed}
use Rattle.cs_access.specs.declared.reaching.ReachedOffset.{ReachedOffset}
use Rattle.cs_access.specs.declared.reaching.Reached.{Reached}
use Rattle.cs_access.specs.declared.reaching.Reached.TheVariants as reached

-- the state has exactly the valuations with which the term has this value
abbrev pub IsReachedAt : State → Lin → ReachedOffset → Type 0
IsReachedAt before term step = IsPart before (λ v. int_eq (value_of v term) step.offset) step.state

abbrev pub offsets_of : List ReachedOffset → List ℤ
offsets_of steps = map (λ step. step.offset) steps

-- different offsets in ascending order, each with the state of the runs that have it
pub record AreSteps (before : State) (term : Lin) (steps : List ReachedOffset) : Type 0 where
  pub ascending : IsAscending (offsets_of steps)
  pub states : All (IsReachedAt before term) steps

-- the set has at most this many numbers
pub record HasAtMost (set : List Interval) (most : ℕ) : Type 0 where
  pub count : ℕ
  pub is : IsCount set count
  pub few : count ≤ most

-- there are no more offsets than the budget allows, and each is followed
pub record AreAll (before : State) (term : Lin) (splits : ℕ) (steps : List ReachedOffset) : Type 0 where
  pub few : (set : List Interval) → IsSetOf before.constraints term.sym set → HasAtMost set splits
  pub each : AreSteps before term steps
  pub complete : (v : Valuation) → Fits v before.constraints → Contains (offsets_of steps) (value_of v term)

-- the term's symbol may have more numbers than the budget allows, and so may the term; exactly the runs with a followed number are followed
pub record AreTooMany (before : State) (term : Lin) (splits count : ℕ) (steps : List ReachedOffset) : Type 0 where
  pub set : List Interval
  pub is : IsSetOf before.constraints term.sym set
  pub size : ℕ
  pub counts : IsCount set size
  pub many : splits < size
  pub count_is : count ≡ min size (2 ^ 64 - 1)
  pub each : AreSteps before term steps
  pub followed : (v : Valuation) → Fits v before.constraints → Contains (offsets_of steps) (value_of v term) ↔ IsFollowed set (v is.sym.0)

-- the offsets that an access may have, as far as the budget allows
abbrev pub AreReached : State → Lin → ℕ → Reached → Type 0
AreReached before term splits (reached.All steps) = AreAll before term splits steps.items
AreReached before term splits (reached.TooMany count steps) = AreTooMany before term splits count steps.items

-- the term has this value under no valuation that fits
abbrev pub IsNeverAt : State → Lin → ℤ → Type 0
IsNeverAt before term offset = (v : Valuation) → Fits v before.constraints → int_eq (value_of v term) offset ≡ false

-- for each of these offsets in order, the next state is that of the runs that have it, or no run has it
abbrev pub AreTried : State → Lin → List ℤ → List ReachedOffset → Type 0
AreTried before term [] steps = steps ≡ []
AreTried before term (offset ∷ offsets) steps =
    (IsNeverAt before term offset × AreTried before term offsets steps)
    ⊎ ((step : ReachedOffset) × (rest : List ReachedOffset) × (steps ≡ step ∷ rest) × (step.offset ≡ offset)
    × IsReachedAt before term step × AreTried before term offsets rest)

-- no run has the offset, or the offset is appended, with the state of its runs
abbrev pub IsTried : State → Lin → ℤ → List ReachedOffset → List ReachedOffset → Type 0
IsTried before term offset steps more =
    (IsNeverAt before term offset × (more ≡ steps))
    ⊎ ((step : ReachedOffset) × (step.offset ≡ offset) × IsReachedAt before term step × (more ≡ steps ++ step ∷ []))

-- the term's values at these numbers are from -2^126 to 2^126
abbrev pub HasInside : Lin → List ℤ → Type 0
HasInside term numbers = (x : ℤ) → Contains numbers x → IsInside (value_at term x)

-- these numbers in the order in which the term's value grows
abbrev pub in_order : Lin → List ℤ → List ℤ
in_order term numbers = if int_lt term.slope (pos 0) then reverse numbers else numbers

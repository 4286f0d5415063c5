use Rattle.std.proofs.Common.{◌≡◌, Bool, false, ◌==◌, List, [], ◌∷◌, length, ◌∙◌, arith}
use Rattle.std.specs.Bool.{MatchBool}
use Rattle.std.proofs.lemmas.Bool.{or_left, ne_eqb}
use Rattle.cs_ranges.specs.declared.range_set.Interval.{Interval}
use Rattle.cs_ranges.specs.RangeSet.{IsEmpty, IsInhabited, IsSpread}
use Rattle.cs_ranges.proofs.Members.{contains-nil, contains-cons, in_interval-low}
use Rattle.cs_ranges.proofs.range_set.RangeSet.is_empty.Goals as goal

-- a set without intervals is empty, and otherwise the first number of the first interval is in it
empty_cases : (s : List Interval) (b : Bool) → IsSpread s → b ≡ (length s == 0) → MatchBool b (IsEmpty s) (IsInhabited s)
empty_cases [] b h e = rw e contains-nil
empty_cases (i ∷ s) b h e =
    let some : b ≡ false = e ∙ ne_eqb _ _ (λ none. omega arith) in
    rw some (i.low, contains-cons i s i.low ∙ or_left _ _ (in_interval-low i h.1))

pub returns : goal.returns
returns c = rw (← c.self.view_is) (empty_cases _ _ c.self.invariant c.is_empty.ensures)

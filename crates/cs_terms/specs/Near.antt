-- Three intervals of numbers, one for each of the wrap quotients -1, 0 and 1.
use Rattle.std.specs.Prelude.{◌≡◌, ◌↔◌, ◌≤◌, ◌^◌, IsTrue, ◌&&◌, not, ℤ, pos, negsuc, ◌*ℤ◌, unsigned_abs, List}
use Rattle.cs_ranges.specs.declared.range_set.Interval.{Interval}
use Rattle.cs_ranges.specs.Interval.{in_interval, IsInside}
use Rattle.cs_ranges.specs.RangeSet.{contains}
use Rattle.cs_terms.specs.declared.term.Lin.{Lin}
use Rattle.cs_terms.specs.declared.near.Near.{Near}
use Rattle.cs_terms.specs.declared.pieces.Pieces.{Pieces}
use Rattle.cs_terms.specs.Term.{value_at}

-- both ends are from -2^65 to 2^65
abbrev pub IsNarrow : Interval → Type 0
IsNarrow i = (unsigned_abs i.low ≤ 2 ^ 65) × (unsigned_abs i.high ≤ 2 ^ 65)

-- both ends are from -2^126 to 2^126
abbrev pub HasEndsInside : Interval → Type 0
HasEndsInside i = IsInside i.low × IsInside i.high

-- the interval has exactly the numbers whose quotient is this
abbrev pub HasQuotient : (ℤ → ℤ) → ℤ → Interval → Type 0
HasQuotient quotient q i = (x : ℤ) → IsTrue (in_interval i x) ↔ (quotient x ≡ q)

-- the intervals have exactly the numbers with the quotients -1, 0 and 1
pub record HaveQuotients (quotient : ℤ → ℤ) (near : Near) : Type 0 where
  pub under : HasQuotient quotient (negsuc 0) near.under
  pub same : HasQuotient quotient (pos 0) near.same
  pub past : HasQuotient quotient (pos 1) near.past

-- the numbers from -2^126 to 2^126 whose product with the factor is in the interval
abbrev pub HasCofactors : Interval → ℤ → Interval → Type 0
HasCofactors products factor i = (x : ℤ) → IsInside x → in_interval i x ≡ in_interval products (x *ℤ factor)

-- the numbers of the range at which the term has a value in the interval
abbrev pub IsAtValues : Lin → List Interval → Interval → List Interval → Type 0
IsAtValues term range values piece = (x : ℤ) → contains piece x ≡ (contains range x && in_interval values (value_at term x))

-- the range, split by which of the intervals contains the term's value
pub record IsCut (near : Near) (term : Lin) (range : List Interval) (pieces : Pieces) : Type 0 where
  pub under : IsAtValues term range near.under pieces.under
  pub same : IsAtValues term range near.same pieces.same
  pub past : IsAtValues term range near.past pieces.past
  pub far : (x : ℤ) → contains pieces.far x
      ≡ (((contains range x && not (contains pieces.under x)) && not (contains pieces.same x)) && not (contains pieces.past x))

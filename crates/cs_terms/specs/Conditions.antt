-- Which numbers have to be from -2^126 to 2^126 (inside) before terms are added or scaled.
use Rattle.std.specs.Prelude.{◌≡◌, ◌≤◌, ◌^◌, unsigned_abs, ℤ, ◌+ℤ◌, ◌*ℤ◌, Option, None, Some}
use Rattle.cs_ranges.specs.Interval.{IsInside}
use Rattle.cs_terms.specs.declared.symbol.Sym.{Sym}
use Rattle.cs_terms.specs.declared.term.Lin.{Lin}
use Rattle.cs_terms.specs.Term.{value_at}

-- both have a symbol, and it is the same
abbrev pub HaveOneSymbol : Option Sym → Option Sym → Type 0
HaveOneSymbol None other = ⊥
HaveOneSymbol (Some sym) None = ⊥
HaveOneSymbol (Some sym) (Some other) = sym ≡ other

-- each term's value at the other's number is inside, and so is the sum of both values at either number
pub record FitTogether (left right : Lin) : Type 0 where
  pub left_there : IsInside (value_at left right.at)
  pub right_there : IsInside (value_at right left.at)
  pub sum_at_left : IsInside (left.value +ℤ value_at right left.at)
  pub sum_at_right : IsInside (value_at left right.at +ℤ right.value)

-- the slopes, their sum and the terms' values at their own numbers are inside, and so are the sums of the values
pub record CanAdd (left right : Lin) : Type 0 where
  pub left_slope : IsInside left.slope
  pub right_slope : IsInside right.slope
  pub slopes : IsInside (left.slope +ℤ right.slope)
  pub left_value : IsInside left.value
  pub right_value : IsInside right.value
  pub over_one : HaveOneSymbol left.sym right.sym → FitTogether left right
  pub over_others : ¬ HaveOneSymbol left.sym right.sym → IsInside (left.value +ℤ right.value)

-- the slope and the value are inside, before the scaling and after it
pub record CanScale (term : Lin) (factor : ℤ) : Type 0 where
  pub slope : IsInside term.slope
  pub scaled_slope : IsInside (term.slope *ℤ factor)
  pub value : IsInside term.value
  pub scaled_value : IsInside (term.value *ℤ factor)

-- the slope is at most 2^65 in size, and the value at the term's own number at most 2^64: two such terms with the same own number can be added
pub record IsSmall (term : Lin) : Type 0 where
  pub slope : unsigned_abs term.slope ≤ 2 ^ 65
  pub value : unsigned_abs term.value ≤ 2 ^ 64

-- the two have no symbol in common, or their values are at the same number of it
abbrev pub AreSeenTogether : Lin → Lin → Type 0
AreSeenTogether left right = HaveOneSymbol left.sym right.sym → left.at ≡ right.at

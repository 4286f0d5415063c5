-- Parts of constraints: some of the valuations that fit.
use Rattle.std.specs.Prelude.{◌≡◌, ◌≢◌, ◌↔◌, ℕ, ℤ, pos, Bool, true, false, not, nat_eq, if◌then◌else◌, IsTrue, is_some, List, []}
use Rattle.std.specs.Prelude.{◌∷◌, Option, None, Some}
use Rattle.cs_ranges.specs.declared.range_set.Interval.{Interval}
use Rattle.cs_ranges.specs.RangeSet.{contains}
use Rattle.cs_terms.specs.declared.symbol.Sym.{Sym}
use Rattle.cs_terms.specs.declared.term.Lin.{Lin}
use Rattle.cs_terms.specs.Term.{Valuation}
use Rattle.cs_events.specs.declared.event.Label.{Label}
use Rattle.cs_constraints.specs.Constraints.{Sets, set_of, Fits}
use Rattle.cs_eval.specs.declared.halves.Halves.{Halves}
use Rattle.cs_eval.specs.declared.piece.Piece.{Piece}

-- a truth for each valuation
abbrev pub Truths : Type 0
Truths = Valuation → Bool

-- exactly the valuations that fit and have the truth remain, and there are some; no symbol is added or removed, none gains a number, and
-- only the given one loses any
pub record IsPart (before : Sets) (symbol : Option Sym) (truth : Truths) (holds : Bool) (after : Sets) : Type 0 where
  pub exactly : (v : Valuation) → Fits v after ↔ (Fits v before × (truth v ≡ holds))
  pub some : (v : Valuation) × Fits v after
  pub same_symbols : (sym : ℕ) → is_some (set_of after sym) ≡ is_some (set_of before sym)
  pub within : (sym : ℕ) (found range : List Interval) → set_of after sym ≡ Some found → set_of before sym ≡ Some range
      → (x : ℤ) → IsTrue (contains found x) → IsTrue (contains range x)
  pub others : (other : Sym) → symbol ≢ Some other → set_of after other.0 ≡ set_of before other.0

-- the valuations that have the truth, or none if no valuation that fits has it
abbrev pub IsHalf : Sets → Option Sym → Truths → Bool → Option Sets → Type 0
IsHalf before symbol truth holds None = (v : Valuation) → Fits v before → truth v ≡ not holds
IsHalf before symbol truth holds (Some after) = IsPart before symbol truth holds after

-- the valuations under which a truth holds, and those under which it doesn't
pub record AreHalves (before : Sets) (symbol : Option Sym) (truth : Truths) (halves : Halves) : Type 0 where
  pub holds : IsHalf before symbol truth true halves.holds
  pub fails : IsHalf before symbol truth false halves.fails

-- a number as a term
abbrev pub number_term : ℤ → Lin
number_term number = record { sym = None; slope = pos 0; at = pos 0; value = number }

-- a piece without a guess
abbrev pub unguessed : Label → Lin → Sets → Piece
unguessed what number constraints = record { label = what; constraints = constraints; answer = number; guessed = None }

-- the piece of a half, if this isn't empty
abbrev pub unguessed_if : Label → Lin → Option Sets → List Piece
unguessed_if what number None = []
unguessed_if what number (Some constraints) = unguessed what number constraints ∷ []

-- the valuation with another number for one symbol
abbrev pub with_number : ℕ → ℤ → Valuation → Valuation
with_number sym number v other = if nat_eq other sym then number else v other

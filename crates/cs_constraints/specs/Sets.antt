-- The sets of symbols as a finite map.
use Rattle.std.specs.Prelude.{◌≡◌, ℕ, nat_eq, Bool, List, map as mapped, Option, Some}
use Rattle.std.specs.List.{list_any}
use Rattle.std.specs.FinMap as map
use Rattle.cs_pmap.specs.Keys.{key_cmp, EntryList}
use Rattle.cs_ranges.specs.declared.range_set.Interval.{Interval}
use Rattle.cs_ranges.specs.RangeSet.{IsInhabited}
use Rattle.cs_terms.specs.declared.symbol.Sym.{Sym}

-- a set of numbers for each declared symbol, keyed by the symbol's number and 0
abbrev pub Sets : Type 0
Sets = map.FinMap key_cmp (List Interval)

-- the numbers that a symbol may have; none if it isn't declared
abbrev pub set_of : Sets → ℕ → Option (List Interval)
set_of sets sym = map.get sets (sym, 0)

-- no set of a declared symbol is empty
abbrev pub AreInhabited : Sets → Type 0
AreInhabited sets = (sym : ℕ) (set : List Interval) → set_of sets sym ≡ Some set → IsInhabited set

-- one of the symbols has this number
abbrev pub has_sym : List Sym → ℕ → Bool
has_sym syms number = list_any (λ sym. nat_eq number sym.0) syms

-- a set for each symbol, as entries keyed by the symbol's number and 0
abbrev pub keyed : List Sym → List Interval → EntryList (List Interval)
keyed syms set = mapped (λ sym. ((sym.0, 0), set)) syms

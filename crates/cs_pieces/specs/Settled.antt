-- The answers of states: each is a term over a symbol on which it depends, or over that of a guess.
use Rattle.std.specs.Prelude.{◌≡◌, ◌≢◌, ◌⊎◌, ℤ, IsTrue, List, Option, None, Some}
use Rattle.cs_ranges.specs.declared.range_set.Interval.{Interval}
use Rattle.cs_ranges.specs.Affine.{affine}
use Rattle.cs_ranges.specs.RangeSet.{contains}
use Rattle.cs_terms.specs.declared.symbol.Sym.{Sym}
use Rattle.cs_terms.specs.declared.term.Lin.{Lin}
use Rattle.cs_terms.specs.Term.{value_of, value_at}
use Rattle.cs_constraints.specs.Constraints.{Sets, set_of, Fits}
use Rattle.cs_terms.specs.Term.{Valuation}

-- a term has different values at two of its symbol's numbers
pub record DependsOn (sets : Sets) (term : Lin) (symbol : Sym) : Type 0 where
  pub set : List Interval
  pub there : set_of sets symbol.0 ≡ Some set
  pub one : ℤ
  pub other : ℤ
  pub has_one : IsTrue (contains set one)
  pub has_other : IsTrue (contains set other)
  pub differ : value_at term one ≢ value_at term other

-- a term with the same values as the given one, over the symbol of the guess or over one on which it depends before the event
pub record IsSettled (before : Sets) (guess : Option Sym) (given settled : Lin) : Type 0 where
  pub values : (v : Valuation) → Fits v before → value_of v settled ≡ value_of v given
  pub over : (symbol : Sym) → settled.sym ≡ Some symbol → (guess ≡ Some symbol) ⊎ DependsOn before settled symbol

-- a constant with the value of a term at a number of its symbol
pub record IsConstantAt (term : Lin) (number : ℤ) (made : Lin) : Type 0 where
  pub no_symbol : made.sym ≡ None
  pub value : made.value ≡ affine term.slope term.at term.value number

-- When an answer's conditions hold, and which terms they may have.
use Rattle.std.specs.Prelude.{◌≡◌, ◌⊎◌, Bool, false, ◌||◌, ℤ, pos, Option, None, Some, List, [], ◌∷◌}
use Rattle.cs_ranges.specs.Interval.{IsInside}
use Rattle.cs_ranges.specs.RangeSet.{contains}
use Rattle.cs_model.specs.declared.kind.Kind.{Kind}
use Rattle.cs_terms.specs.declared.term.Lin.{Lin}
use Rattle.cs_terms.specs.declared.term.Lin2.{Lin2}
use Rattle.cs_terms.specs.Term.{Valuation, value_of_sum}
use Rattle.cs_checker.specs.declared.subject.Subject.{Subject}
use Rattle.cs_checker.specs.declared.subject.Subject.TheVariants.{Move, Divisor, Rest, Release, Shift}
use Rattle.cs_checker.specs.declared.answer.Cond.{Cond}
use Rattle.cs_checker.specs.Faults.{is_faulty_for, HasValues}

-- a number as a term
abbrev pub constant : ℤ → Lin
constant number = record { sym = None; slope = pos 0; at = pos 0; value = number }

-- the sum of a term and the constant 0
abbrev pub with_zero : Lin → Lin2
with_zero term = record { first = term; second = constant (pos 0) }

-- the term of an operation
abbrev pub own_term : Subject → Option Lin2
own_term (Move null amount) = Some (with_zero amount)
own_term (Divisor term) = Some (with_zero term)
own_term (Rest term) = Some term
own_term (Release block offset) = Some (with_zero offset)
own_term (Shift count width) = Some (with_zero count)
own_term other = None

-- the term is a number from -2^126 to 2^126
pub record IsNumber (term : Lin) : Type 0 where
  pub sym : term.sym ≡ None
  pub slope : term.slope ≡ pos 0
  pub inside : IsInside term.value

-- the sum is the operation's own term, or one of two numbers
abbrev pub IsTermFor : Subject → Lin2 → Type 0
IsTermFor subject term = (own_term subject ≡ Some term) ⊎ (IsNumber term.first × IsNumber term.second)

-- each condition's term is one that conditions on the operation may have
unfoldable pub HasTermsFor : Subject → List (Option Cond) → Type 0
HasTermsFor subject [] = Unit {0}
HasTermsFor subject (None ∷ conds) = HasTermsFor subject conds
HasTermsFor subject (Some cond ∷ conds) = IsTermFor subject cond.term × HasTermsFor subject conds

-- whether the condition's term has a value in one of its intervals
abbrev pub holds : Cond → Valuation → Bool
holds cond numbers = contains cond.bad (value_of_sum numbers cond.term)

-- whether one of the conditions holds
unfoldable pub some_holds : List (Option Cond) → Valuation → Bool
some_holds [] numbers = false
some_holds (None ∷ conds) numbers = some_holds conds numbers
some_holds (Some cond ∷ conds) numbers = holds cond numbers || some_holds conds numbers

-- whenever the operation's terms have values, one of the conditions holds exactly if the operation ends in a fault of this kind
abbrev pub YieldsFaults : Kind → Subject → List (Option Cond) → Type 0
YieldsFaults kind subject conds =
    (numbers : Valuation) → HasValues subject numbers → some_holds conds numbers ≡ is_faulty_for kind subject numbers

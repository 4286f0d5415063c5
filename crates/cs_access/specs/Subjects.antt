-- The term that decides whether an operation is faulty, and its faulty values.
use Rattle.std.specs.Prelude.{◌≡◌, pos, ◌+ℤ◌, ◌||◌, List, [], ◌∷◌, Option}
use Rattle.cs_ranges.specs.declared.range_set.Interval.{Interval}
use Rattle.cs_ranges.specs.Interval.{IsInside}
use Rattle.cs_ranges.specs.RangeSet.{contains}
use Rattle.cs_terms.specs.declared.term.Lin.{Lin}
use Rattle.cs_terms.specs.Term.{Valuation, value_of}
use Rattle.cs_checker.specs.Answers.{constant, some_holds, IsNumber, HasTermsFor}
use Rattle.cs_checker.specs.declared.answer.Cond.{Cond}
use Rattle.cs_checker.specs.declared.subject.Subject.{Subject}
use Rattle.cs_checker.specs.declared.subject.Subject.TheVariants.{Move, Divisor, Rest, Release, Shift}

-- the term that decides whether the operation is faulty; the number 0 if none does
abbrev pub term_of : Subject → Lin
term_of (Move null amount) = amount
term_of (Divisor term) = term
term_of (Release block offset) = offset
term_of (Shift count width) = count
term_of other = constant (pos 0)

-- both parts are numbers, and so is their sum
pub record IsKnownSum (first second : Lin) : Type 0 where
  pub first_number : IsNumber first
  pub second_number : IsNumber second
  pub inside : IsInside (first.value +ℤ second.value)

-- the operation's terms have values from -2^126 to 2^126; if one is a sum, it is of two constants
abbrev pub CanDecide : Subject → Valuation → Type 0
CanDecide (Move null amount) v = IsInside (value_of v amount)
CanDecide (Divisor term) v = IsInside (value_of v term)
CanDecide (Rest term) v = IsKnownSum term.first term.second
CanDecide (Release block offset) v = IsInside (value_of v offset)
CanDecide (Shift count width) v = IsInside (value_of v count)
CanDecide other v = Unit {0}

-- for each operation with such terms, the set has exactly the values of the deciding term for which one of the conditions holds
abbrev pub AreFaultyValues : List (Option Cond) → List Interval → Type 0
AreFaultyValues conds set =
    (subject : Subject) → HasTermsFor subject conds → (v : Valuation) → CanDecide subject v
    → contains set (value_of v (term_of subject)) ≡ some_holds conds v

-- the set has the values of another one, and those for which the condition holds, if there is one
abbrev pub AreJoined : List Interval → Option Cond → List Interval → Type 0
AreJoined set cond joined =
    (subject : Subject) → HasTermsFor subject (cond ∷ []) → (v : Valuation) → CanDecide subject v
    → contains joined (value_of v (term_of subject)) ≡ (contains set (value_of v (term_of subject)) || some_holds (cond ∷ []) v)

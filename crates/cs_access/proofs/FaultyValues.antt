-- The values of the deciding term for which conditions hold: for the contract of `faulty_values`.
use Rattle.std.proofs.Common.{◌≡◌, ◌≢◌, ◌⊎◌, ◌^◌, ℕ, Bool, true, false, ◌&&◌, ◌||◌, ℤ, pos, neg_ℤ, ◌+ℤ◌, ◌≤ℤ◌}
use Rattle.std.proofs.Common.{◌<ℤ◌, int_le}
use Rattle.std.proofs.Common.{List, [], ◌∷◌, ◌++◌, Option, None, Some, refl, sym, ap, ◌∙◌, subst, inl, inr, arith}
use Rattle.std.proofs.lemmas.Int.{ints, to_z-of_z}
use Rattle.cs_ranges.specs.declared.range_set.Interval.{Interval}
use Rattle.cs_ranges.specs.Interval.{IsInside, in_interval}
use Rattle.cs_ranges.specs.RangeSet.{contains}
use Rattle.std.specs.Int.{w128}
use Rattle.std.specs.Int.RustNames.{FitsSigned}
use Rattle.std.proofs.Common.{to_z, of_z, Result, Ok, Err, IfOk, ◌<◌, ◌+◌, zero, suc, length, take, get_or}
use Rattle.std.proofs.lemmas.List.{take_more, take_all}
use Rattle.std.proofs.Common.{◌≤◌}
use Rattle.cs_ranges.proofs.Members.{or_assoc, or-false, in_interval_yields}
use Rattle.cs_terms.specs.declared.term.Lin.{Lin}
use Rattle.cs_terms.specs.declared.term.Lin2.{Lin2}
use Rattle.cs_terms.specs.Term.{Valuation, value_of, value_of_sum}
use Rattle.cs_checker.specs.declared.answer.Cond.{Cond}
use Rattle.cs_checker.specs.declared.subject.Subject.{Subject}
use Rattle.cs_checker.specs.declared.subject.Subject.TheVariants.{Through, Move, Divisor, Cell, Rest, Slot, Release, Reached, Shift, Pair, Written}
use Rattle.cs_checker.specs.Answers.{with_zero, holds, some_holds, IsNumber, IsTermFor, HasTermsFor}
use Rattle.cs_access.specs.Subjects.{term_of, CanDecide, AreFaultyValues, AreJoined}

pub some_holds-none : (v : Valuation) → some_holds (None ∷ []) v ≡ false
unfolding some_holds
some_holds-none v = refl

pub some_holds-one : (cond : Cond) (v : Valuation) → some_holds (Some cond ∷ []) v ≡ holds cond v
unfolding some_holds
some_holds-one cond v = or-false (holds cond v)

pub some_holds-more : (conds : List (Option Cond)) (cond : Option Cond) (v : Valuation)
    → some_holds (conds ++ cond ∷ []) v ≡ (some_holds conds v || some_holds (cond ∷ []) v)
unfolding some_holds
some_holds-more [] cond v = refl
some_holds-more (None ∷ conds) cond v = some_holds-more conds cond v
some_holds-more (Some c ∷ conds) cond v =
    ap (λ b. holds c v || b) (some_holds-more conds cond v) ∙ or_assoc (holds c v) (some_holds conds v) (some_holds (cond ∷ []) v)

-- the deciding term's value is small
pub decides_inside : (subject : Subject) (v : Valuation) → CanDecide subject v → IsInside (value_of v (term_of subject))
decides_inside (Move null amount) v can = can
decides_inside (Divisor term) v can = can
decides_inside (Release block offset) v can = can
decides_inside (Shift count width) v can = can
decides_inside (Through null) v can = (omega (arith, ints), omega (arith, ints))
decides_inside (Cell unset) v can = (omega (arith, ints), omega (arith, ints))
decides_inside (Rest term) v can = (omega (arith, ints), omega (arith, ints))
decides_inside (Slot fits) v can = (omega (arith, ints), omega (arith, ints))
decides_inside (Reached standing) v can = (omega (arith, ints), omega (arith, ints))
decides_inside (Pair same) v can = (omega (arith, ints), omega (arith, ints))
decides_inside (Written fixed) v can = (omega (arith, ints), omega (arith, ints))

-- the term of a condition is the deciding term plus 0, or the sum of two numbers
abbrev IsDecided : Subject → Lin2 → Type 0
IsDecided subject term = (term ≡ with_zero (term_of subject)) ⊎ (IsNumber term.first × IsNumber term.second)

some_is : {A : Type 0} (x y : A) → Some x ≡ Some y → x ≡ y
some_is x y e = cc

decided : (subject : Subject) (v : Valuation) (term : Lin2) → CanDecide subject v → IsTermFor subject term → IsDecided subject term
decided subject v term can (inr numbers) = inr numbers
decided (Move null amount) v term can (inl own) = inl (sym (some_is _ _ own))
decided (Divisor divisor) v term can (inl own) = inl (sym (some_is _ _ own))
decided (Release block offset) v term can (inl own) = inl (sym (some_is _ _ own))
decided (Shift count width) v term can (inl own) = inl (sym (some_is _ _ own))
decided (Rest sum) v term can (inl own) =
    inr (subst (λ (t : Lin2). IsNumber t.first × IsNumber t.second) (some_is sum term own) (can.first_number, can.second_number))
decided (Through null) v term can (inl own) = cc
decided (Cell unset) v term can (inl own) = cc
decided (Slot fits) v term can (inl own) = cc
decided (Reached standing) v term can (inl own) = cc
decided (Pair same) v term can (inl own) = cc
decided (Written fixed) v term can (inl own) = cc

plus_zero : (x : ℤ) → x +ℤ pos 0 ≡ x
plus_zero x = omega (arith, ints)

-- if the term has a symbol, the faulty values are those in the intervals
pub over_symbol : (cond : Cond) (set : List Interval) → cond.term.first.sym ≢ None → ((x : ℤ) → IsInside x → contains set x ≡ contains cond.bad x)
    → AreFaultyValues (Some cond ∷ []) set
unfolding HasTermsFor
over_symbol cond set symbol same subject terms v can =
    elim (decided subject v cond.term can terms.0) [
      | inl own ↦ same (value_of v (term_of subject)) (decides_inside subject v can)
          ∙ ap (contains cond.bad) (sym (ap (λ (t : Lin2). value_of_sum v t) own ∙ plus_zero (value_of v (term_of subject))))
          ∙ sym (some_holds-one cond v)
      | inr numbers ↦ absurd (symbol numbers.0.sym)
    ]

pub number_is : (v : Valuation) (term : Lin) → term.sym ≡ None → value_of v term ≡ term.value
number_is v term none = simp none refl

-- if it has none, all values are faulty or none is
pub over_number : (cond : Cond) (set : List Interval) (met : Bool) → cond.term.first.sym ≡ None
    → met ≡ contains cond.bad (cond.term.first.value +ℤ cond.term.second.value) → ((x : ℤ) → IsInside x → contains set x ≡ met)
    → AreFaultyValues (Some cond ∷ []) set
unfolding HasTermsFor
over_number cond set met none is all subject terms v can =
    let second : cond.term.second.sym ≡ None =
    elim (decided subject v cond.term can terms.0) [
      | inl own ↦ ap (λ (t : Lin2). t.second.sym) own
      | inr numbers ↦ numbers.1.sym
    ] in
    let value : value_of_sum v cond.term ≡ cond.term.first.value +ℤ cond.term.second.value =
    (λ i. number_is v cond.term.first none i +ℤ number_is v cond.term.second second i) in
    all (value_of v (term_of subject)) (decides_inside subject v can) ∙ is ∙ ap (contains cond.bad) (sym value) ∙ sym (some_holds-one cond v)

-- an interval between numbers of 128 bits has no number beyond these
pub sum_past : (i : Interval) (sum : ℤ) → (FitsSigned w128 sum → ⊥) → FitsSigned w128 i.low → FitsSigned w128 i.high → false ≡ in_interval i sum
sum_past i sum past low high =
    elim (in_interval_yields i sum) [
      | inl within ↦ absurd (past (omega (arith, ints, within.1, within.2, low, high)))
      | inr outside ↦ sym outside.0
    ]

-- comparisons with numbers beyond the bounds of sets
pub past_all : (low x : ℤ) → pos (2 ^ 126) <ℤ low → IsInside x → (int_le (pos 1) x && int_le x (pos 0)) ≡ int_le low x
past_all low x past inside = grind (arith, ints, inside.1)

pub below_all : (high x : ℤ) → high <ℤ neg_ℤ (pos (2 ^ 126)) → IsInside x → (int_le (pos 1) x && int_le x (pos 0)) ≡ int_le x high
below_all high x below inside = grind (arith, ints, inside.0)

pub from_least : (low x : ℤ) → low <ℤ neg_ℤ (pos (2 ^ 126)) → IsInside x
    → (int_le (neg_ℤ (pos (2 ^ 126))) x && int_le x (pos (2 ^ 126))) ≡ int_le low x
from_least low x below inside = grind (arith, ints, inside.0, inside.1)

pub upto_greatest : (high x : ℤ) → pos (2 ^ 126) <ℤ high → IsInside x
    → (int_le (neg_ℤ (pos (2 ^ 126))) x && int_le x (pos (2 ^ 126))) ≡ int_le x high
upto_greatest high x past inside = grind (arith, ints, inside.0, inside.1)

pub from_here : (low x : ℤ) → IsInside x → (int_le low x && int_le x (pos (2 ^ 126))) ≡ int_le low x
from_here low x inside = grind (arith, ints, inside.1)

pub upto_here : (high x : ℤ) → IsInside x → (int_le (neg_ℤ (pos (2 ^ 126))) x && int_le x high) ≡ int_le x high
upto_here high x inside = grind (arith, ints, inside.0)

-- the terms of one condition
pub terms_at : (subject : Subject) (conds : List (Option Cond)) (place : ℕ) (d : Option Cond) → HasTermsFor subject conds → place < length conds
    → HasTermsFor subject (get_or conds place d ∷ [])
unfolding HasTermsFor
terms_at subject [] place d terms within = absurd (omega arith)
terms_at subject (None ∷ conds) zero d terms within = tt
terms_at subject (Some c ∷ conds) zero d terms within = (terms.0, tt)
terms_at subject (None ∷ conds) (suc place) d terms within = terms_at subject conds place d terms (omega arith)
terms_at subject (Some c ∷ conds) (suc place) d terms within = terms_at subject conds place d terms.1 (omega arith)

-- one more condition
pub more_values : (subject : Subject) (v : Valuation) (conds : List (Option Cond)) (place : ℕ) (d : Option Cond) (set joined : List Interval)
    → place < length conds → HasTermsFor subject conds → CanDecide subject v
    → contains set (value_of v (term_of subject)) ≡ some_holds (take place conds) v → AreJoined set (get_or conds place d) joined
    → contains joined (value_of v (term_of subject)) ≡ some_holds (take (place + 1) conds) v
more_values subject v conds place d set joined within terms can before joins =
    joins subject (terms_at subject conds place d terms within) v can
    ∙ ap (λ b. b || some_holds (get_or conds place d ∷ []) v) before
    ∙ sym (ap (λ l. some_holds l v) (take_more conds place d within) ∙ some_holds-more (take place conds) (get_or conds place d) v)

pub sum_within : (i : Interval) (sum total : ℤ) → sum ≡ total → i.low ≤ℤ sum → int_le sum i.high ≡ in_interval i total
unfolding in_interval
sum_within i sum total same from = grind (arith, ints)

pub sum_below : (i : Interval) (sum total : ℤ) → sum ≡ total → sum <ℤ i.low → int_le i.low sum ≡ in_interval i total
unfolding in_interval
sum_below i sum total same below = grind (arith, ints)

-- the result of a call that a function returns
pub if_ok_map : {A E : Type 0} {P Q : A → Type 0} (r : Result A E) → IfOk r P → ((a : A) → P a → Q a) → IfOk r Q
if_ok_map (Ok a) p f = f a p
if_ok_map (Err e) p f = tt

pub none_between : (x : ℤ) → (int_le (pos 1) x && int_le x (pos 0)) ≡ false
none_between x = grind (arith, ints)

pub some_holds-nil : (v : Valuation) → some_holds [] v ≡ false
unfolding some_holds
some_holds-nil v = refl

pub join_none : (set : List Interval) (cond : Option Cond) → cond ≡ None → AreJoined set cond set
join_none set cond none subject terms v can =
    sym (or-false (contains set (value_of v (term_of subject))))
    ∙ ap (λ b. contains set (value_of v (term_of subject)) || b) (sym (ap (λ c. some_holds (c ∷ []) v) none ∙ some_holds-none v))

pub in_interval_is : (i : Interval) (x : ℤ) → (int_le i.low x && int_le x i.high) ≡ in_interval i x
unfolding in_interval
in_interval_is i x = refl

pub all_values : (conds : List (Option Cond)) (index : ℕ) (v : Valuation) (b : Bool) → length conds ≤ index
    → b ≡ some_holds (take index conds) v → b ≡ some_holds conds v
all_values conds index v b over h = h ∙ ap (λ l. some_holds l v) (take_all index conds over)

pub all_numbers : (s : List Interval) (index : ℕ) (x : ℤ) → length s ≤ index → contains (take index s) x ≡ contains s x
all_numbers s index x over = ap (λ l. contains l x) (take_all index s over)

pub same_sum : (a b : ℤ) → FitsSigned w128 a → FitsSigned w128 b → to_z w128 (of_z w128 a) +ℤ to_z w128 (of_z w128 b) ≡ a +ℤ b
same_sum a b first second = λ j. to_z-of_z w128 a first j +ℤ to_z-of_z w128 b second j

pub not_met : (a b : Bool) → a ≡ false → b ≡ false → (a || b) ≡ false
not_met a b first second = λ j. first j || second j

-- a number that is in some interval of a set
pub met_there : (s : List Interval) (k : ℕ) (d : Interval) (x : ℤ) → k < length s → in_interval (get_or s k d) x ≡ true → true ≡ contains s x
unfolding contains
met_there [] k d x within met = absurd (omega arith)
met_there (i ∷ s) zero d x within met = sym (ap (λ b. b || contains s x) met)
met_there (i ∷ s) (suc k) d x within met = or_true (in_interval i x) ∙ ap (λ b. in_interval i x || b) (met_there s k d x (omega arith) met)
  where
    or_true : (b : Bool) → true ≡ (b || true)
    or_true true = refl
    or_true false = refl

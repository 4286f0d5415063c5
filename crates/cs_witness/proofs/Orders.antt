-- The orders of findings and of cuts are total, and cuts that compare equal have one key. For the contracts of `cuts` and `witness`.
use Rattle.std.proofs.Common.{◌≡◌, ℕ, ◌<◌, List, [], ◌∷◌, get_or, refl, sym, ap, ◌∙◌}
use Rattle.std.specs.Cmp.{IsTotalOrder, on_total, then_total, ranks}
use Rattle.std.specs.Ordering.{nat_cmp, ordering_then, MatchOrdering}
use Rattle.std.specs.declared.cmp.Ordering.{Ordering}
use Rattle.std.specs.declared.cmp.Ordering.TheVariants.{Less, Equal, Greater}
use Rattle.std.proofs.lemmas.Cmp.{nat_cmp_total}
use Rattle.cs_ast.specs.declared.place.Place.{Place}
use Rattle.cs_model.specs.declared.kind.Kind.{Kind}
use Rattle.cs_model.specs.declared.kind.Kind.TheVariants.{Null, Divide, Unset, Bounds, DoubleFree, Freed, BadFree, DeadLocal, Shift, Unrelated, ConstWrite}
use Rattle.cs_model.specs.Kinds.{kind_number}
use Rattle.cs_events.specs.declared.outcome.Budget.{Budget}
use Rattle.cs_events.specs.declared.outcome.Budget.TheVariants.{Visits, Depth, Events}
use Rattle.cs_events.specs.Budgets.{budget_number}
use Rattle.cs_events.specs.declared.outcome.Outcome.{Outcome}
use Rattle.cs_events.specs.declared.outcome.Outcome.TheVariants.{Done, Fault, Over}
use Rattle.cs_findings.specs.GoodEntries.{IsFault, IsOver, outcome_key, place_order, key_order, cut_order}

place_order-total : IsTotalOrder place_order
place_order-total =
    let files : IsTotalOrder (λ (a b : Place). nat_cmp a.file b.file) = on_total (λ (p : Place). p.file) nat_cmp_total in
    let lines : IsTotalOrder (λ (a b : Place). nat_cmp a.line b.line) = on_total (λ (p : Place). p.line) nat_cmp_total in
    let columns : IsTotalOrder (λ (a b : Place). nat_cmp a.column b.column) = on_total (λ (p : Place). p.column) nat_cmp_total in
    then_total files (then_total lines columns)

pub key_order-total : IsTotalOrder key_order
key_order-total =
    let places : IsTotalOrder (λ (a b : Place × ℕ). place_order a.0 b.0) = on_total (λ (k : Place × ℕ). k.0) place_order-total in
    let numbers : IsTotalOrder (λ (a b : Place × ℕ). nat_cmp a.1 b.1) = on_total (λ (k : Place × ℕ). k.1) nat_cmp_total in
    then_total places numbers

pub cut_order-total : IsTotalOrder cut_order
cut_order-total =
    let forms : IsTotalOrder (λ (a b : ℕ × Place). nat_cmp a.0 b.0) = on_total (λ (k : ℕ × Place). k.0) nat_cmp_total in
    let places : IsTotalOrder (λ (a b : ℕ × Place). place_order a.1 b.1) = on_total (λ (k : ℕ × Place). k.1) place_order-total in
    then_total forms places

both_tie : (first second : Ordering) → ordering_then first second ≡ Equal → (first ≡ Equal) × (second ≡ Equal)
both_tie Less second e = absurd (cc)
both_tie Equal second e = (refl, e)
both_tie Greater second e = absurd (cc)

number_tie : (x y : ℕ) → nat_cmp x y ≡ Equal → x ≡ y
number_tie x y e = at (nat_cmp x y) e (ranks x y)
  where
    at : (r : Ordering) → r ≡ Equal → MatchOrdering r (x < y) (x ≡ y) (y < x) → x ≡ y
    at Less is ranked = absurd (cc)
    at Equal is ranked = ranked
    at Greater is ranked = absurd (cc)

place_tie : (a b : Place) → place_order a b ≡ Equal → a ≡ b
place_tie a b e =
    let outer = both_tie (nat_cmp a.file b.file) (ordering_then (nat_cmp a.line b.line) (nat_cmp a.column b.column)) e in
    let inner = both_tie (nat_cmp a.line b.line) (nat_cmp a.column b.column) outer.1 in
    let files = number_tie a.file b.file outer.0 in
    let lines = number_tie a.line b.line inner.0 in
    let columns = number_tie a.column b.column inner.1 in
    λ i. record { file = files i; line = lines i; column = columns i }

pub cut_tie : (a b : ℕ × Place) → cut_order a b ≡ Equal → a ≡ b
cut_tie a b e =
    let ties = both_tie (nat_cmp a.0 b.0) (place_order a.1 b.1) e in
    let forms = number_tie a.0 b.0 ties.0 in
    let places = place_tie a.1 b.1 ties.1 in
    λ i. (forms i, places i)

pub key_tie : (a b : Place × ℕ) → key_order a b ≡ Equal → a ≡ b
key_tie a b e =
    let ties = both_tie (place_order a.0 b.0) (nat_cmp a.1 b.1) e in
    let places = place_tie a.0 b.0 ties.0 in
    let numbers = number_tie a.1 b.1 ties.1 in
    λ i. (places i, numbers i)

-- the kinds and the budgets by their numbers, from 1
kinds : List Kind
kinds = Null ∷ Null ∷ Divide ∷ Unset ∷ Bounds ∷ DoubleFree ∷ Freed ∷ BadFree ∷ DeadLocal ∷ Shift ∷ Unrelated ∷ ConstWrite ∷ []

kind_there : (kind : Kind) → get_or kinds (kind_number kind) Null ≡ kind
unfolding kinds
kind_there Null = refl
kind_there Divide = refl
kind_there Unset = refl
kind_there Bounds = refl
kind_there DoubleFree = refl
kind_there Freed = refl
kind_there BadFree = refl
kind_there DeadLocal = refl
kind_there Shift = refl
kind_there Unrelated = refl
kind_there ConstWrite = refl

budgets : List Budget
budgets = Visits ∷ Visits ∷ Depth ∷ Events ∷ []

budget_there : (budget : Budget) → get_or budgets (budget_number budget) Visits ≡ budget
unfolding budgets
budget_there Visits = refl
budget_there Depth = refl
budget_there Events = refl

-- faults with equal keys are equal, and so are met budgets
pub one_fault : (one other : Outcome) → IsFault one → IsFault other → key_order (outcome_key one) (outcome_key other) ≡ Equal → one ≡ other
one_fault (Fault kind at) (Fault kind' at') is is' e =
    let keys = key_tie (at, kind_number kind) (at', kind_number kind') e in
    let same : kind ≡ kind' =
    sym (kind_there kind) ∙ ap (λ (k : Place × ℕ). get_or kinds k.1 Null) keys ∙ kind_there kind' in
    λ i. Fault (same i) (keys i).0
one_fault (Fault kind at) (Done returned) is is' e = absurd is'
one_fault (Fault kind at) (Over budget at') is is' e = absurd is'
one_fault (Done returned) other is is' e = absurd is
one_fault (Over budget at) other is is' e = absurd is

pub one_over : (one other : Outcome) → IsOver one → IsOver other → key_order (outcome_key one) (outcome_key other) ≡ Equal → one ≡ other
one_over (Over budget at) (Over budget' at') is is' e =
    let keys = key_tie (at, budget_number budget) (at', budget_number budget') e in
    let same : budget ≡ budget' =
    sym (budget_there budget) ∙ ap (λ (k : Place × ℕ). get_or budgets k.1 Visits) keys ∙ budget_there budget' in
    λ i. Over (same i) (keys i).0
one_over (Over budget at) (Done returned) is is' e = absurd is'
one_over (Over budget at) (Fault kind at') is is' e = absurd is'
one_over (Done returned) other is is' e = absurd is
one_over (Fault kind at) other is is' e = absurd is

-- The effect of an assumption on the valuations that fit: for the contract of `assume`.
use Rattle.std.proofs.Common.{◌≡◌, ◌≢◌, ◌⊎◌, ℕ, zero, suc, Bool, true, false, ◌&&◌, ℤ, pos, List, Option, Some, None, refl, sym, ap}
use Rattle.std.proofs.Common.{subst, ◌∙◌, inl, inr, arith}
use Rattle.std.specs.Prelude.{MatchOption, is_some}
use Rattle.std.proofs.lemmas.Option.{same_Some}
use Rattle.cs_ranges.specs.declared.range_set.Interval.{Interval}
use Rattle.cs_ranges.specs.RangeSet.{contains, IsEmpty, IsInhabited}
use Rattle.cs_terms.specs.declared.symbol.Sym.{Sym}
use Rattle.cs_terms.specs.declared.term.Lin.{Lin}
use Rattle.cs_terms.specs.Term.{Valuation, value_of, value_at}
use Rattle.cs_constraints.specs.Constraints.{Sets, set_of, AreInhabited, Fits, IsNarrowed, Keeps, RulesOut}

decide : (m n : ℕ) → (m ≡ n) ⊎ (m ≢ n)
decide zero zero = inl refl
decide zero (suc n) = inr (λ e. omega arith)
decide (suc m) zero = inr (λ e. omega arith)
decide (suc m) (suc n) = elim (decide m n) [
  | inl e ↦ inl (ap (λ k. suc k) e)
  | inr d ↦ inr (λ e. d (omega arith))
]

-- a number of a set, if there is one
abbrev pick : (o : Option (List Interval)) → ((set : List Interval) → o ≡ Some set → IsInhabited set) → ℤ
pick None h = pos 0
pick (Some set) h = (h set refl).0

pick-in : (o : Option (List Interval)) (h : (set : List Interval) → o ≡ Some set → IsInhabited set) (set : List Interval) → o ≡ Some set
    → contains set (pick o h) ≡ true
pick-in None h set e = absurd (cc)
pick-in (Some s) h set e = subst (λ (z : List Interval). contains z (pick (Some s) h) ≡ true) (same_Some s set e) (h s refl).1

-- if each symbol has a number, some valuation fits
pub fitting : (sets : Sets) → AreInhabited sets → (v : Valuation) × Fits v sets
fitting sets h = (λ s. pick (set_of sets s) (h s), λ s set e. pick-in (set_of sets s) (h s) set e)

-- a term's value by its symbol's number
pub value_of-symbol : (v : Valuation) (term : Lin) (s : Sym) → term.sym ≡ Some s → value_of v term ≡ value_at term (v s.0)
value_of-symbol v term s e = rw e refl

and-true : (a b : Bool) → (a && b) ≡ true → (a ≡ true) × (b ≡ true)
and-true true b h = (refl, h)
and-true false b h = absurd (cc)

-- a condition without symbols
pub constant_answer : (sets : Sets) (term : Lin) (set : List Interval) (holds : Bool) (answer : Option Sets) → term.sym ≡ None
    → holds ≡ contains set term.value → MatchOption answer (holds ≡ false) (λ copy. (holds ≡ true) × (copy ≡ sets) × AreInhabited copy)
    → MatchOption answer (RulesOut sets term set) (Keeps sets term set)
constant_answer sets term set holds None e h m = λ v fits. rw e (sym h ∙ m)
constant_answer sets term set holds (Some copy) e h m =
    record {
      exactly = λ v. (
        λ fits. (subst (λ (z : Sets). Fits v z) m.1 fits, rw e (sym h ∙ m.0)),
        λ both. subst (λ (z : Sets). Fits v z) (sym m.1) both.0,
      );
      some = fitting copy m.2;
      same_symbols = λ s. ap (λ (z : Sets). is_some (set_of z s)) m.1;
      within = λ s found range f r x. subst (λ (z : List Interval). contains z x ≡ true)
          (same_Some found range (sym f ∙ ap (λ (z : Sets). set_of z s) m.1 ∙ r));
      others = λ other apart. ap (λ (z : Sets). set_of z other.0) m.1;
    }

-- the numbers of a symbol that an assumption keeps
abbrev pub KeptNumbers : Sets → Sym → Lin → List Interval → List Interval → Type 0
KeptNumbers sets s term set kept = (range : List Interval) → set_of sets s.0 ≡ Some range
    → (x : ℤ) → contains kept x ≡ (contains range x && contains set (value_at term x))

module _ (sets : Sets) (term : Lin) (set range kept : List Interval) (s : Sym) (over : term.sym ≡ Some s) (declared : set_of sets s.0 ≡ Some range)
    (numbers : (x : ℤ) → contains kept x ≡ (contains range x && contains set (value_at term x))) where
  ruled_out : IsEmpty kept → RulesOut sets term set
  ruled_out empty v fits =
      let here = fits s.0 range declared in
      let there = sym (numbers (v s.0)) ∙ empty (v s.0) in
      ap (contains set) (value_of-symbol v term s over) ∙ second (contains range (v s.0)) (contains set (value_at term (v s.0))) here there
    where
      second : (a b : Bool) → a ≡ true → (a && b) ≡ false → b ≡ false
      second true b e h = h
      second false b e h = absurd (cc)

  module _ (after : Sets) (narrowed : IsNarrowed sets s.0 kept after) where
    kept_valuation : (v : Valuation) → Fits v after → Fits v sets × (contains set (value_of v term) ≡ true)
    kept_valuation v fits =
        let both = and-true (contains range (v s.0)) (contains set (value_at term (v s.0))) (sym (numbers (v s.0)) ∙ fits s.0 kept narrowed.here) in (
          λ other found e. elim (decide other s.0) [
            | inl same ↦
                let own : range ≡ found = same_Some range found (sym declared ∙ ap (set_of sets) (sym same) ∙ e) in
                rw (same, ← own) both.0
            | inr differ ↦ fits other found (narrowed.elsewhere other differ ∙ e)
          ],
          ap (contains set) (value_of-symbol v term s over) ∙ both.1,
        )

    keeps_valuation : (v : Valuation) → Fits v sets → contains set (value_of v term) ≡ true → Fits v after
    keeps_valuation v fits t other found e = elim (decide other s.0) [
      | inl same ↦
          let own : kept ≡ found = same_Some kept found (sym narrowed.here ∙ ap (set_of after) (sym same) ∙ e) in
          rw (same, ← own) (numbers (v s.0)
          ∙ both (contains range (v s.0)) (contains set (value_at term (v s.0))) (fits s.0 range declared)
          (sym (ap (contains set) (value_of-symbol v term s over)) ∙ t))
      | inr differ ↦ fits other found (sym (narrowed.elsewhere other differ) ∙ e)
    ]
      where
        both : (a b : Bool) → a ≡ true → b ≡ true → (a && b) ≡ true
        both a b e f = rw (e, f) refl

    same_symbols : (other : ℕ) → is_some (set_of after other) ≡ is_some (set_of sets other)
    same_symbols other = elim (decide other s.0) [
      | inl same ↦ rw same (ap is_some narrowed.here ∙ sym (ap is_some declared))
      | inr differ ↦ ap is_some (narrowed.elsewhere other differ)
    ]

    within : (other : ℕ) (found before : List Interval) → set_of after other ≡ Some found → set_of sets other ≡ Some before
        → (x : ℤ) → contains found x ≡ true → contains before x ≡ true
    within other found before f r x t = elim (decide other s.0) [
      | inl same ↦
          let own : kept ≡ found = same_Some kept found (sym narrowed.here ∙ ap (set_of after) (sym same) ∙ f) in
          let had : range ≡ before = same_Some range before (sym declared ∙ ap (set_of sets) (sym same) ∙ r) in
          ap (λ z. contains z x) (sym had)
          ∙ (and-true (contains range x) (contains set (value_at term x)) (sym (numbers x) ∙ ap (λ z. contains z x) own ∙ t)).0
      | inr differ ↦
          let stays : found ≡ before = same_Some found before (sym f ∙ narrowed.elsewhere other differ ∙ r) in
          ap (λ z. contains z x) (sym stays) ∙ t
    ]

    others : (other : Sym) → term.sym ≢ Some other → set_of after other.0 ≡ set_of sets other.0
    others other apart =
        let made : ℕ → Sym = λ n. record { 0 = n } in
        narrowed.elsewhere other.0 (λ e. apart (over ∙ ap (λ (n : ℕ). Some (made n)) (sym e)))

    keeps : AreInhabited after → Keeps sets term set after
    keeps inhabited = record {
      exactly = λ v. (kept_valuation v, λ both. keeps_valuation v both.0 both.1);
      some = fitting after inhabited;
      same_symbols = same_symbols;
      within = within;
      others = others;
    }

-- a condition on a symbol
pub narrowed_answer : (sets : Sets) (term : Lin) (set kept : List Interval) (s : Sym) (answer : Option Sets) → term.sym ≡ Some s
    → set_of sets s.0 ≢ None → KeptNumbers sets s term set kept
    → MatchOption answer (IsEmpty kept) (λ after. IsNarrowed sets s.0 kept after × AreInhabited after)
    → MatchOption answer (RulesOut sets term set) (Keeps sets term set)
narrowed_answer sets term set kept s answer over declared numbers m = by answer (set_of sets s.0) refl m
  where
    by : (answer : Option Sets) (o : Option (List Interval)) → set_of sets s.0 ≡ o
        → MatchOption answer (IsEmpty kept) (λ after. IsNarrowed sets s.0 kept after × AreInhabited after)
        → MatchOption answer (RulesOut sets term set) (Keeps sets term set)
    by answer None e m = absurd (declared e)
    by None (Some range) e m = ruled_out sets term set range kept s over e (numbers range e) m
    by (Some after) (Some range) e m = keeps sets term set range kept s over e (numbers range e) after m.0 m.1

-- if a symbol is narrowed to a nonempty set, each symbol still has a number
pub narrowed_inhabited : (sets after : Sets) (s : ℕ) (set : List Interval) → AreInhabited sets → IsInhabited set → IsNarrowed sets s set after
    → AreInhabited after
narrowed_inhabited sets after s set h i narrowed other found e = elim (decide other s) [
  | inl same ↦ subst (λ (z : List Interval). IsInhabited z) (same_Some set found (sym narrowed.here ∙ ap (set_of after) (sym same) ∙ e)) i
  | inr differ ↦ h other found (sym (narrowed.elsewhere other differ) ∙ e)
]

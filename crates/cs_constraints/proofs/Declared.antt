-- The sets of symbols after one symbol is declared: for the contracts of `declare` and `new`.
use Rattle.std.proofs.Common.{◌≡◌, ◌≢◌, ℕ, nat_eq, ◌||◌, inl, inr, Bool, true, false, cond, List, [], ◌∷◌, Some, Result, Ok, Err, refl, sym, ap, subst, ◌∙◌}
use Rattle.std.specs.Prelude.{Option, OnOk, OnErr}
use Rattle.std.proofs.lemmas.Bool.Decides.{eqb_tells}
use Rattle.std.specs.FinMap as map
use Rattle.std.specs.FinMap.{get-insert}
use Rattle.std.specs.Cmp.{eq_by_cmp_equiv}
use Rattle.std.specs.Ordering.{eq_by_cmp, is_eq}
use Rattle.std.specs.declared.cmp.Ordering.{Ordering}
use Rattle.std.specs.declared.cmp.Ordering.TheVariants.{Less, Equal, Greater}
use Rattle.std.proofs.lemmas.Option.{same_Some}
use Rattle.cs_pmap.specs.Keys.{key_cmp, EntryList}
use Rattle.cs_pmap.specs.Many.{insert_all}
use Rattle.cs_pmap.proofs.AtBranch.{key_cmp_total}
use Rattle.cs_pmap.proofs.FiniteMap.{key_cmp_exact}
use Rattle.cs_ranges.specs.declared.range_set.Interval.{Interval}
use Rattle.cs_ranges.specs.RangeSet.{IsInhabited}
use Rattle.cs_constraints.specs.Sets.{Sets, set_of, AreInhabited, has_sym, keyed}
use Rattle.cs_terms.specs.declared.symbol.Sym.{Sym}

is_eq-Equal : (o : Ordering) → is_eq o ≡ true → o ≡ Equal
is_eq-Equal Less h = absurd (cc)
is_eq-Equal Equal h = refl
is_eq-Equal Greater h = absurd (cc)

false-from_not : (b : Bool) → ¬ (b ≡ true) → b ≡ false
false-from_not true h = absurd (h refl)
false-from_not false h = refl

-- the set that was declared
pub set_of-here : (sets : Sets) (s : ℕ) (set : List Interval) → set_of (map.insert sets (s, 0) set) s ≡ Some set
set_of-here sets s set =
    get-insert key_cmp_total sets (s, 0) set (s, 0)
    ∙ ap (λ b. cond b (Some set) (set_of sets s)) ((eq_by_cmp_equiv key_cmp_total).refl (s, 0))

-- any other symbol's set
pub set_of-elsewhere : (sets : Sets) (s other : ℕ) (set : List Interval) → other ≢ s → set_of (map.insert sets (s, 0) set) other ≡ set_of sets other
set_of-elsewhere sets s other set differ =
    let apart : eq_by_cmp key_cmp (other, 0) (s, 0) ≡ false =
    false-from_not (eq_by_cmp key_cmp (other, 0) (s, 0)) (λ t.
    differ (ap (λ (k : ℕ × ℕ). k.0) (key_cmp_exact (other, 0) (s, 0) (is_eq-Equal (key_cmp (other, 0) (s, 0)) t)))) in
    get-insert key_cmp_total sets (s, 0) set (other, 0) ∙ ap (λ b. cond b (Some set) (set_of sets other)) apart

-- each symbol still has a number if the declared set isn't empty
inhabited-insert : (sets : Sets) (s : ℕ) (set : List Interval) → AreInhabited sets → IsInhabited set → AreInhabited (map.insert sets (s, 0) set)
inhabited-insert sets s set h i other found e =
    by (eq_by_cmp key_cmp (other, 0) (s, 0)) (sym (get-insert key_cmp_total sets (s, 0) set (other, 0)) ∙ e)
  where
    by : (b : Bool) → cond b (Some set) (set_of sets other) ≡ Some found → IsInhabited found
    by true f = subst (λ (z : List Interval). IsInhabited z) (same_Some set found f) i
    by false f = h other found f

pub inhabited-after : {T E : Type 0} (r : Result T E) (old new : Sets) (s : ℕ) (set : List Interval) → AreInhabited old → IsInhabited set
    → OnOk r (new ≡ map.insert old (s, 0) set) → OnErr r (new ≡ old) → AreInhabited new
inhabited-after (Ok x) old new s set h i ok err = subst (λ (z : Sets). AreInhabited z) (sym ok) (inhabited-insert old s set h i)
inhabited-after (Err x) old new s set h i ok err = subst (λ (z : Sets). AreInhabited z) (sym err) h

key_test : (b c : ℕ) → eq_by_cmp key_cmp (b, 0) (c, 0) ≡ nat_eq b c
key_test b c =
    elim (eqb_tells b c) [
      | inl same ↦ ap (λ (x : ℕ). eq_by_cmp key_cmp (b, 0) (x, 0)) (sym same.1) ∙ (eq_by_cmp_equiv key_cmp_total).refl (b, 0) ∙ sym same.0
      | inr other ↦ false-from_not (eq_by_cmp key_cmp (b, 0) (c, 0)) (λ t.
          other.1 (ap (λ (k : ℕ × ℕ). k.0) (key_cmp_exact (b, 0) (c, 0) (is_eq-Equal (key_cmp (b, 0) (c, 0)) t)))) ∙ sym other.0
    ]

once_or_later : {A : Type 0} (one rest : Bool) (v : A) (d : Option A) → cond rest (Some v) (cond one (Some v) d) ≡ cond (one || rest) (Some v) d
once_or_later true true v d = refl
once_or_later true false v d = refl
once_or_later false rest v d = refl

-- declaring several symbols at once declares them one by one
pub set_of-keyed : (syms : List Sym) (set : List Interval) (sets : Sets) (s : ℕ)
    → set_of (insert_all sets (keyed syms set)) s ≡ cond (has_sym syms s) (Some set) (set_of sets s)
set_of-keyed [] set sets s = refl
set_of-keyed (x ∷ syms) set sets s =
    set_of-keyed syms set (map.insert sets (x.0, 0) set) s
    ∙ ap (cond (has_sym syms s) (Some set)) (get-insert key_cmp_total sets (x.0, 0) set (s, 0)
    ∙ ap (λ t. cond t (Some set) (set_of sets s)) (key_test s x.0))
    ∙ once_or_later (nat_eq s x.0) (has_sym syms s) set (set_of sets s)

pub inhabited-keyed : {new : Sets} {entries : EntryList (List Interval)} (syms : List Sym) (set : List Interval) (sets : Sets) → entries ≡ keyed syms set
    → new ≡ insert_all sets entries → AreInhabited sets → IsInhabited set → AreInhabited new
inhabited-keyed syms set sets e is h i = rw (is, e) (each syms sets h)
  where
    each : (syms : List Sym) (sets : Sets) → AreInhabited sets → AreInhabited (insert_all sets (keyed syms set))
    each [] sets h = h
    each (x ∷ syms) sets h = each syms (map.insert sets (x.0, 0) set) (inhabited-insert sets x.0 set h i)

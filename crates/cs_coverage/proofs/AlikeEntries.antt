-- Maps with keys beside a zero whose entries have equal live parts have the same contents: for states with equal live parts.
use Rattle.std.proofs.Common.{◌≡◌, ℕ, Bool, true, false, cond, List, [], ◌∷◌, map, Option, None, Some, refl, sym, ap, ◌∙◌, subst}
use Rattle.std.specs.Prelude.{is_some, IsTrue}
use Rattle.std.specs.Ordering.{eq_by_cmp}
use Rattle.std.specs.FinMap as finite
use Rattle.std.specs.FinMap.Entries.{find}
use Rattle.cs_pmap.specs.Keys.{key_cmp, EntryList}
use Rattle.cs_store.proofs.EntryLists.{Keyed}
use Rattle.cs_store.proofs.Keys.{key_itself}

some_either : {V : Type 0} (t : Bool) (v : V) (o : Option V) → IsTrue (is_some o) → IsTrue (is_some (cond t (Some v) o))
some_either true v o h = refl
some_either false v o h = h

module _ {V : Type 0} where
  first_keyed : (e : (ℕ × ℕ) × V) (es : EntryList V) → Keyed (e ∷ es) → e.0.1 ≡ 0
  first_keyed e es keyed = keyed e.0 (ap (λ t. is_some (cond t (Some e.1) (find key_cmp e.0 es))) (key_itself e.0))

  rest_keyed : (e : (ℕ × ℕ) × V) (es : EntryList V) → Keyed (e ∷ es) → Keyed es
  rest_keyed e es keyed key there = keyed key (some_either (eq_by_cmp key_cmp key e.0) e.1 (find key_cmp key es) there)

  -- entries with equal keys, one by one, and values related by R
  abbrev pub AreAlike : (V → V → Type 0) → EntryList V → EntryList V → Type 0
  AreAlike R [] [] = Unit {0}
  AreAlike R [] (f ∷ fs) = ⊥
  AreAlike R (e ∷ es) [] = ⊥
  AreAlike R (e ∷ es) (f ∷ fs) = (e.0 ≡ f.0) × R e.1 f.1 × AreAlike R es fs

  -- both maps have nothing at a key, or related values
  abbrev pub FindsAlike : (V → V → Type 0) → Option V → Option V → Type 0
  FindsAlike R None None = Unit {0}
  FindsAlike R None (Some y) = ⊥
  FindsAlike R (Some x) None = ⊥
  FindsAlike R (Some x) (Some y) = R x y

  either_alike : (R : V → V → Type 0) (t : Bool) (x y : V) (o p : Option V) → R x y → FindsAlike R o p
      → FindsAlike R (cond t (Some x) o) (cond t (Some y) p)
  either_alike R true x y o p here rest = here
  either_alike R false x y o p here rest = rest

  find_alike : (R : V → V → Type 0) (key : ℕ × ℕ) (es fs : EntryList V) → AreAlike R es fs
      → FindsAlike R (find key_cmp key es) (find key_cmp key fs)
  find_alike R key [] [] alike = tt
  find_alike R key [] (f ∷ fs) alike = absurd alike
  find_alike R key (e ∷ es) [] alike = absurd alike
  find_alike R key (e ∷ es) (f ∷ fs) alike =
      subst (λ k. FindsAlike R (cond (eq_by_cmp key_cmp key e.0) (Some e.1) (find key_cmp key es))
      (cond (eq_by_cmp key_cmp key k) (Some f.1) (find key_cmp key fs)))
      alike.0
      (either_alike R (eq_by_cmp key_cmp key e.0) e.1 f.1 (find key_cmp key es) (find key_cmp key fs) alike.1 (find_alike R key es fs alike.2))

  -- entries that are described equally are alike
  module _ {B : Type 0} (said other : ((ℕ × ℕ) × V) → B) (number : B → ℕ) (R : V → V → Type 0)
      (numbered : (e : (ℕ × ℕ) × V) → number (said e) ≡ e.0.0) (counted : (e : (ℕ × ℕ) × V) → number (other e) ≡ e.0.0)
      (same : (e f : (ℕ × ℕ) × V) → said e ≡ other f → R e.1 f.1) where
    pub said_alike : (es fs : EntryList V) → Keyed es → Keyed fs → map said es ≡ map other fs → AreAlike R es fs
    said_alike [] [] first second is = tt
    said_alike [] (f ∷ fs) first second is = cc
    said_alike (e ∷ es) [] first second is = cc
    said_alike (e ∷ es) (f ∷ fs) first second is =
        let here : said e ≡ other f = cc in
        let rest : map said es ≡ map other fs = cc in
        let numbers : e.0.0 ≡ f.0.0 = sym (numbered e) ∙ ap number here ∙ counted f in
        let zeros : e.0.1 ≡ f.0.1 = first_keyed e es first ∙ sym (first_keyed f fs second) in
        (λ i. (numbers i, zeros i), same e f here, said_alike es fs (rest_keyed e es first) (rest_keyed f fs second) rest)

  pub get_alike : (R : V → V → Type 0) (key : ℕ × ℕ) (one other : finite.FinMap key_cmp V) → AreAlike R (finite.entries one) (finite.entries other)
      → FindsAlike R (finite.get one key) (finite.get other key)
  get_alike R key one other alike =
      subst (λ o. FindsAlike R o (finite.get other key)) (sym (finite.get-entries one key))
      (subst (λ o. FindsAlike R (find key_cmp key (finite.entries one)) o) (sym (finite.get-entries other key))
      (find_alike R key (finite.entries one) (finite.entries other) alike))

  -- each key of a map is beside a zero
  pub map_keyed : (m : finite.FinMap key_cmp V) → ((key : ℕ × ℕ) → IsTrue (is_some (finite.get m key)) → key.1 ≡ 0) → Keyed (finite.entries m)
  map_keyed m keyed key there = keyed key (subst (λ (o : Option V). IsTrue (is_some o)) (sym (finite.get-entries m key)) there)

-- lists whose items are described equally have the same values
module _ {A B C : Type 0} (said other : A → B) (p q : A → C) (same : (x y : A) → said x ≡ other y → p x ≡ q y) where
  pub map_alike : (xs ys : List A) → map said xs ≡ map other ys → map p xs ≡ map q ys
  map_alike [] [] is = refl
  map_alike [] (y ∷ ys) is = cc
  map_alike (x ∷ xs) [] is = cc
  map_alike (x ∷ xs) (y ∷ ys) is =
      let here : said x ≡ other y = cc in
      let rest : map said xs ≡ map other ys = cc in
      let head = same x y here in
      let tail = map_alike xs ys rest in
      λ i. head i ∷ tail i

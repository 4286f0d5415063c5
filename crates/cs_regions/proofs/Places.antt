-- The indexes of keys in a list that has each once: for the contract of `number_of`.
use Rattle.std.proofs.Common.{◌≡◌, ◌⊎◌, ◌+◌, ℕ, zero, suc, Bool, true, false, Some, List, [], ◌∷◌, ◌++◌, slice_get, refl, sym, ap}
use Rattle.std.proofs.Common.{◌∙◌, inl, inr, subst, true≢false, arith}
use Rattle.std.specs.List.{Contains, IsDistinct, position_or_len, AllByRecursion}
use Rattle.std.specs.Map.{keys_of}
use Rattle.std.proofs.lemmas.Option.{none-some, same_Some}
use Rattle.std.proofs.lemmas.List.Elements.{Contains-append_right, Contains-get_or, Contains-append_cases, Contains-push_cases}
use Rattle.indexmap.specs.IndexMap.{insert_entry}

module _ {K : Type 0} where
  -- the keys are the same if they contain this one, and otherwise it is added at the end
  abbrev Seen : List K → K → List K → Type 0
  Seen before k after = (Contains before k × (after ≡ before)) ⊎ ((Contains before k → ⊥) × (after ≡ before ++ k ∷ []))

  get_next : (k : K) (ks : List K) (n : ℕ) → slice_get (k ∷ ks) (1 + n) ≡ slice_get ks n
  get_next k ks n =
      let next : 1 + n ≡ suc n = omega arith in
      ap (slice_get (k ∷ ks)) next

  all_at : (P : K → Type 0) (ks : List K) (x : K) (i : ℕ) → AllByRecursion P ks → slice_get ks i ≡ Some x → P x
  all_at P [] x i a p = absurd (none-some x p)
  all_at P (y ∷ ks) x zero a p = subst P (same_Some y x p) a.0
  all_at P (y ∷ ks) x (suc i) a p = all_at P ks x i a.1 p

module _ {K : Type 0} (eq : K → K → Bool) (reflexive : (x : K) → eq x x ≡ true) where
  no_later : (ks : List K) (y x : K) (i : ℕ) → AllByRecursion (λ z. eq y z ≡ false) ks → y ≡ x → slice_get ks i ≡ Some x → ⊥
  no_later ks y x i a e p = true≢false (sym (reflexive y) ∙ ap (eq y) e ∙ all_at (λ z. eq y z ≡ false) ks x i a p)

  none_in_front : (y : K) (ks : List K) (k : K) → eq k y ≡ false → (Contains ks k → ⊥) → Contains (y ∷ ks) k → ⊥
  none_in_front y ks k t none there =
      elim (Contains-append_cases (y ∷ []) ks k there) [
        | inl front ↦ elim (Contains-push_cases [] y k front) [
          | inl nowhere ↦ omega arith
          | inr e ↦ true≢false (sym (reflexive k) ∙ ap (eq k) (sym e) ∙ t)
        ]
        | inr following ↦ none following
      ]

  -- a key has only one index
  pub one_place : (ks : List K) → IsDistinct eq ks → (x : K) (i j : ℕ) → slice_get ks i ≡ Some x → slice_get ks j ≡ Some x → i ≡ j
  unfolding IsDistinct
  one_place [] d x i j p q = absurd (none-some x p)
  one_place (y ∷ ks) d x zero zero p q = refl
  one_place (y ∷ ks) d x zero (suc j) p q = absurd (no_later ks y x j d.0 (same_Some y x p) q)
  one_place (y ∷ ks) d x (suc i) zero p q = absurd (no_later ks y x i d.0 (same_Some y x q) p)
  one_place (y ∷ ks) d x (suc i) (suc j) p q = ap suc (one_place ks d.1 x i j p q)

module _ {K V : Type 0} (eq : K → K → Bool) (reflexive : (x : K) → eq x x ≡ true) (same : (x y : K) → eq x y ≡ true → x ≡ y) where
  -- what was inserted is at its index
  pub get_inserted : (es : List (K × V)) (k : K) (v : V) → slice_get (keys_of (insert_entry eq es k v)) (position_or_len (eq k) (keys_of es)) ≡ Some k
  get_inserted [] k v = refl
  get_inserted (e ∷ es) k v = by (eq k e.0) refl (get_inserted es k v)
    where
      by : (b : Bool) → eq k e.0 ≡ b
          → slice_get (keys_of (insert_entry eq es k v)) (position_or_len (eq k) (keys_of es)) ≡ Some k
          → slice_get (keys_of (insert_entry eq (e ∷ es) k v)) (position_or_len (eq k) (keys_of (e ∷ es))) ≡ Some k
      by true t rest = simp t (ap Some (sym (same k e.0 t)))
      by false t rest = simp t (get_next e.0 (keys_of (insert_entry eq es k v)) (position_or_len (eq k) (keys_of es)) ∙ rest)

  pub inserted_seen : (es : List (K × V)) (k : K) (v : V) → Seen (keys_of es) k (keys_of (insert_entry eq es k v))
  inserted_seen [] k v = inr (λ there. omega arith, refl)
  inserted_seen (e ∷ es) k v = by (eq k e.0) refl (inserted_seen es k v)
    where
      by : (b : Bool) → eq k e.0 ≡ b
          → Seen (keys_of es) k (keys_of (insert_entry eq es k v))
          → Seen (keys_of (e ∷ es)) k (keys_of (insert_entry eq (e ∷ es) k v))
      by true t rest =
          inl (subst (Contains (keys_of (e ∷ es))) (sym (same k e.0 t)) (Contains-get_or (keys_of (e ∷ es)) 0 e.0 (omega arith)), simp t)
      by false t (inl (there, stay)) =
          inl (Contains-append_right (e.0 ∷ []) (keys_of es) k there, simp t (ap (λ ks. e.0 ∷ ks) stay))
      by false t (inr (none, following)) =
          inr (none_in_front eq reflexive e.0 (keys_of es) k t none, simp t (ap (λ ks. e.0 ∷ ks) following))

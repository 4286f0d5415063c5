-- Lists that number names: for the contract of `number_of`.
use Rattle.std.proofs.Common.{◌≡◌, ℕ, zero, suc, ◌+◌, ◌<◌, Bool, true, false, Some, List, [], ◌∷◌, ◌++◌, length, get_or, slice_get}
use Rattle.std.proofs.Common.{refl, sym, ap, ◌∙◌, inl, inr, arith}
use Rattle.std.specs.Cmp.{IsEquivalence}
use Rattle.std.specs.List.{Contains, IsDistinct, position_or_len}
use Rattle.std.specs.Map.{keys_of}
use Rattle.std.proofs.lemmas.Bool.{false≢true}
use Rattle.std.proofs.lemmas.Map.Keys.{apart_from_distinct}
use Rattle.std.proofs.lemmas.Option.{slice_get_within, get_or_from_slice_get}
use Rattle.indexmap.specs.IndexMap.{insert_entry}
use Rattle.cs_terms.specs.Table.{HasEachOnce, IsNumbered}

-- an item keeps its index if others are added after it
slice_get-append : {A : Type 0} (xs ys : List A) (k : ℕ) (x : A) → slice_get xs k ≡ Some x → slice_get (xs ++ ys) k ≡ Some x
slice_get-append [] ys k x h = absurd (cc)
slice_get-append (y ∷ xs) ys zero x h = h
slice_get-append (y ∷ xs) ys (suc k) x h = slice_get-append xs ys k x h

slice_get-last : {A : Type 0} (xs : List A) (x : A) → slice_get (xs ++ x ∷ []) (length xs) ≡ Some x
slice_get-last [] x = refl
slice_get-last (y ∷ xs) x = slice_get-last xs x

-- a name that had a number keeps it
pub kept_number : {A : Type 0} (before after : List A) (name known : A) (place k : ℕ) → IsNumbered before name place after
    → slice_get before k ≡ Some known → slice_get after k ≡ Some known
kept_number before after name known place k n h = elim n [
  | inl old ↦ rw old.1 h
  | inr new ↦ rw new.2 (slice_get-append before (name ∷ []) k known h)
]

-- and the name has the number
pub has_number : {A : Type 0} (before after : List A) (name : A) (place : ℕ) → IsNumbered before name place after → slice_get after place ≡ Some name
has_number before after name place n = elim n [
  | inl old ↦ rw old.1 old.0
  | inr new ↦ rw (new.2, new.1) (slice_get-last before name)
]

module _ {K : Type 0} (eq : K → K → Bool) (laws : IsEquivalence eq) (same : (x y : K) → eq x y ≡ true → x ≡ y) where
  -- different keys have one index each
  apart : (ks : List K) (j k : ℕ) (name : K) → IsDistinct eq ks → slice_get ks j ≡ Some name → slice_get ks k ≡ Some name → j < k → ⊥
  apart ks j k name distinct e f lt =
      let differ = apart_from_distinct eq ks j k name distinct lt (slice_get_within ks k name f) in
      let first = get_or_from_slice_get ks j name name e in
      let second = get_or_from_slice_get ks k name name f in
      false≢true (sym differ ∙ ap (λ x. eq x (get_or ks k name)) first ∙ ap (eq name) second ∙ laws.refl name)

  pub once_from_distinct : (ks : List K) → IsDistinct eq ks → HasEachOnce ks
  once_from_distinct ks distinct j k name e f =
      let not_below = apart ks j k name distinct e f in
      let not_above = apart ks k j name distinct f e in
      omega (arith, not_below, not_above)

  -- an insertion finds the name's number or assigns it the next one
  pub numbered_by_insert : (es : List (K × Unit {0})) (name : K)
      → IsNumbered (keys_of es) name (position_or_len (eq name) (keys_of es)) (keys_of (insert_entry eq es name tt))
  numbered_by_insert [] name = inr (λ h. absurd (omega (arith, h.1)), refl, refl)
  numbered_by_insert (e ∷ es) name = by (eq name e.0) refl (numbered_by_insert es name)
    where
      absent : eq name e.0 ≡ false → ¬ Contains (keys_of es) name → ¬ Contains (e.0 ∷ keys_of es) name
      absent differs none (zero, lt, at) = false≢true (sym differs ∙ ap (eq name) at ∙ laws.refl name)
      absent differs none (suc k, lt, at) = none (k, omega arith, at)

      later : eq name e.0 ≡ false → IsNumbered (keys_of es) name (position_or_len (eq name) (keys_of es)) (keys_of (insert_entry eq es name tt))
          → IsNumbered (e.0 ∷ keys_of es) name (1 + position_or_len (eq name) (keys_of es)) (e.0 ∷ keys_of (insert_entry eq es name tt))
      later differs n = elim n [
        | inl old ↦
            inl (
              let e : 1 + position_or_len (eq name) (keys_of es) ≡ suc (position_or_len (eq name) (keys_of es)) = omega arith in rw e old.0,
              ap (λ ks. e.0 ∷ ks) old.1,
            )
        | inr new ↦ inr (absent differs new.0, omega (arith, new.1), ap (λ ks. e.0 ∷ ks) new.2)
      ]

      by : (b : Bool) → eq name e.0 ≡ b → IsNumbered (keys_of es) name (position_or_len (eq name) (keys_of es)) (keys_of (insert_entry eq es name tt))
          → IsNumbered (e.0 ∷ keys_of es) name (position_or_len (eq name) (e.0 ∷ keys_of es)) (keys_of (insert_entry eq (e ∷ es) name tt))
      by true h rest = rw h (inl (ap Some (sym (same name e.0 h)), refl))
      by false h rest = rw h (later h rest)

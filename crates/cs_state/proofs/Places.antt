-- Indexes of elements in mapped lists: for the contract of `place_of`.
use Rattle.std.proofs.Common.{◌≡◌, ◌≢◌, ◌<◌, ◌≤◌, ◌+◌, ℕ, Bool, true, false, List, map, length, refl, sym, ap, ◌∙◌, subst}
use Rattle.std.proofs.Common.{arith, true≢false, inl, inr}
use Rattle.std.specs.Prelude.{Some, slice_get, slice_index_or, option_map}
use Rattle.std.specs.List.{Contains}
use Rattle.std.proofs.lemmas.Option.{slice_get-map, slice_get-get_or, same_Some}
use Rattle.std.proofs.lemmas.Bool.Decides.{eqb_tells}
use Rattle.std.proofs.lemmas.List.{length-map}
use Rattle.cs_types.specs.Shape.{Shape, same_shape}
use Rattle.cs_types.specs.ShapeEquality.{same_shape-refl}

pub mapped_at : {A B : Type 0} (f : A → B) (xs : List A) (k : ℕ) (d : A) → k < length xs → slice_get (map f xs) k ≡ Some (f (slice_index_or xs k d))
mapped_at f xs k d more = slice_get-map f xs k ∙ ap (option_map f) (slice_get-get_or xs k d more)

-- a list doesn't contain an element that is at none of its indices
pub not_contained : {B : Type 0} (ys : List B) (y : B) (end : ℕ) → length ys ≤ end → ((k : ℕ) → k < end → slice_get ys k ≡ Some y → ⊥)
    → Contains ys y → ⊥
not_contained ys y end past none there =
    none there.0 (omega (arith, there.1, past)) (slice_get-get_or ys there.0 y there.1 ∙ ap Some there.2)

-- a type is at no index up to a place if it is at none before it, and another type is there
pub none_further : (ys : List Shape) (y there : Shape) (place : ℕ) → ((k : ℕ) → k < place → slice_get ys k ≡ Some y → ⊥)
    → slice_get ys place ≡ Some there → same_shape there y ≡ false → (k : ℕ) → k < place + 1 → slice_get ys k ≡ Some y → ⊥
none_further ys y there place none here other k less found =
    elim (eqb_tells k place) [
      | inl same ↦
          let shapes : there ≡ y = same_Some there y (sym here ∙ subst (λ (n : ℕ). slice_get ys n ≡ Some y) same.1 found) in
          true≢false (sym (same_shape-refl y) ∙ subst (λ (s : Shape). same_shape s y ≡ false) shapes other)
      | inr differ ↦ none k (omega (arith, less, differ.1)) found
    ]

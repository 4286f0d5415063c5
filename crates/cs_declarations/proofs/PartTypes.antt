-- The types of parts by their number: for the loops over the items of a list.
use Rattle.std.proofs.Common.{◌≡◌, ℕ, zero, suc, List, [], ◌∷◌, drop, Option, Some, None, refl, sym, ap, ◌∙◌}
use Rattle.std.specs.Prelude.{slice_get, option_map}
use Rattle.cs_types.specs.Shape.{Shape}

-- the types from an index on begin with the one at the index
pub types_from : {A : Type 0} (types : List A) (i : ℕ) (ty : A) → slice_get types i ≡ Some ty → drop i types ≡ ty ∷ drop (suc i) types
types_from [] i ty e = absurd cc
types_from (first ∷ types) zero ty e = ap (λ x. x ∷ types) (cc)
types_from (first ∷ types) (suc i) ty e = types_from types i ty e

-- no part remains
pub types_past : {A : Type 0} (types : List A) (i : ℕ) → slice_get types i ≡ None → drop i types ≡ []
types_past [] zero e = refl
types_past [] (suc i) e = refl
types_past (first ∷ types) zero e = absurd cc
types_past (first ∷ types) (suc i) e = types_past types i e

-- the part that is found by its number
module _ {A : Type 0} (shown : A → Shape) (types : List Shape) (found : Option A) (number i : ℕ)
    (reported : option_map shown found ≡ slice_get types number) (same : number ≡ i) where
  pub part_is : (part : A) → found ≡ Some part → slice_get types i ≡ Some (shown part)
  part_is part is = ap (slice_get types) (sym same) ∙ sym reported ∙ ap (option_map shown) is

  pub no_part : found ≡ None → slice_get types i ≡ None
  no_part is = ap (slice_get types) (sym same) ∙ sym reported ∙ ap (option_map shown) is

-- Arrays of arrays, from the innermost outward: for the type of a written type with bounds.
use Rattle.std.proofs.Common.{◌≡◌, ℕ, ℤ, pos, ◌+◌, ◌<◌, zero, suc, List, [], ◌∷◌, drop, length, get_or, add-one, drop-cons, sym}
use Rattle.std.proofs.Common.{ap, ◌∙◌}
use Rattle.cs_types.specs.declared.data_model.DataModel.{DataModel}
use Rattle.cs_types.specs.declared.structs.StructType.{StructType}
use Rattle.cs_types.specs.Shape.{Shape}
use Rattle.cs_ast.specs.declared.place.Place.{Place}
use Rattle.cs_scopes.specs.declared.refusal.TypeRefusal.{TypeRefusal}
use Rattle.cs_scopes.specs.Verdicts.{Fine, lift, IsRefused}
use Rattle.cs_scopes.specs.TypeNames.{array_of, arrayed}
use Rattle.cs_scopes.proofs.Lifting.{lift-fine, lift-refused, refused_as}

module _ (model : DataModel) (table : List StructType) (at : Place) (base : Shape) where
  inner_stops : (k : ℕ) (ns : List ℤ) (r : TypeRefusal) → IsRefused (arrayed model table at base (drop k ns)) r
      → IsRefused (arrayed model table at base ns) r
  inner_stops zero ns r h = h
  inner_stops (suc k) [] r h = h
  inner_stops (suc k) (n ∷ ns) r h = lift-refused (array_of model table at n) _ r (inner_stops k ns r h)

  outward : (k j : ℕ) (ns : List ℤ) (ty : Shape) → j ≡ k + 1 → k < length ns → arrayed model table at base (drop j ns) ≡ Fine ty
      → arrayed model table at base (drop k ns) ≡ array_of model table at (get_or ns k (pos 0)) ty
  outward k j ns ty is within inside =
      ap (arrayed model table at base) (drop-cons ns k (pos 0) within)
      ∙ ap (λ i. lift (array_of model table at (get_or ns k (pos 0))) (arrayed model table at base (drop i ns))) (sym (add-one k) ∙ sym is)
      ∙ ap (lift (array_of model table at (get_or ns k (pos 0)))) inside ∙ lift-fine (array_of model table at (get_or ns k (pos 0))) ty

  -- one more array around the others, or none
  pub array_taken : (k j : ℕ) (ns : List ℤ) (n : ℤ) (ty whole : Shape) → j ≡ k + 1 → k < length ns → n ≡ get_or ns k (pos 0)
      → arrayed model table at base (drop j ns) ≡ Fine ty → array_of model table at n ty ≡ Fine whole
      → arrayed model table at base (drop k ns) ≡ Fine whole
  array_taken k j ns n ty whole is within number inside made = outward k j ns ty is within inside ∙ ap (λ m. array_of model table at m ty) (sym number)
      ∙ made

  pub array_stops : (k j : ℕ) (ns : List ℤ) (n : ℤ) (ty : Shape) (r : TypeRefusal) → j ≡ k + 1 → k < length ns → n ≡ get_or ns k (pos 0)
      → arrayed model table at base (drop j ns) ≡ Fine ty → IsRefused (array_of model table at n ty) r → IsRefused (arrayed model table at base ns) r
  array_stops k j ns n ty r is within number inside h =
      inner_stops k ns r (refused_as r (outward k j ns ty is within inside ∙ ap (λ m. array_of model table at m ty) (sym number)) h)

-- The first size and those after it: for the type of a declarator with bounds, and how a parameter with bounds is passed.
use Rattle.std.proofs.Common.{◌≡◌, ℤ, ◌≤◌, ◌-◌, List, [], ◌∷◌, Option, None, length, take, drop, get_or, sym, ap, subst, ◌∙◌}
use Rattle.std.proofs.Common.{arith}
use Rattle.std.proofs.lemmas.List.{take_all}
use Rattle.cs_types.specs.Shape.{Shape}
use Rattle.cs_ast.specs.declared.place.Place.{Place}
use Rattle.cs_scopes.specs.declared.context.Context.{Context}
use Rattle.cs_scopes.specs.declared.refusal.TypeRefusal.{TypeRefusal}
use Rattle.cs_scopes.specs.Verdicts.{Fine, IsRefused}
use Rattle.cs_scopes.proofs.Lifting.{lift-fine, lift-refused}
use Rattle.cs_scopes.specs.Verdicts.{lift}
use Rattle.cs_declarations.specs.Sizes.{element_of, outermost, extent_of}
use Rattle.cs_declarations.specs.Parameters.{array_passed, passed}

first_and_others : {A : Type 0} (d : A) (xs : List A) → 1 ≤ length xs → xs ≡ get_or xs 0 d ∷ take (length xs - 1) (drop 1 xs)
first_and_others d [] some = absurd (omega (arith, some))
first_and_others d (x ∷ xs) some = ap (λ ys. x ∷ ys) (sym (take_all (length (x ∷ xs) - 1) xs (omega arith)))

module _ (c : Context) (at : Place) (base : Shape) (sizes : List (Option ℤ)) (some : 1 ≤ length sizes) where
  pub extent_stops : (r : TypeRefusal) → IsRefused (element_of c at base (take (length sizes - 1) (drop 1 sizes))) r
      → IsRefused (extent_of c at base sizes) r
  extent_stops r h = subst (λ s. IsRefused (extent_of c at base s) r) (sym (first_and_others None sizes some))
      (lift-refused (outermost c at (get_or sizes 0 None)) _ r h)

  pub extent_goes_on : (element : Shape) → element_of c at base (take (length sizes - 1) (drop 1 sizes)) ≡ Fine element
      → extent_of c at base sizes ≡ outermost c at (get_or sizes 0 None) element
  extent_goes_on element e = ap (extent_of c at base) (first_and_others None sizes some) ∙ ap (lift (outermost c at (get_or sizes 0 None))) e
      ∙ lift-fine (outermost c at (get_or sizes 0 None)) element

  pub passing_stops : (r : TypeRefusal) → IsRefused (element_of c at base (take (length sizes - 1) (drop 1 sizes))) r → IsRefused (passed c at base sizes) r
  passing_stops r h = subst (λ s. IsRefused (passed c at base s) r) (sym (first_and_others None sizes some))
      (lift-refused (array_passed c at (get_or sizes 0 None)) _ r h)

  pub passing_goes_on : (element : Shape) → element_of c at base (take (length sizes - 1) (drop 1 sizes)) ≡ Fine element
      → passed c at base sizes ≡ array_passed c at (get_or sizes 0 None) element
  passing_goes_on element e = ap (passed c at base) (first_and_others None sizes some) ∙ ap (lift (array_passed c at (get_or sizes 0 None))) e
      ∙ lift-fine (array_passed c at (get_or sizes 0 None)) element

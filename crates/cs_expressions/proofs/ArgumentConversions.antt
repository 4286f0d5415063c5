-- The conversions of arguments to the types of their parameters, from the last to the first: for the loop that converts them.
use Rattle.std.proofs.Common.{◌≡◌, ◌≢◌, ℕ, suc, ◌+◌, ◌<◌, List, [], ◌∷◌, ◌++◌, length, map, drop, get_or, reverse, drop-cons}
use Rattle.std.proofs.Common.{add-one, append_assoc, Option, Some, None, refl, sym, ap, ◌∙◌}
use Rattle.std.specs.Prelude.{◌==◌, Bool, true, false}
use Rattle.std.proofs.lemmas.List.{reverse-append}
use Rattle.cs_types.specs.declared.ctype.CType.{CType}
use Rattle.cs_ast.specs.declared.typed.expression.Expr.{Expr}
use Rattle.cs_ast.specs.TypedView.{typed, typed_list}
use Rattle.cs_types.specs.declared.data_model.DataModel.{DataModel}
use Rattle.cs_types.specs.Shape.{Shape, shape_of}
use Rattle.cs_scopes.specs.declared.refusal.TypeCode.TheVariants as code_of
use Rattle.cs_ast.specs.declared.place.Place.{Place}
use Rattle.cs_ast.specs.TypedTree.{Typed, TypedList, Further}
use Rattle.cs_scopes.specs.declared.refusal.TypeCode.{TypeCode}
use Rattle.cs_scopes.specs.Verdicts.{Fine, Fault}
use Rattle.cs_folding.specs.TypedParts.{type_of}
use Rattle.cs_expressions.specs.Conversions.{converted}
use Rattle.cs_expressions.specs.Calls.{converted_list, before_others, freed, outcome}
use Rattle.cs_scopes.specs.Faults.{least}

converts : (at : Place) (refused : Option TypeCode) (v : Typed) (made : TypedList)
    → before_others at (Fine v) (outcome at refused made) ≡ outcome at refused (Further v made)
converts at None v made = refl
converts at (Some code) v made = refl

refuses : (at place : Place) (code : TypeCode) (refused : Option TypeCode) (made : TypedList)
    → before_others at (Fault code place) (outcome at refused made) ≡ outcome at (Some (least code refused)) made
refuses at place code None made = refl
refuses at place code (Some other) made = refl

module _ (model : DataModel) (at : Place) (ty : Shape) (types : List Shape) (e : Typed) (rest : TypedList) (refused : Option TypeCode) (made : TypedList)
    (so_far : converted_list model at types rest ≡ outcome at refused made) where
  pub argument_converts : (v : Typed) → converted model at e ty (type_of e) ≡ Fine v
      → converted_list model at (ty ∷ types) (Further e rest) ≡ outcome at refused (Further v made)
  argument_converts v h = ap (λ x. before_others at x (converted_list model at types rest)) h ∙ ap (before_others at (Fine v)) so_far
      ∙ converts at refused v made

  pub argument_refused : (code : TypeCode) (place : Place) → converted model at e ty (type_of e) ≡ Fault code place
      → converted_list model at (ty ∷ types) (Further e rest) ≡ outcome at (Some (least code refused)) made
  argument_refused code place h = ap (λ x. before_others at x (converted_list model at types rest)) h ∙ ap (before_others at (Fault code place)) so_far
      ∙ refuses at place code refused made

-- the types of the parameters from an index on
types_from : (types : List CType) (k j : ℕ) (ty : CType) → j ≡ k + 1 → k < length types → ty ≡ get_or types k ty
    → map (λ (t : CType). shape_of t) (drop k types) ≡ shape_of ty ∷ map (λ (t : CType). shape_of t) (drop j types)
types_from types k j ty is within read =
    ap (map (λ (t : CType). shape_of t)) (drop-cons types k ty within ∙ ap (λ x. x ∷ drop (suc k) types) (sym read)
    ∙ ap (λ i. ty ∷ drop i types) (sym (add-one k) ∙ sym is))

-- the last of the remaining arguments comes before those that are converted already
pub one_less : (all left rest following : List Expr) (value : Expr) → all ≡ left ++ following → left ≡ rest ++ value ∷ []
    → all ≡ rest ++ (value ∷ following)
one_less all left rest following value split is = split ∙ ap (λ xs. xs ++ following) is ∙ append_assoc rest (value ∷ []) following

module _ (model : DataModel) (at : Place) (types : List CType) (k j : ℕ) (ty : CType) (value : Expr) (following list : List Expr) (refused : Option TypeCode)
    (is : j ≡ k + 1) (within : k < length types) (read : ty ≡ get_or types k ty)
    (so_far : converted_list model at (map (λ (t : CType). shape_of t) (drop j types)) (typed_list following)
    ≡ outcome at refused (typed_list (reverse list))) where
  pub value_converts : (v : Expr) (more : List Expr) → converted model at (typed value) (shape_of ty) (shape_of value.ty) ≡ Fine (typed v)
      → more ≡ list ++ v ∷ [] → converted_list model at (map (λ (t : CType). shape_of t) (drop k types)) (typed_list (value ∷ following))
      ≡ outcome at refused (typed_list (reverse more))
  value_converts v more h pushed =
      ap (λ ts. converted_list model at ts (typed_list (value ∷ following))) (types_from types k j ty is within read)
      ∙ argument_converts model at (shape_of ty) (map (λ (t : CType). shape_of t) (drop j types)) (typed value) (typed_list following) refused
      (typed_list (reverse list)) so_far (typed v) h
      ∙ ap (λ xs. outcome at refused (typed_list xs)) (sym (ap reverse pushed ∙ reverse-append list (v ∷ [])))

  pub value_refused : (code : TypeCode) (place : Place) → converted model at (typed value) (shape_of ty) (shape_of value.ty) ≡ Fault code place
      → converted_list model at (map (λ (t : CType). shape_of t) (drop k types)) (typed_list (value ∷ following))
      ≡ outcome at (Some (least code refused)) (typed_list (reverse list))
  value_refused code place h =
      ap (λ ts. converted_list model at ts (typed_list (value ∷ following))) (types_from types k j ty is within read)
      ∙ argument_refused model at (shape_of ty) (map (λ (t : CType). shape_of t) (drop j types)) (typed value) (typed_list following) refused
      (typed_list (reverse list)) so_far code place h

-- no argument remains
pub all_converted : (model : DataModel) (at : Place) (types : List CType) (k : ℕ) (all left following list : List Expr) (refused : Option TypeCode)
    → k ≡ 0 → left ≡ [] → all ≡ left ++ following
    → converted_list model at (map (λ (t : CType). shape_of t) (drop k types)) (typed_list following) ≡ outcome at refused (typed_list (reverse list))
    → converted_list model at (map (λ (t : CType). shape_of t) types) (typed_list all) ≡ outcome at refused (typed_list (reverse list))
all_converted model at types k all left following list refused none empty split so_far =
    ap (λ xs. converted_list model at (map (λ (t : CType). shape_of t) types) (typed_list xs)) (split ∙ ap (λ xs. xs ++ following) empty)
    ∙ ap (λ i. converted_list model at (map (λ (t : CType). shape_of t) (drop i types)) (typed_list following)) (sym none)
    ∙ so_far

-- `free` has exactly one argument
freed-two : (at : Place) (rest : List Expr) (e : Expr) → length rest ≢ 0 → freed at (typed_list (rest ++ e ∷ [])) ≡ Fault code_of.ArgumentCount at
freed-two at [] e some = absurd (some refl)
freed-two at (a ∷ []) e some = refl
freed-two at (a ∷ b ∷ rest) e some = refl

pub freed-many : (at : Place) (all rest : List Expr) (e : Expr) → all ≡ rest ++ e ∷ [] → length rest ≢ 0
    → freed at (typed_list all) ≡ Fault code_of.ArgumentCount at
freed-many at all rest e is some = ap (λ xs. freed at (typed_list xs)) is ∙ freed-two at rest e some

-- a test for 0 that fails
pub not_none : (n : ℕ) (b : Bool) → b ≡ (n == 0) → b ≡ false → n ≢ 0
not_none n b e f z = let wrong : false ≡ true = sym f ∙ e ∙ ap (λ k. k == 0) z in absurd cc

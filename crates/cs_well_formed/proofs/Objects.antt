-- The values of objects are well formed, and sizes are numbers of their type: the rules of objects.
use Rattle.std.proofs.Common.{◌≡◌, ℕ, true, false, cond, List, Option, Some, None, is_some, refl, ap, subst}
use Rattle.std.specs.Prelude.{pos}
use Rattle.cs_types.specs.DataModel.{size_type_of}
use Rattle.cs_types.specs.IntType.{InRange}
use Rattle.cs_types.specs.Layout.{members_of}
use Rattle.cs_types.specs.Members.{Member}
use Rattle.cs_types.specs.Shape.{Shape, void, integer, pointer, array, struct}
use Rattle.cs_ast.specs.declared.place.Place.{Place}
use Rattle.cs_ast.specs.TypedTree.{Typed, Of, Load}
use Rattle.cs_scopes.specs.declared.context.Context.{Context}
use Rattle.cs_scopes.specs.declared.refusal.TypeCode.TheVariants as code
use Rattle.cs_scopes.specs.Verdicts.{Fine, Fault}
use Rattle.cs_expressions.specs.Objects.{is_object, measure_of, measured, held, valued, operand}
use Rattle.cs_types.specs.Kinds.{is_void, is_array, is_complete}
use Rattle.cs_scopes.specs.Sizes.{bytes_in}
use Rattle.cs_well_formed.specs.Expressions.{Setting, IsWell, IsObject, IsValue, HasType, IsWhole}
use Rattle.cs_well_formed.specs.Agreement.{Agrees}
use Rattle.cs_well_formed.proofs.Verdicts.{IfFine, cond-then}
use Rattle.cs_well_formed.proofs.Numbers.{size-InRange, bytes_in-small}

module _ (s : Setting) (c : Context) (agrees : Agrees s c) where
  -- a type that is complete where it is used is complete in the program
  pub complete-IsWhole : (ty : Shape) → is_complete c.table.list ty ≡ true → IsWhole s.program ty
  complete-IsWhole void h = absurd cc
  complete-IsWhole (integer ty) h = refl
  complete-IsWhole (pointer target) h = refl
  complete-IsWhole (array element count) h = complete-IsWhole element h
  complete-IsWhole (struct number) h = by_members (members_of c.table.list number) refl h
    where
      by_members : (found : Option (List Member)) → members_of c.table.list number ≡ found → is_some found ≡ true
          → is_some (members_of s.program.table number) ≡ true
      by_members (Some members) is there = ap is_some (agrees.table.members number members is)
      by_members None is there = absurd cc

  load-well : (at : Place) (e : Typed) (ty : Shape) → IsWell s e → IsObject e → HasType e ty → is_array ty ≡ false
      → IfFine (cond (is_complete c.table.list ty) (Fine (Of at ty (Load e))) (Fault code.IncompleteType at)) (λ v. IsWell s v × IsValue v)
  load-well at e ty well object is flat =
      cond-then (λ v. IsWell s v × IsValue v) (is_complete c.table.list ty) _ _
      (λ whole. ((well, object, is, (complete-IsWhole ty whole, flat)), refl))
      (λ _. tt)

  held-well : (at : Place) (e : Typed) (ty : Shape) → IsWell s e → IsObject e → HasType e ty
      → IfFine (held c.table.list at e ty) (λ v. IsWell s v × IsValue v)
  unfolding held
  held-well at e (array element count) well object is = ((well, object, element, count, is, refl), refl)
  held-well at e void well object is = tt
  held-well at e (integer ty) well object is = load-well at e (integer ty) well object is refl
  held-well at e (pointer target) well object is = load-well at e (pointer target) well object is refl
  held-well at e (struct number) well object is = load-well at e (struct number) well object is refl

  -- the value of a well-formed expression is well formed
  pub valued-well : (e : Typed) → IsWell s e → IfFine (valued c.table.list e) (λ v. IsWell s v × IsValue v)
  unfolding valued
  valued-well (Of at ty form) well =
      cond-then (λ v. IsWell s v × IsValue v) (is_object form) _ _
      (λ object. held-well at (Of at ty form) ty well object refl)
      (λ none. (well, none))

  pub operand-well : (e : Typed) → IsWell s e → IfFine (operand c.table.list e) (λ v. IsWell s v × IsValue v)
  unfolding operand
  operand-well (Of at ty form) well = cond-then (λ v. IsWell s v × IsValue v) (is_void ty) _ _ (λ _. tt) (λ _. valued-well (Of at ty form) well)

  measure-well : (at : Place) (bytes : Option ℕ) → ((n : ℕ) → bytes ≡ Some n → InRange s.program.model (size_type_of c.model) (pos n))
      → IfFine (measure_of c.model at bytes) (IsWell s)
  measure-well at (Some n) small = (_, refl, small n refl)
  measure-well at None small = tt

  -- the size of a type is a well-formed expression
  pub measured-well : (at : Place) (ty : Shape) → IfFine (measured c.model c.table.list at ty) (IsWell s)
  unfolding measured
  measured-well at ty =
      cond-then (IsWell s) (is_complete c.table.list ty) _ _
      (λ _.
      measure-well at (bytes_in c.model c.table.list ty) (λ n is.
      subst (λ m. InRange m (size_type_of c.model) (pos n)) agrees.model (size-InRange c.model n (bytes_in-small c.model c.table.list ty n is))))
      (λ _. tt)

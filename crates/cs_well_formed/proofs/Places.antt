-- The results of operators that designate objects are well formed: the rules of addresses, subscripts and members.
use Rattle.std.proofs.Common.{◌≡◌, ℕ, zero, suc, Bool, true, false, cond, List, [], ◌∷◌, Option, Some, None, slice_get, refl}
use Rattle.std.specs.Prelude.{nat_eq}
use Rattle.std.specs.Cmp.Lexicographic.{pointwise}
use Rattle.cs_types.specs.declared.int_type.IntType.{IntType}
use Rattle.cs_types.specs.Layout.{members_of}
use Rattle.cs_types.specs.Members.{Member}
use Rattle.cs_types.specs.Shape.{Shape, integer, pointer, struct}
use Rattle.cs_ast.specs.declared.place.Place.{Place}
use Rattle.cs_ast.specs.declared.typed.operator.Order.{Order}
use Rattle.cs_ast.specs.declared.typed.operator.Order.TheVariants.{PointerFirst, AmountFirst}
use Rattle.cs_ast.specs.TypedTree.{Typed}
use Rattle.cs_scopes.specs.declared.context.Context.{Context}
use Rattle.cs_folding.specs.TypedParts.{type_of, form_of}
use Rattle.cs_expressions.specs.Objects.{is_object}
use Rattle.cs_types.specs.Kinds.{is_void, is_complete}
use Rattle.cs_expressions.specs.Places.{address_of, through, element, indexed, member_in, member_after, struct_number}
use Rattle.cs_scopes.specs.Members.{member_named, member_at, member_found}
use Rattle.cs_expressions.specs.Places.{object_member, selected, selected_through}
use Rattle.cs_well_formed.specs.Expressions.{Setting, IsWell, IsValueOf, HasType, HasMember}
use Rattle.cs_well_formed.specs.Agreement.{Agrees}
use Rattle.cs_well_formed.proofs.Verdicts.{IfFine, lift-then, cond-then}
use Rattle.cs_well_formed.proofs.Objects.{complete-IsWhole}

-- a member found by its name is one of the members
named-among : (name : List ℕ) (ms : List Member) (m : Member) → member_named name ms ≡ Some m → (i : ℕ) × (slice_get ms i ≡ Some m)
named-among name [] m h = absurd cc
named-among name (first ∷ ms) m h = by_name (pointwise nat_eq first.name name) h (named-among name ms m)
  where
    by_name : (same : Bool) → cond same (Some first) (member_named name ms) ≡ Some m
        → (member_named name ms ≡ Some m → (i : ℕ) × (slice_get ms i ≡ Some m)) → (i : ℕ) × (slice_get (first ∷ ms) i ≡ Some m)
    by_name true is rest = (zero, is)
    by_name false is rest = let found = rest is in (suc found.0, found.1)

module _ (s : Setting) where
  pub address_of-well : (at : Place) (e : Typed) → IsWell s e → IfFine (address_of at e) (IsWell s)
  unfolding address_of
  address_of-well at e well =
      cond-then (IsWell s) (is_void (type_of e)) _ _ (λ _. tt) (λ _. cond-then (IsWell s) (is_object (form_of e)) _ _ (λ h. (well, h, refl)) (λ _. tt))

  pub through-well : (at : Place) (e : Typed) (ty : Shape) → IsWell s e → IsValueOf e ty → IfFine (through at e ty) (IsWell s)
  unfolding through
  through-well at e (pointer target) well v = cond-then (IsWell s) (is_void target) _ _ (λ _. tt) (λ h. (well, v, h))
  through-well at e ty well v = tt

module _ (s : Setting) (c : Context) (agrees : Agrees s c) where
  element-well : (at : Place) (e number : Typed) (target : Shape) (ty : IntType) (order : Order) → IsWell s e → IsValueOf e (pointer target)
      → IsWell s number → IsValueOf number (integer ty) → IfFine (element c.table.list at e number target order) (IsWell s)
  unfolding element
  element-well at e number target ty order w v w' v' =
      cond-then (IsWell s) (is_complete c.table.list target) _ _ (λ h. (w, w', v, complete-IsWhole s c agrees target h, (v'.0, (ty, v'.1)))) (λ _. tt)

  pub indexed-well : (at : Place) (left right : Typed) (t u : Shape) → IsWell s left → IsValueOf left t → IsWell s right → IsValueOf right u
      → IfFine (indexed c.table.list at left right t u) (IsWell s)
  unfolding indexed
  indexed-well at left right (pointer t) (integer u) w v w' v' = element-well at left right t u PointerFirst w v w' v'
  indexed-well at left right (integer t) (pointer u) w v w' v' = element-well at right left u t AmountFirst w' v' w v
  indexed-well at left right t u w v w' v' = tt

  -- a member found in a struct is one of the program
  member-found : (at : Place) (name : List ℕ) (number : ℕ)
      → IfFine (member_found at name (members_of c.table.list number)) (λ m. HasMember s.program number m.offset m.ty)
  unfolding member_found
  member-found at name number = by_members (members_of c.table.list number) refl
    where
      by_name : (members : List Member) → members_of c.table.list number ≡ Some members → (found : Option Member) → member_named name members ≡ found
          → IfFine (member_at at found) (λ m. HasMember s.program number m.offset m.ty)
      by_name members is (Some m) named =
          let among = named-among name members m named in
          record {
            members = members;
            complete = agrees.table.members number members is;
            index = among.0;
            member = m;
            found = among.1;
            offset_is = refl;
            type_is = refl;
          }
      by_name members is None named = tt

      by_members : (found : Option (List Member)) → members_of c.table.list number ≡ found
          → IfFine (member_found at name found) (λ m. HasMember s.program number m.offset m.ty)
      by_members (Some members) is = by_name members is (member_named name members) refl
      by_members None is = tt

  pub selected-well : (at name_at : Place) (name : List ℕ) (e : Typed) → IsWell s e → IfFine (selected c.table.list at name_at name e) (IsWell s)
  unfolding selected
  selected-well at name_at name e well =
      cond-then (IsWell s) (is_void (type_of e)) _ _ (λ _. tt) (λ _. by_type (type_of e) refl)
    where
      by_type : (ty : Shape) → HasType e ty → IfFine (object_member c.table.list at name_at name e (struct_number ty)) (IsWell s)
      by_type (struct number) is =
          cond-then (IsWell s) (is_object (form_of e)) _ _
          (λ object.
          lift-then (λ m. HasMember s.program number m.offset m.ty) (IsWell s) (member_in at e) _ (member-found name_at name number)
          (λ m has. (well, object, number, is, has)))
          (λ _. tt)
      by_type ty is = tt

  pub selected_through-well : (at name_at : Place) (name : List ℕ) (e : Typed) (ty : Shape) → IsWell s e → IsValueOf e ty
      → IfFine (selected_through c.table.list at name_at name e ty) (IsWell s)
  unfolding selected_through
  selected_through-well at name_at name e (pointer (struct number)) well v =
      lift-then (λ m. HasMember s.program number m.offset m.ty) (IsWell s) (member_after at e) _ (member-found name_at name number)
      (λ m has. (well, number, v, has))
  selected_through-well at name_at name e ty well v = tt

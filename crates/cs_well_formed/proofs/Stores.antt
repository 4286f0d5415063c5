-- The results of operators that store are well formed: the rules of assignments and steps.
use Rattle.std.proofs.Common.{◌≡◌, Bool, true, false, cond, not, Some, None, refl, subst, arith}
use Rattle.cs_types.specs.declared.data_model.DataModel.{DataModel}
use Rattle.cs_types.specs.declared.int_type.IntType.{IntType}
use Rattle.cs_types.specs.declared.int_type.IntType.TheVariants.{Int}
use Rattle.cs_types.specs.Conversions.{promoted}
use Rattle.cs_types.specs.Shape.{Shape, void, integer, pointer, array, struct}
use Rattle.cs_ast.specs.declared.place.Place.{Place}
use Rattle.cs_ast.specs.declared.raw.operator.AssignOp.{AssignOp}
use Rattle.cs_ast.specs.declared.typed.operator.BinOp.{BinOp}
use Rattle.cs_ast.specs.declared.typed.operator.BinOp.TheVariants.{Shl, Shr}
use Rattle.cs_ast.specs.declared.typed.operator.Gives.{Gives}
use Rattle.cs_ast.specs.TypedTree.{Typed}
use Rattle.cs_scopes.specs.declared.context.Context.{Context}
use Rattle.cs_scopes.specs.declared.refusal.TypeCode.TheVariants as code
use Rattle.cs_scopes.specs.Verdicts.{Verdict, Fine, lift}
use Rattle.cs_folding.specs.TypedParts.{type_of, form_of}
use Rattle.cs_expressions.specs.Integers.{in_type}
use Rattle.cs_expressions.specs.Objects.{is_object}
use Rattle.cs_types.specs.Kinds.{is_void, is_array, is_complete}
use Rattle.cs_scopes.specs.Scalars.{has_few_scalars}
use Rattle.cs_expressions.specs.Conversions.{converted}
use Rattle.cs_expressions.specs.Stores.{is_stored_to, assignable, assigned_fault, assigned, is_additive, updatable_as, updatable, updated_fault, led}
use Rattle.cs_expressions.specs.Stores.{moved_by_step, steppable, works_in, taken_in, updated, one_in, stepped}
use Rattle.cs_consts.specs.Typing.{is_plain, operator_of, left_side, left_fault, stored_by, stored, stored_to}
use Rattle.cs_well_formed.specs.Structs.{NamesStructs}
use Rattle.cs_well_formed.specs.Expressions.{Setting, TypesAroundAreNamed, IsWell, IsObject, IsValue, IsValueOf, HasType, IsWhole, IsHeld, IsRight}
use Rattle.cs_well_formed.specs.Agreement.{Agrees}
use Rattle.cs_well_formed.proofs.Verdicts.{IfFine, lift-then, cond-then, weighed-then, led-then, both_true, not_true}
use Rattle.cs_well_formed.proofs.Numbers.{small-InRange}
use Rattle.cs_well_formed.proofs.Integers.{in_type-well, integer-value, value-IsRight}
use Rattle.cs_well_formed.proofs.Objects.{complete-IsWhole}
use Rattle.cs_well_formed.proofs.Naming.{type_of-named}
use Rattle.cs_well_formed.proofs.Conversions.{converted-well}

-- an object that may be updated; if it is a pointer, it points to a complete type
pub record IsUpdated (s : Setting) (e : Typed) : Type 0 where
  pub well : IsWell s e
  pub object : IsObject e
  pub elements : (target : Shape) → HasType e (pointer target) → IsWhole s.program target

-- an object that may be assigned to
pub record IsAssigned (s : Setting) (e : Typed) : Type 0 where
  pub well : IsWell s e
  pub object : IsObject e
  pub held : IsHeld s.program (type_of e)

-- an object that may be updated, before its type is checked
pub record IsUpdatable (s : Setting) (e : Typed) : Type 0 where
  pub well : IsWell s e
  pub object : IsObject e

pub record IsAssignable (s : Setting) (e : Typed) : Type 0 where
  pub well : IsWell s e
  pub object : IsObject e
  pub no_array : is_array (type_of e) ≡ false

-- the left operand of an assignment operator
abbrev pub IsLeft : Setting → Bool → Typed → Type 0
IsLeft s true e = IsAssignable s e
IsLeft s false e = IsUpdatable s e

-- its type names structs
pub left-named : (s : Setting) (plain : Bool) (e : Typed) → TypesAroundAreNamed s → IsLeft s plain e → NamesStructs s.program.table (type_of e)
left-named s true e types h = type_of-named s types e h.well
left-named s false e types h = type_of-named s types e h.well

-- a converted right operand suits the operator in the type in which it computes
taken-IsRight : (model : DataModel) (op : BinOp) (t u : IntType) (e : Typed) → IsValueOf e (integer (taken_in model op t u))
    → IsRight op (integer (works_in model op t u)) e
taken-IsRight model Shl t u e v = (v.0, (_, v.1))
taken-IsRight model Shr t u e v = (v.0, (_, v.1))
taken-IsRight model other t u e v = v

module _ (s : Setting) where
  one-well : (at : Place) (ty : IntType) → IsWell s (one_in at ty)
  one-well at ty = (ty, refl, small-InRange s.program.model ty 1 (omega arith))

  -- `++` and `--`
  pub stepped-well : (model : DataModel) (op : BinOp) (gives : Gives) (at : Place) (object : Typed) (ty : Shape) → IsUpdated s object → HasType object ty
      → IfFine (stepped model op gives at object ty) (IsWell s)
  unfolding stepped
  stepped-well model op gives at object (integer t) left is =
      (left.well, one-well at (promoted model t), left.object, (t, refl), is, value-IsRight op (promoted model t) (one_in at (promoted model t)) (refl, refl))
  stepped-well model op gives at object (pointer target) left is =
      (left.well, one-well at Int, left.object, (target, refl, left.elements target is), is, (refl, (Int, refl)))
  stepped-well model op gives at object ty left is = tt

  -- a compound assignment
  updated-well : (model : DataModel) (op : BinOp) (at : Place) (object value : Typed) (t u : Shape) → IsUpdated s object → HasType object t
      → IsWell s value → IsValueOf value u → IfFine (updated model op at object value t u) (IsWell s)
  unfolding updated
  updated-well model op at object value (integer t) (integer u) left is well v =
      let taken = in_type-well s at (taken_in model op t u) value well (integer-value value u v) in
      (left.well, taken.0, left.object, (t, refl), is, taken-IsRight model op t u (in_type at (taken_in model op t u) value) taken.1)
  updated-well model op at object value (pointer target) (integer u) left is well v =
      (left.well, well, left.object, (target, refl, left.elements target is), is, (v.0, (u, v.1)))
  updated-well model op at object value t u left is well v = tt

  assigned-well : (model : DataModel) (at : Place) (object value : Typed) → NamesStructs s.program.table (type_of object) → IsAssigned s object
      → IsWell s value → IsValue value →
      IfFine (lift (assigned at object) (converted model at value (type_of object) (type_of value))) (IsWell s)
  assigned-well model at object value names left well v =
      lift-then (λ r. IsWell s r × IsValueOf r (type_of object)) (IsWell s) (assigned at object) _
      (converted-well s model at value (type_of object) (type_of value) names well (v, refl))
      (λ r given. (left.well, given.0, left.object, refl, given.1, left.held))

module _ (s : Setting) (c : Context) (agrees : Agrees s c) where
  stored-parts : (e : Typed) → is_stored_to e ≡ true → IsObject e × (is_array (type_of e) ≡ false)
  stored-parts e h = let both = both_true (is_object (form_of e)) (not (is_array (type_of e))) h in (both.0, not_true (is_array (type_of e)) both.1)

  assignable-well : (at : Place) (e : Typed) → IsWell s e → IfFine (assignable at e) (IsAssignable s)
  unfolding assignable
  assignable-well at e well =
      cond-then (IsAssignable s) (is_void (type_of e)) _ _
      (λ _. tt)
      (λ _. cond-then (IsAssignable s) (is_stored_to e) _ _
      (λ h. let to = stored-parts e h in record { well = well; object = to.0; no_array = to.1 })
      (λ _. tt))

  -- an object whose type `=` accepts has a complete type
  complete-now : (ty : Shape) → assigned_fault c.table.list ty ≡ None → is_complete c.table.list ty ≡ true
  unfolding assigned_fault
  complete-now ty none = by_complete (is_complete c.table.list ty) none
    where
      by_complete : (complete : Bool)
          → cond (not complete) (Some code.IncompleteType) (cond (has_few_scalars c.table.list ty) None (Some code.TooManyScalars)) ≡ None
          → complete ≡ true
      by_complete true none = refl
      by_complete false none = absurd cc

  assigned-now : (e : Typed) → IsAssignable s e → assigned_fault c.table.list (type_of e) ≡ None → IsAssigned s e
  assigned-now e left none =
      record {
        well = left.well;
        object = left.object;
        held = (complete-IsWhole s c agrees (type_of e) (complete-now (type_of e) none), left.no_array);
      }

  updatable_as-well : (op : BinOp) (at : Place) (e : Typed) (ty : Shape) → IsWell s e → IsObject e → IfFine (updatable_as op at e ty) (IsUpdatable s)
  unfolding updatable_as
  updatable_as-well op at e (integer ty) well object = record { well = well; object = object }
  updatable_as-well op at e (pointer target) well object =
      cond-then (IsUpdatable s) (is_additive op) _ _ (λ _. record { well = well; object = object }) (λ _. tt)
  updatable_as-well op at e ty well object = tt

  -- the object of a compound assignment, or of `++` and `--`
  updatable-well : (op : BinOp) (at : Place) (e : Typed) → IsWell s e → IfFine (updatable op at e) (IsUpdatable s)
  unfolding updatable
  updatable-well op at e well =
      cond-then (IsUpdatable s) (is_void (type_of e)) _ _
      (λ _. tt)
      (λ _. cond-then (IsUpdatable s) (is_stored_to e) _ _ (λ h. updatable_as-well op at e (type_of e) well (stored-parts e h).0) (λ _. tt))

  -- a pointer whose type is accepted points to a complete type
  elements-whole : (ty target : Shape) → updated_fault c.table.list ty ≡ None → ty ≡ pointer target → IsWhole s.program target
  unfolding updated_fault
  elements-whole (pointer elements) target none is = by_complete (is_complete c.table.list elements) refl none
    where
      by_complete : (complete : Bool) → is_complete c.table.list elements ≡ complete → cond complete None (Some code.IncompleteType) ≡ None
          → IsWhole s.program target
      by_complete true h none = let same : elements ≡ target = cc in subst (IsWhole s.program) same (complete-IsWhole s c agrees elements h)
      by_complete false h none = absurd cc
  elements-whole void target none is = absurd cc
  elements-whole (integer ty) target none is = absurd cc
  elements-whole (array element count) target none is = absurd cc
  elements-whole (struct number) target none is = absurd cc

  updated-now : (e : Typed) → IsUpdatable s e → updated_fault c.table.list (type_of e) ≡ None → IsUpdated s e
  updated-now e left none =
      record { well = left.well; object = left.object; elements = λ target is. elements-whole (type_of e) target none is }

  -- the object of `++` and `--`
  pub steppable-well : (op : BinOp) (at : Place) (e : Typed) → IsWell s e → IfFine (steppable c.table.list op at e) (IsUpdated s)
  unfolding steppable
  steppable-well op at e well =
      lift-then (IsUpdatable s) (IsUpdated s) (moved_by_step c.table.list at) (updatable op at e) (updatable-well op at e well)
      (λ o left. weighed-then (IsUpdated s) at (updated_fault c.table.list (type_of o)) (Fine o) (λ none. updated-now o left none))

  -- the left operand of an assignment operator
  pub left_side-well : (op : AssignOp) (at : Place) (e : Typed) → IsWell s e → IfFine (left_side op at e) (IsLeft s (is_plain op))
  unfolding left_side
  left_side-well op at e well = by_plain (is_plain op)
    where
      by_plain : (plain : Bool) → IfFine (cond plain (assignable at e) (updatable (operator_of op) at e)) (IsLeft s plain)
      by_plain true = assignable-well at e well
      by_plain false = updatable-well (operator_of op) at e well

  -- an assignment operator
  stored-well : (op : AssignOp) (at : Place) (object value : Typed) → IsLeft s (is_plain op) object → IsWell s value → IsValue value
      → IfFine (stored c op at object value) (IsWell s)
  unfolding stored left_fault stored_by
  stored-well op at object value left well v =
      weighed-then (IsWell s) at (left_fault c op (type_of object)) (stored_by c op at object value) (λ none. by_plain (is_plain op) left none)
    where
      by_plain : (plain : Bool) → IsLeft s plain object
          → cond plain (assigned_fault c.table.list (type_of object)) (updated_fault c.table.list (type_of object)) ≡ None
          → IfFine (cond plain (lift (assigned at object) (converted c.model at value (type_of object) (type_of value)))
          (updated c.model (operator_of op) at object value (type_of object) (type_of value))) (IsWell s)
      by_plain true left none =
          assigned-well s c.model at object value (type_of-named s agrees.types object left.well) (assigned-now object left none) well v
      by_plain false left none =
          updated-well s c.model (operator_of op) at object value (type_of object) (type_of value) (updated-now object left none) refl well (v, refl)

  -- the same if the right operand may have a type error
  pub stored_to-well : (op : AssignOp) (at : Place) (right : Verdict Typed) (object : Typed) → IsLeft s (is_plain op) object
      → IfFine right (λ v. IsWell s v × IsValue v) → IfFine (stored_to c op at right object) (IsWell s)
  stored_to-well op at right object left given =
      lift-then (λ v. IsWell s v × IsValue v) (IsWell s) (stored c op at object) (led at (left_fault c op (type_of object)) right)
      (led-then (λ v. IsWell s v × IsValue v) at (left_fault c op (type_of object)) right given)
      (λ v k. stored-well op at object v left k.0 k.1)

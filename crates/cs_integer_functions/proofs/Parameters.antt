-- The parameters and the body of an integer function: for what an exploration of it requires.
use Rattle.std.proofs.Common.{◌≡◌, ℕ, zero, suc, Bool, true, false, Option, None, Some, List, [], ◌∷◌, take, refl, sym, ap, ◌∙◌, subst}
use Rattle.std.specs.Prelude.{slice_get, IsTrue, ◌&&◌}
use Rattle.cs_types.specs.declared.int_type.IntType.{IntType}
use Rattle.cs_types.specs.Shape.{Shape, integer, void, pointer, array, struct}
use Rattle.cs_ast.specs.TypedTree.{Statement}
use Rattle.cs_ast.specs.TypedProgram.{TypedProgram, Variable}
use Rattle.cs_meaning.specs.Machine.{routine_of}
use Rattle.cs_meaning.specs.Steps.{parameters_of}
use Rattle.cs_integer_functions.specs.IntegerFunctions.{is_integer_type, are_integer_variables, is_integer_body, IsIntegerFunction}

both : (one other : Bool) → (one && other) ≡ true → (one ≡ true) × (other ≡ true)
both true other h = (refl, h)
both false other h = absurd (false_true h)
  where
    false_true : false ≡ true → ⊥
    false_true e = cc

is_integer : (shape : Shape) → is_integer_type shape ≡ true → (ty : IntType) × (shape ≡ integer ty)
is_integer (integer ty) is = (ty, refl)
is_integer void is = absurd (false_true is)
  where
    false_true : false ≡ true → ⊥
    false_true e = cc
is_integer (pointer target) is = absurd (false_true is)
  where
    false_true : false ≡ true → ⊥
    false_true e = cc
is_integer (array element count) is = absurd (false_true is)
  where
    false_true : false ≡ true → ⊥
    false_true e = cc
is_integer (struct number) is = absurd (false_true is)
  where
    false_true : false ≡ true → ⊥
    false_true e = cc

first_is : (v w : Variable) → Some v ≡ Some w → v.ty ≡ w.ty
first_is v w is = cc

none_is : {A : Type 0} (v : Variable) → None ≡ Some v → A
none_is v is = absurd cc

-- each of the first few variables is an integer
first_integers : (variables : List Variable) (count number : ℕ) (v : Variable) → are_integer_variables variables ≡ true
    → slice_get (take count variables) number ≡ Some v → (ty : IntType) × (v.ty ≡ integer ty)
first_integers [] zero number v all there = none_is v there
first_integers [] (suc count) number v all there = none_is v there
first_integers (w ∷ variables) zero number v all there = none_is v there
first_integers (w ∷ variables) (suc count) zero v all there =
    let is = is_integer w.ty (both (is_integer_type w.ty) (are_integer_variables variables) all).0 in
    (is.0, sym (first_is w v there) ∙ is.1)
first_integers (w ∷ variables) (suc count) (suc number) v all there =
    first_integers variables count number v (both (is_integer_type w.ty) (are_integer_variables variables) all).1 there

-- its parameters are integers
pub integer_parameters : (program : TypedProgram) (function number : ℕ) (v : Variable) → IsIntegerFunction program function
    → slice_get (parameters_of (routine_of program function)) number ≡ Some v → (ty : IntType) × (v.ty ≡ integer ty)
integer_parameters program function number v is there =
    let routine = routine_of program function in
    first_integers routine.variables routine.parameters number v
    (both (are_integer_variables routine.variables) (is_integer_body routine.body) is).0 there

body_of : (body : Option Statement) → is_integer_body body ≡ true → (inside : Statement) × (body ≡ Some inside)
body_of (Some inside) is = (inside, refl)
body_of None is = absurd (false_true is)
  where
    false_true : false ≡ true → ⊥
    false_true e = cc

-- it has a body
pub has_body : (program : TypedProgram) (function : ℕ) → IsIntegerFunction program function
    → (body : Statement) × ((routine_of program function).body ≡ Some body)
has_body program function is =
    let routine = routine_of program function in
    body_of routine.body (both (are_integer_variables routine.variables) (is_integer_body routine.body) is).1

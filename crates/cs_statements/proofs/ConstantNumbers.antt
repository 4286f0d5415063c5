-- The number of a constant expression is one that some integer type of C can represent: for the numbers of cases.
use Rattle.std.proofs.Common.{◌≡◌, ℕ, ◌≤◌, ◌^◌, Bool, true, false, cond, ◌&&◌, ◌||◌, not, Option, Some, None, refl, ap, subst, arith}
use Rattle.std.specs.Prelude.{ℤ, pos, negsuc, int_le, int_div, int_rem, ◌≤ℤ◌, ◌+ℤ◌, ◌-ℤ◌, ◌*ℤ◌, unsigned_abs, bit_and, bit_or}
use Rattle.std.specs.Prelude.{bit_xor, IfSome}
use Rattle.std.specs.Option.{option_map, option_and_then}
use Rattle.std.specs.Ordering.{int_eq}
use Rattle.std.proofs.lemmas.Int.{ints}
use Rattle.std.proofs.lemmas.Float.{T_from_true}
use Rattle.std.proofs.Math.Nat.{div-le_self}
use lib.Signed.{le_z_yes}
use Rattle.cs_types.specs.declared.data_model.DataModel.{DataModel}
use Rattle.cs_types.specs.declared.int_type.IntType.{IntType}
use Rattle.cs_types.specs.IntType.{has_sign, least_of, greatest_of, IsIntegerOfC}
use Rattle.cs_types.specs.Shape.{Shape, void, integer, pointer, array, struct}
use Rattle.cs_types.specs.Wrap.{floor_div, wrap_quotient, wrapped}
use Rattle.cs_types.proofs.Wrapping.{wrapped-InRange}
use Rattle.cs_ast.specs.declared.place.Place.{Place}
use Rattle.cs_ast.specs.declared.raw.expression.RawExpr.{RawExpr}
use Rattle.cs_ast.specs.declared.typed.operator.BinOp.{BinOp}
use Rattle.cs_ast.specs.declared.typed.operator.BinOp.TheVariants.{Add, Sub, Mul, Div, Rem, Shl, Shr, And as BitAnd, Xor, Or as BitOr}
use Rattle.cs_ast.specs.TypedTree.{Typed, Of, Form, Number, Convert, Unary, Not, Binary, Compare, And, Or, Choice}
use Rattle.cs_scopes.specs.declared.context.Context.{Context}
use Rattle.cs_consts.specs.declared.purpose.Purpose.TheVariants.{Constant}
use Rattle.cs_folding.specs.Folding.{truth, holds, without, given, kept, is_count, bits_of, applied, turned_exactly, compared, with_both, chosen_number}
use Rattle.cs_folding.specs.Folding.{needed_if, number_in, form_number}
use Rattle.cs_consts.specs.Constants.{constant_at, finished}
use Rattle.cs_consts.specs.Roles.{number_of_constant, value_of}
use Rattle.cs_consts.specs.Typing.{done}
use Rattle.cs_scopes.specs.Verdicts.{Verdict, Fine, Fault, lift}
use Rattle.cs_folding.proofs.Numbers.{in_c}
use Rattle.cs_statements.specs.Statements.{wrapped_in}

-- an optional number that some integer type of C can represent
abbrev Small : Option ℤ → Type 0
Small o = IfSome o IsIntegerOfC

le_by_test : (a b : ℤ) → int_le a b ≡ true → a ≤ℤ b
le_by_test a b e = le_z_yes (T_from_true (int_le a b) e)

between : (low n high : ℤ) (b d : Bool) → int_le low n ≡ b → int_le n high ≡ d → (low ≤ℤ n → n ≤ℤ high → IsIntegerOfC n)
    → Small (cond (b && d) (Some n) None)
between low n high true true e f h = h (le_by_test low n e) (le_by_test n high f)
between low n high true false e f h = tt
between low n high false d e f h = tt

kept_small : (model : DataModel) (ty : IntType) (n : ℤ) → Small (kept model ty n)
unfolding kept
kept_small model ty n = between (least_of model ty) n (greatest_of model ty) _ _ refl refl
    (λ low high. in_c model ty n (record { from_least = low; to_greatest = high }))

wrapped_small : (model : DataModel) (ty : IntType) (n : ℤ) → IsIntegerOfC (wrapped model ty n)
wrapped_small model ty n = in_c model ty (wrapped model ty n) (wrapped-InRange model ty n)

zero_small : IsIntegerOfC (pos 0)
zero_small = record { from_least = omega (arith, ints); to_greatest = omega (arith, ints) }

one_small : IsIntegerOfC (pos 1)
one_small = record { from_least = omega (arith, ints); to_greatest = omega (arith, ints) }

without_small : (needed : Bool) → Small (without needed)
without_small true = tt
without_small false = zero_small

truth_small : (b : Bool) → IsIntegerOfC (truth b)
truth_small true = one_small
truth_small false = zero_small

either_small : (b : Bool) (x y : Option ℤ) → Small x → Small y → Small (cond b x y)
either_small true x y h k = h
either_small false x y h k = k

one_of_small : (b : Bool) (x y : ℤ) → IsIntegerOfC x → IsIntegerOfC y → IsIntegerOfC (cond b x y)
one_of_small true x y h k = h
one_of_small false x y h k = k

given_small : (model : DataModel) (needed : Bool) (ty : IntType) (n : ℤ) → Small (given model needed ty n)
unfolding given
given_small model needed ty n =
    either_small (has_sign ty && not (int_eq (wrap_quotient model ty n) (pos 0))) _ _ (without_small needed) (wrapped_small model ty n)

floor_small : (a : ℤ) (n : ℕ) → IsIntegerOfC a → IsIntegerOfC (floor_div a n)
floor_small (pos a) n h = let less = div-le_self a n in record { from_least = omega (arith, ints); to_greatest = omega (arith, ints, less, h.to_greatest) }
floor_small (negsuc a) n h = let less = div-le_self a n in record { from_least = omega (arith, ints, less, h.from_least); to_greatest = omega (arith, ints) }

applied_small : (model : DataModel) (needed : Bool) (op : BinOp) (ty : IntType) (a b : ℤ) → IsIntegerOfC a → Small (applied model needed op ty a b)
unfolding applied
applied_small model needed Add ty a b h = given_small model needed ty (a +ℤ b)
applied_small model needed Sub ty a b h = given_small model needed ty (a -ℤ b)
applied_small model needed Mul ty a b h = given_small model needed ty (a *ℤ b)
applied_small model needed Div ty a b h = either_small (int_eq b (pos 0)) _ _ (without_small needed) (given_small model needed ty (int_div a b))
applied_small model needed Rem ty a b h = either_small (int_eq b (pos 0)) _ _ (without_small needed) (given_small model needed ty (int_rem a b))
applied_small model needed Shl ty a b h =
    either_small (is_count model ty b) _ _ (given_small model needed ty (a *ℤ pos (2 ^ unsigned_abs b))) (without_small needed)
applied_small model needed Shr ty a b h =
    either_small (is_count model ty b) (Some (floor_div a (2 ^ unsigned_abs b))) _ (floor_small a (2 ^ unsigned_abs b) h) (without_small needed)
applied_small model needed BitAnd ty a b h = wrapped_small model ty (pos (bit_and (bits_of model ty a) (bits_of model ty b)))
applied_small model needed Xor ty a b h = wrapped_small model ty (pos (bit_xor (bits_of model ty a) (bits_of model ty b)))
applied_small model needed BitOr ty a b h = wrapped_small model ty (pos (bit_or (bits_of model ty a) (bits_of model ty b)))

map_small : (f : ℤ → ℤ) (o : Option ℤ) → ((a : ℤ) → IsIntegerOfC (f a)) → Small (option_map f o)
map_small f (Some a) h = h a
map_small f None h = tt

then_small : (f : ℤ → Option ℤ) (o : Option ℤ) → ((a : ℤ) → Small (f a)) → Small (option_and_then f o)
then_small f (Some a) h = h a
then_small f None h = tt

both_small : (f : ℤ → ℤ → Option ℤ) (x y : Option ℤ) → Small x → ((a b : ℤ) → IsIntegerOfC a → Small (f a b)) → Small (with_both f x y)
both_small f (Some a) (Some b) s h = h a b s
both_small f (Some a) None s h = tt
both_small f None y s h = tt

chosen_small : (t x y : Option ℤ) → Small x → Small y → Small (chosen_number t x y)
chosen_small (Some t) (Some a) (Some b) s u = one_of_small (holds t) a b s u
chosen_small (Some t) (Some a) None s u = tt
chosen_small (Some t) None y s u = tt
chosen_small None x y s u = tt

mutual
  number_small : (model : DataModel) (needed : Bool) (e : Typed) → Small (number_in model needed e)
  number_small model needed (Of at (integer ty) form) = form_small model needed ty form
  number_small model needed (Of at void form) = tt
  number_small model needed (Of at (pointer target) form) = tt
  number_small model needed (Of at (array element count) form) = tt
  number_small model needed (Of at (struct number) form) = tt

  form_small : (model : DataModel) (needed : Bool) (ty : IntType) (form : Form) → Small (form_number model needed ty form)
  form_small model needed ty (Number n) = kept_small model ty n
  form_small model needed ty (Convert e) = map_small (wrapped model ty) (number_in model needed e) (wrapped_small model ty)
  form_small model needed ty (Unary op e) =
      then_small (λ a. given model needed ty (turned_exactly op a)) (number_in model needed e) (λ a. given_small model needed ty (turned_exactly op a))
  form_small model needed ty (Not e) = map_small (λ a. truth (not (holds a))) (number_in model needed e) (λ a. truth_small (not (holds a)))
  form_small model needed ty (Binary op l r) =
      both_small (applied model needed op ty) (number_in model needed l) (number_in model needed r) (number_small model needed l)
      (λ a b h. applied_small model needed op ty a b h)
  form_small model needed ty (Compare op l r) =
      both_small (λ a b. Some (truth (compared op a b))) (number_in model needed l) (number_in model needed r) (number_small model needed l)
      (λ a b h. truth_small (compared op a b))
  form_small model needed ty (And l r) =
      both_small (λ a b. Some (truth (holds a && holds b))) (number_in model needed l) (number_in model (needed_if needed true (number_in model needed l)) r)
      (number_small model needed l) (λ a b h. truth_small (holds a && holds b))
  form_small model needed ty (Or l r) =
      both_small (λ a b. Some (truth (holds a || holds b))) (number_in model needed l) (number_in model (needed_if needed false (number_in model needed l)) r)
      (number_small model needed l) (λ a b h. truth_small (holds a || holds b))
  form_small model needed ty (Choice t l r) =
      chosen_small (number_in model needed t) _ _
      (number_small model (needed_if needed true (number_in model needed t)) l)
      (number_small model (needed_if needed false (number_in model needed t)) r)
  form_small model needed ty other = tt

constant_small : (at : Place) (s : Shape) (o : Option ℤ) (ty : IntType) (n : ℤ) → Small o
    → lift number_of_constant (constant_at at s o) ≡ Fine (ty, n) → IsIntegerOfC n
unfolding lift
constant_small at (integer t) (Some m) ty n small h = let e : (t, m) ≡ (ty, n) = cc in subst IsIntegerOfC (ap (λ (p : IntType × ℤ). p.1) e) small
constant_small at void (Some m) ty n small h = absurd cc
constant_small at (pointer target) (Some m) ty n small h = absurd cc
constant_small at (array element count) (Some m) ty n small h = absurd cc
constant_small at (struct number) (Some m) ty n small h = absurd cc
constant_small at s None ty n small h = absurd cc

finished_small : (model : DataModel) (v : Verdict Typed) (ty : IntType) (n : ℤ)
    → lift number_of_constant (lift (finished model Constant) v) ≡ Fine (ty, n) → IsIntegerOfC n
unfolding lift finished
finished_small model (Fine (Of at s form)) ty n h = constant_small at s (number_in model true (Of at s form)) ty n (number_small model true (Of at s form)) h
finished_small model (Fault code at) ty n h = absurd cc

-- the number of a constant expression is one that an integer type of C can represent
pub value_in_c : (c : Context) (e : RawExpr) (ty : IntType) (n : ℤ) → value_of c e ≡ Fine (ty, n) → IsIntegerOfC n
unfolding value_of done
value_in_c c e ty n h = finished_small c.model _ ty n h

pub small_enough : (n : ℤ) → IsIntegerOfC n → unsigned_abs n ≤ 2 ^ 126
small_enough n s = omega (arith, ints, s.from_least, s.to_greatest)

pub wrapped_in_c : (model : DataModel) (ty : Shape) (n : ℤ) → IsIntegerOfC n → IsIntegerOfC (wrapped_in model ty n)
wrapped_in_c model (integer ty) n h = wrapped_small model ty n
wrapped_in_c model void n h = h
wrapped_in_c model (pointer target) n h = h
wrapped_in_c model (array element count) n h = h
wrapped_in_c model (struct number) n h = h

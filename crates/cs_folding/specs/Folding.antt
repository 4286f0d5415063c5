-- Constant expressions (C11 6.6) and their exact numbers.
use Rattle.std.specs.Prelude.{ℕ, suc, ◌*◌, ◌-◌, ◌^◌, ℤ, pos, negsuc, ◌+ℤ◌, ◌-ℤ◌, ◌*ℤ◌, int_lt, int_le, int_div}
use Rattle.std.specs.Prelude.{int_rem, unsigned_abs, bit_and, bit_or, bit_xor, Bool, true, false, not, ◌&&◌, ◌||◌, if◌then◌else◌, Option, Some}
use Rattle.std.specs.Prelude.{None}
use Rattle.std.specs.Ordering.{int_eq}
use Rattle.std.specs.Option.{option_map, option_and_then}
use Rattle.cs_types.specs.declared.data_model.DataModel.{DataModel}
use Rattle.cs_types.specs.declared.int_type.IntType.{IntType}
use Rattle.cs_types.specs.IntType.{bytes_of, has_sign, modulus_of, least_of, greatest_of}
use Rattle.cs_types.specs.Kinds.{is_void}
use Rattle.cs_types.specs.Shape.{Shape, void, integer, pointer, array, struct, same_shape}
use Rattle.cs_types.specs.Wrap.{floor_div, wrap_quotient, wrapped}
use Rattle.cs_ast.specs.declared.typed.operator.BinOp.{BinOp}
use Rattle.cs_ast.specs.declared.typed.operator.BinOp.TheVariants.{Add, Sub, Mul, Div, Rem, Shl, Shr, And as BitAnd, Xor, Or as BitOr}
use Rattle.cs_ast.specs.declared.typed.operator.UnOp.{UnOp}
use Rattle.cs_ast.specs.declared.typed.operator.UnOp.TheVariants.{Negate, Complement}
use Rattle.cs_ast.specs.declared.typed.operator.CmpOp.{CmpOp}
use Rattle.cs_ast.specs.declared.typed.operator.CmpOp.TheVariants.{Less, AtMost, More, AtLeast, Equal, Differs}
use Rattle.cs_ast.specs.TypedTree.{Typed, Of, Form, Number, Null, Convert, Unary, Not, Binary, Compare, And, Or, Choice}
use Rattle.cs_folding.specs.TypedParts.{type_of, form_of}

-- the truth value of a test, as an `int`
abbrev pub truth : Bool → ℤ
truth true = pos 1
truth false = pos 0

-- whether a number is true as a test
abbrev pub holds : ℤ → Bool
holds n = not (int_eq n (pos 0))

-- the number of an operator without a result: none, or 0 in an operand that isn't evaluated
abbrev pub without : Bool → Option ℤ
without true = None
without false = Some (pos 0)

-- the number of an exact result: a signed type has to represent it, an unsigned one takes it modulo (C11 6.2.5, paragraph 9; 6.5, paragraph 5)
unfoldable pub given : DataModel → Bool → IntType → ℤ → Option ℤ
given model needed ty exact =
    if has_sign ty && not (int_eq (wrap_quotient model ty exact) (pos 0)) then without needed else Some (wrapped model ty exact)

-- there is a number, and it is 0
abbrev pub is_zero : Option ℤ → Bool
is_zero (Some n) = int_eq n (pos 0)
is_zero None = false

-- the bits of a number of a type, as an unsigned number (C11 6.2.6.2)
abbrev pub bits_of : DataModel → IntType → ℤ → ℕ
bits_of model ty (pos n) = n
bits_of model ty (negsuc n) = modulus_of model ty - suc n

-- the number of a type whose bits an operator makes from those of two others
abbrev pub bitwise : (ℕ → ℕ → ℕ) → DataModel → IntType → ℤ → ℤ → ℤ
bitwise op model ty a b = wrapped model ty (pos (op (bits_of model ty a) (bits_of model ty b)))

-- a number of bits by which a number of the type can be shifted (C11 6.5.7, paragraph 3)
abbrev pub is_count : DataModel → IntType → ℤ → Bool
is_count model ty n = int_le (pos 0) n && int_lt n (pos (8 * bytes_of model ty))

-- the number of an operator on two numbers of a type; of a shift, the right one may have another type
unfoldable pub applied : DataModel → Bool → BinOp → IntType → ℤ → ℤ → Option ℤ
applied model needed Add ty a b = given model needed ty (a +ℤ b)
applied model needed Sub ty a b = given model needed ty (a -ℤ b)
applied model needed Mul ty a b = given model needed ty (a *ℤ b)
applied model needed Div ty a b = if int_eq b (pos 0) then without needed else given model needed ty (int_div a b)
applied model needed Rem ty a b = if int_eq b (pos 0) then without needed else given model needed ty (int_rem a b)
applied model needed Shl ty a b = if is_count model ty b then given model needed ty (a *ℤ pos (2 ^ unsigned_abs b)) else without needed
applied model needed Shr ty a b = if is_count model ty b then Some (floor_div a (2 ^ unsigned_abs b)) else without needed
applied model needed BitAnd ty a b = Some (bitwise bit_and model ty a b)
applied model needed Xor ty a b = Some (bitwise bit_xor model ty a b)
applied model needed BitOr ty a b = Some (bitwise bit_or model ty a b)

-- the exact result of an operator on one number
abbrev pub turned_exactly : UnOp → ℤ → ℤ
turned_exactly Negate a = pos 0 -ℤ a
turned_exactly Complement a = (pos 0 -ℤ a) -ℤ pos 1

-- a comparison of two numbers
abbrev pub compared : CmpOp → ℤ → ℤ → Bool
compared Less a b = int_lt a b
compared AtMost a b = int_le a b
compared More a b = int_lt b a
compared AtLeast a b = int_le b a
compared Equal a b = int_eq a b
compared Differs a b = not (int_eq a b)

-- a number, if its type can represent it
unfoldable pub kept : DataModel → IntType → ℤ → Option ℤ
kept model ty n = if int_le (least_of model ty) n && int_le n (greatest_of model ty) then Some n else None

-- a function of both numbers, if there are both
abbrev pub with_both : (ℤ → ℤ → Option ℤ) → Option ℤ → Option ℤ → Option ℤ
with_both f (Some a) (Some b) = f a b
with_both f (Some a) None = None
with_both f None b = None

-- the number of one of two, chosen by a test; there has to be a number for each
abbrev pub chosen_number : Option ℤ → Option ℤ → Option ℤ → Option ℤ
chosen_number (Some t) (Some a) (Some b) = Some (if holds t then a else b)
chosen_number (Some t) (Some a) None = None
chosen_number (Some t) None b = None
chosen_number None a b = None

-- whether an operand is evaluated that is only evaluated if the test holds, or only if it doesn't
abbrev pub needed_if : Bool → Bool → Option ℤ → Bool
needed_if needed way None = needed
needed_if needed true (Some t) = needed && holds t
needed_if needed false (Some t) = needed && not (holds t)

abbrev mutual
  -- the number of an integer constant expression (C11 6.6, paragraph 6), if it is one and its operators have results; they needn't
  -- have any in one that isn't evaluated
  pub number_in : DataModel → Bool → Typed → Option ℤ
  number_in model needed (Of at (integer ty) form) = form_number model needed ty form
  number_in model needed (Of at void form) = None
  number_in model needed (Of at (pointer target) form) = None
  number_in model needed (Of at (array element count) form) = None
  number_in model needed (Of at (struct number) form) = None

  pub form_number : DataModel → Bool → IntType → Form → Option ℤ
  form_number model needed ty (Number n) = kept model ty n
  form_number model needed ty (Convert e) = option_map (wrapped model ty) (number_in model needed e)
  form_number model needed ty (Unary op e) = option_and_then (λ a. given model needed ty (turned_exactly op a)) (number_in model needed e)
  form_number model needed ty (Not e) = option_map (λ a. truth (not (holds a))) (number_in model needed e)
  form_number model needed ty (Binary op l r) = with_both (applied model needed op ty) (number_in model needed l) (number_in model needed r)
  form_number model needed ty (Compare op l r) = with_both (λ a b. Some (truth (compared op a b))) (number_in model needed l) (number_in model needed r)
  form_number model needed ty (And l r) =
      with_both (λ a b. Some (truth (holds a && holds b))) (number_in model needed l) (number_in model (needed_if needed true (number_in model needed l)) r)
  form_number model needed ty (Or l r) =
      with_both (λ a b. Some (truth (holds a || holds b))) (number_in model needed l) (number_in model (needed_if needed false (number_in model needed l)) r)
  form_number model needed ty (Choice t l r) =
      chosen_number (number_in model needed t)
      (number_in model (needed_if needed true (number_in model needed t)) l)
      (number_in model (needed_if needed false (number_in model needed t)) r)
  form_number model needed ty other = None

-- the form is the null pointer
abbrev pub is_null_form : Form → Bool
is_null_form Null = true
is_null_form other = false

-- the type is `void *`
abbrev pub is_void_pointer : Shape → Bool
is_void_pointer (pointer void) = true
is_void_pointer other = false

-- a null pointer constant (C11 6.3.2.3, paragraph 3): an integer constant expression of value 0, or one that is cast to `void *`
unfoldable pub is_null : DataModel → Typed → Bool
is_null model e = (is_void_pointer (type_of e) && is_null_form (form_of e)) || is_zero (number_in model true e)

-- a pointer becomes the null pointer when it is cast to a pointer type: it is a null pointer constant and is cast neither to its own
-- type nor to `void *`
unfoldable pub is_null_cast : DataModel → Typed → Shape → Shape → Bool
is_null_cast model e target source = not (same_shape target source || is_void target) && is_null model e

-- A conversion keeps constants constant: a converted value may initialize an object exactly if the value itself may.
use Rattle.std.proofs.Common.{◌≡◌, ℕ, ℤ, Bool, true, false, cond, ◌||◌, Option, Some, None, refl, sym, ap, ◌∙◌, is_some}
use Rattle.std.specs.Prelude.{◌==◌}
use Rattle.std.specs.Option.{option_map}
use Rattle.cs_types.specs.declared.data_model.DataModel.{DataModel}
use Rattle.cs_types.specs.declared.int_type.IntType.{IntType}
use Rattle.cs_types.specs.Shape.{Shape, void, integer, pointer, array, struct, same_shape}
use Rattle.cs_types.specs.Kinds.{is_void}
use Rattle.cs_ast.specs.declared.place.Place.{Place}
use Rattle.cs_ast.specs.TypedTree.{Typed, Of, Form, Null, Convert, Value}
use Rattle.cs_scopes.specs.declared.refusal.TypeCode.{TypeCode}
use Rattle.cs_scopes.specs.declared.refusal.TypeCode.TheVariants.{OperandTypes, PointerConversion, Initializer}
use Rattle.cs_scopes.specs.Verdicts.{Verdict, Fine, Fault, lift}
use Rattle.cs_scopes.specs.Faults.{code_in}
use Rattle.cs_folding.specs.TypedParts.{type_of}
use Rattle.cs_folding.specs.Folding.{number_in, is_null, is_zero}
use Rattle.cs_expressions.specs.Integers.{in_type, is_integer}
use Rattle.cs_expressions.specs.Conversions.{converted, conversion_fault, pointed, null_at}
use Rattle.cs_declarations.specs.Initializers.{Storage, InFile, InFunction, is_admitted, is_braceless, value_held, value_judged}
use Rattle.cs_folding.specs.Addresses.{is_number, is_address}
use Rattle.cs_declarations.specs.Initializers.{item_judged}

-- a mapped option is there exactly if the option is
mapped_some : {A B : Type 0} (f : A → B) (o : Option A) → is_some (option_map f o) ≡ is_some o
mapped_some f None = refl
mapped_some f (Some a) = refl

-- equal results have equal values
same_value : (other v w : Typed) → Fine v ≡ Fine w → v ≡ w
same_value other v w h = ap (λ (x : Verdict Typed). given x) h
  where
    given : Verdict Typed → Typed
    given (Fine x) = x
    given (Fault code place) = other

module _ (model : DataModel) where
  abbrev may_hold : Typed → Bool
  may_hold e = is_number model e || is_address model e

  -- an integer converted to another type
  convert_holds : (at : Place) (t : IntType) (e : Typed) → may_hold (Of at (integer t) (Convert e)) ≡ may_hold e
  convert_holds at t e = ap (λ b. b || is_address model e) (mapped_some _ (number_in model true e))

  integer_holds : (at : Place) (t : IntType) (e : Typed) → may_hold (in_type at t e) ≡ may_hold e
  integer_holds at t e = by_test (is_integer t (type_of e))
    where
      by_test : (test : Bool) → may_hold (cond test e (Of at (integer t) (Convert e))) ≡ may_hold e
      by_test true = refl
      by_test false = convert_holds at t e

  -- a null pointer constant
  zero_holds : (o : Option ℤ) (b : Bool) → is_zero o ≡ true → (is_some o || b) ≡ true
  zero_holds (Some n) b h = refl
  zero_holds None b h = absurd cc

  null_holds : (e : Typed) → is_null model e ≡ true → may_hold e ≡ true
  unfolding is_null
  null_holds (Of p (integer s) form) h = zero_holds (number_in model true (Of p (integer s) form)) (is_address model (Of p (integer s) form)) h
  null_holds (Of p (pointer void) Null) h = refl
  null_holds (Of p ty form) h = absurd cc

  null_at_holds : (at : Place) (t : Shape) (e : Typed) → is_null model e ≡ true → may_hold (null_at at t) ≡ may_hold e
  null_at_holds at t e h = sym (null_holds e h)

  -- a pointer converted to another one
  pointer_holds : (at p : Place) (t s : Shape) (form : Form)
      → may_hold (Of at (pointer t) (Convert (Of p (pointer s) form))) ≡ may_hold (Of p (pointer s) form)
  pointer_holds at p t s form = refl

  pointed_by : (at : Place) (t : Shape) (e w : Typed) (same null to_void : Bool) → is_null model e ≡ null
      → may_hold (Of at (pointer void) (Convert e)) ≡ may_hold e
      → cond same (Fine e) (cond null (Fine (null_at at t)) (cond to_void (Fine (Of at (pointer void) (Convert e))) (Fault PointerConversion at))) ≡ Fine w
      → may_hold w ≡ may_hold e
  pointed_by at t e w true null to_void is kept h = sym (ap may_hold (same_value e e w h))
  pointed_by at t e w false true to_void is kept h = sym (ap may_hold (same_value e (null_at at t) w h)) ∙ null_at_holds at t e is
  pointed_by at t e w false false true is kept h = sym (ap may_hold (same_value e (Of at (pointer void) (Convert e)) w h)) ∙ kept
  pointed_by at t e w false false false is kept h = absurd cc

  pointed_holds : (at p : Place) (t s : Shape) (form : Form) (w : Typed) → pointed model at (Of p (pointer s) form) t s ≡ Fine w
      → may_hold w ≡ may_hold (Of p (pointer s) form)
  unfolding pointed
  pointed_holds at p t s form w h =
      pointed_by at t (Of p (pointer s) form) w (same_shape t s) (is_null model (Of p (pointer s) form)) (is_void t) refl (pointer_holds at p void s form) h

  struct_holds : (at p : Place) (n m : ℕ) (form : Form) (w : Typed) (same : Bool)
      → cond same (Fine (Of p (struct m) form)) (Fault OperandTypes at) ≡ Fine w → may_hold w ≡ may_hold (Of p (struct m) form)
  struct_holds at p n m form w true h = sym (ap may_hold (same_value w (Of p (struct m) form) w h))
  struct_holds at p n m form w false h = absurd cc

  zero_pointer_holds : (at : Place) (t : Shape) (e w : Typed) (null : Bool) → is_null model e ≡ null
      → cond null (Fine (null_at at t)) (Fault PointerConversion at) ≡ Fine w → may_hold w ≡ may_hold e
  zero_pointer_holds at t e w true is h = sym (ap may_hold (same_value e (null_at at t) w h)) ∙ null_at_holds at t e is
  zero_pointer_holds at t e w false is h = absurd cc

  converted_holds : (at : Place) (ty : Shape) (v w : Typed) → converted model at v ty (type_of v) ≡ Fine w → may_hold w ≡ may_hold v
  unfolding converted
  converted_holds at (integer t) (Of p (integer s) form) w h =
      sym (ap may_hold (same_value w (in_type at t (Of p (integer s) form)) w h)) ∙ integer_holds at t (Of p (integer s) form)
  converted_holds at (pointer t) (Of p (integer s) form) w h =
      zero_pointer_holds at t (Of p (integer s) form) w (is_null model (Of p (integer s) form)) refl h
  converted_holds at (pointer t) (Of p (pointer s) form) w h = pointed_holds at p t s form w h
  converted_holds at (struct n) (Of p (struct m) form) w h = struct_holds at p n m form w (n == m) h
  converted_holds at (integer t) (Of p (pointer s) form) w h = absurd cc
  converted_holds at (integer t) (Of p void form) w h = absurd cc
  converted_holds at (integer t) (Of p (array element count) form) w h = absurd cc
  converted_holds at (integer t) (Of p (struct m) form) w h = absurd cc
  converted_holds at (pointer t) (Of p void form) w h = absurd cc
  converted_holds at (pointer t) (Of p (array element count) form) w h = absurd cc
  converted_holds at (pointer t) (Of p (struct m) form) w h = absurd cc
  converted_holds at (struct n) (Of p void form) w h = absurd cc
  converted_holds at (struct n) (Of p (integer s) form) w h = absurd cc
  converted_holds at (struct n) (Of p (pointer s) form) w h = absurd cc
  converted_holds at (struct n) (Of p (array element count) form) w h = absurd cc
  converted_holds at void (Of p ty form) w h = absurd cc
  converted_holds at (array element count) (Of p ty form) w h = absurd cc

-- a value is accepted as a constant exactly if the converted one is
pub conversions_keep : (model : DataModel) (storage : Storage) (at : Place) (ty : Shape) (v w : Typed) → converted model at v ty (type_of v) ≡ Fine w
    → is_admitted model storage w ≡ is_admitted model storage v
conversions_keep model InFunction at ty v w h = refl
conversions_keep model InFile at ty v w h = converted_holds model at ty v w h

-- the type error at the `=` for a value: of its conversion first, then whether an object of this storage may hold it
module _ (model : DataModel) (storage : Storage) (at : Place) (ty : Shape) (v : Typed) where
  abbrev held : Verdict Typed → Option TypeCode
  held converted = code_in (lift (value_held model storage at) converted)

  pub item_is : is_braceless ty (type_of v) ≡ false → code_in (item_judged model storage at ty v) ≡ code_in (value_judged model storage at ty v)
  item_is none = ap (λ (b : Bool). code_in (cond b (Fault Initializer at) (value_judged model storage at ty v))) none

  pub braceless_said : is_braceless ty (type_of v) ≡ true → code_in (item_judged model storage at ty v) ≡ Some Initializer
  braceless_said is = ap (λ (b : Bool). code_in (cond b (Fault Initializer at) (value_judged model storage at ty v))) is

  pub conversion_said : (code : TypeCode) → conversion_fault model at ty v ≡ Some code → code_in (value_judged model storage at ty v) ≡ Some code
  unfolding lift
  conversion_said code said = refused (converted model at v ty (type_of v)) said
    where
      refused : (w : Verdict Typed) → code_in w ≡ Some code → held w ≡ Some code
      refused (Fine w) h = absurd cc
      refused (Fault other place) h = h

  pub holding_said : (admitted : Bool) → conversion_fault model at ty v ≡ None → is_admitted model storage v ≡ admitted
      → code_in (value_judged model storage at ty v) ≡ cond admitted None (Some Initializer)
  unfolding lift
  holding_said admitted fine is = by_verdict (converted model at v ty (type_of v)) refl fine
    where
      by_test : (w : Typed) (test : Bool) → code_in (cond test (Fine (Value w)) (Fault Initializer at)) ≡ cond test None (Some Initializer)
      by_test w true = refl
      by_test w false = refl

      by_verdict : (w : Verdict Typed) → converted model at v ty (type_of v) ≡ w → code_in w ≡ None → held w ≡ cond admitted None (Some Initializer)
      by_verdict (Fine w) e h =
          by_test w (is_admitted model storage w)
          ∙ ap (λ (b : Bool). cond b None (Some Initializer)) (conversions_keep model storage at ty v w e ∙ is)
      by_verdict (Fault code place) e h = absurd cc

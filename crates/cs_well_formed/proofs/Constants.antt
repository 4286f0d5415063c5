-- The number of a well-formed constant expression is one of its type: for the purposes of constants.
use Rattle.std.proofs.Common.{◌≡◌, ℕ, ◌^◌, Bool, true, false, cond, ◌&&◌, ◌||◌, not, Option, Some, None, arith, refl, subst}
use Rattle.std.specs.Prelude.{ℤ, pos, negsuc, ◌≤ℤ◌, int_le, unsigned_abs, bit_and, bit_or, bit_xor}
use Rattle.std.specs.Option.{option_map}
use Rattle.std.proofs.lemmas.Int.{ints}
use Rattle.std.proofs.lemmas.Option.{option_and_then_some, cond_some}
use Rattle.cs_types.specs.declared.data_model.DataModel.{DataModel}
use Rattle.cs_types.specs.declared.int_type.IntType.{IntType}
use Rattle.cs_types.specs.IntType.{least_of, greatest_of, InRange}
use Rattle.cs_types.specs.Shape.{Shape, void, integer, pointer, array, struct}
use Rattle.cs_types.specs.Wrap.{floor_div, wrapped}
use Rattle.cs_types.proofs.Wrapping.{wrapped-InRange}
use Rattle.cs_ast.specs.declared.place.Place.{Place}
use Rattle.cs_ast.specs.declared.typed.operator.BinOp.{BinOp}
use Rattle.cs_ast.specs.declared.typed.operator.BinOp.TheVariants.{Add, Sub, Mul, Div, Rem, Shl, Shr, And as BitAnd, Xor, Or as BitOr}
use Rattle.cs_ast.specs.TypedTree.{Typed, Of, Form, Number, Convert, Unary, Not, Binary, Compare, And, Or, Choice}
use Rattle.cs_consts.specs.declared.purpose.Purpose.{Purpose}
use Rattle.cs_consts.specs.declared.purpose.Purpose.TheVariants.{Run, Constant, Unneeded}
use Rattle.cs_folding.specs.TypedParts.{type_of}
use Rattle.cs_folding.specs.Folding.{truth, holds, without, given, bits_of, bitwise, is_count, applied, turned_exactly, compared, kept, with_both}
use Rattle.cs_folding.specs.Folding.{chosen_number, needed_if, number_in, form_number}
use Rattle.cs_consts.specs.Constants.{constant_at, finished}
use Rattle.cs_well_formed.specs.Expressions.{Setting, IsWell, IsWellForm}
use Rattle.cs_well_formed.proofs.Verdicts.{IfFine, both_true}
use Rattle.cs_well_formed.proofs.Numbers.{small-InRange}

-- if the mapped option is there, the option is too
option_map-some : {A B : Type 0} (f : A → B) (o : Option A) (y : B) → option_map f o ≡ Some y → (x : A) × (o ≡ Some x) × (f x ≡ y)
option_map-some f (Some x) y h = (x, refl, cc)
option_map-some f None y h = absurd cc

with_both-some : (f : ℤ → ℤ → Option ℤ) (o p : Option ℤ) (n : ℤ) → with_both f o p ≡ Some n
    → (a : ℤ) × (b : ℤ) × (o ≡ Some a) × (p ≡ Some b) × (f a b ≡ Some n)
with_both-some f (Some a) (Some b) n h = (a, b, refl, refl, h)
with_both-some f (Some a) None n h = absurd cc
with_both-some f None p n h = absurd cc

module _ (model : DataModel) (ty : IntType) where
  truth-InRange : (t : Bool) → InRange model ty (truth t)
  truth-InRange true = small-InRange model ty 1 (omega arith)
  truth-InRange false = small-InRange model ty 0 (omega arith)

  without-InRange : (needed : Bool) (n : ℤ) → without needed ≡ Some n → InRange model ty n
  without-InRange true n h = absurd cc
  without-InRange false n h = let is : pos 0 ≡ n = cc in subst (InRange model ty) is (small-InRange model ty 0 (omega arith))

  wrapped-is : (z n : ℤ) → Some (wrapped model ty z) ≡ Some n → InRange model ty n
  wrapped-is z n h = let is : wrapped model ty z ≡ n = cc in subst (InRange model ty) is (wrapped-InRange model ty z)

  bitwise-is : (op : ℕ → ℕ → ℕ) (a b n : ℤ) → Some (bitwise op model ty a b) ≡ Some n → InRange model ty n
  bitwise-is op a b n h = wrapped-is (pos (op (bits_of model ty a) (bits_of model ty b))) n h

  either-InRange : (test needed : Bool) (o : Option ℤ) (n : ℤ) → (o ≡ Some n → InRange model ty n) → cond test (without needed) o ≡ Some n
      → InRange model ty n
  either-InRange true needed o n held h = without-InRange needed n h
  either-InRange false needed o n held h = held h

  given-InRange : (needed : Bool) (z n : ℤ) → given model needed ty z ≡ Some n → InRange model ty n
  unfolding given
  given-InRange needed z n h = either-InRange _ needed (Some (wrapped model ty z)) n (wrapped-is z n) h

  kept-InRange : (k n : ℤ) → kept model ty k ≡ Some n → InRange model ty n
  unfolding kept
  kept-InRange k n h =
      let found = cond_some _ k n h in
      let ends = both_true (int_le (least_of model ty) k) (int_le k (greatest_of model ty)) found.0 in
      subst (InRange model ty) found.1 (record { from_least = from_test (least_of model ty) k ends.0; to_greatest = from_test k (greatest_of model ty) ends.1 })
    where
      from_test : (a b : ℤ) → int_le a b ≡ true → a ≤ℤ b
      from_test a b t = grind (arith, ints)

  -- a number divided by a power of two is no further from 0, or remains -1
  floor-between : (a : ℤ) (n : ℕ) (low high : ℤ) → low ≤ℤ a → a ≤ℤ high → low ≤ℤ pos 0 → pos 0 ≤ℤ high
      → (low ≤ℤ floor_div a n) × (floor_div a n ≤ℤ high)
  floor-between (pos a) n low high l h l' h' = (omega (arith, ints), omega (arith, ints))
  floor-between (negsuc a) n low high l h l' h' = (omega (arith, ints), omega (arith, ints))

  floor-InRange : (a : ℤ) (n : ℕ) → InRange model ty a → InRange model ty (floor_div a n)
  floor-InRange a n held =
      let none = small-InRange model ty 0 (omega arith) in
      let ends = floor-between a n (least_of model ty) (greatest_of model ty) held.from_least held.to_greatest none.from_least none.to_greatest in
      record { from_least = ends.0; to_greatest = ends.1 }

  shifted-InRange : (a : ℤ) (k : ℕ) (test needed : Bool) (n : ℤ) → InRange model ty a
      → cond test (Some (floor_div a (2 ^ k))) (without needed) ≡ Some n → InRange model ty n
  shifted-InRange a k true needed n held h = let is : floor_div a (2 ^ k) ≡ n = cc in subst (InRange model ty) is (floor-InRange a (2 ^ k) held)
  shifted-InRange a k false needed n held h = without-InRange needed n h

  scaled-InRange : (test needed : Bool) (z n : ℤ) → cond test (given model needed ty z) (without needed) ≡ Some n → InRange model ty n
  scaled-InRange true needed z n h = given-InRange needed z n h
  scaled-InRange false needed z n h = without-InRange needed n h

  applied-InRange : (needed : Bool) (op : BinOp) (a b n : ℤ) → InRange model ty a → applied model needed op ty a b ≡ Some n → InRange model ty n
  unfolding applied
  applied-InRange needed Add a b n held h = given-InRange needed _ n h
  applied-InRange needed Sub a b n held h = given-InRange needed _ n h
  applied-InRange needed Mul a b n held h = given-InRange needed _ n h
  applied-InRange needed Div a b n held h = either-InRange _ needed _ n (given-InRange needed _ n) h
  applied-InRange needed Rem a b n held h = either-InRange _ needed _ n (given-InRange needed _ n) h
  applied-InRange needed Shl a b n held h = scaled-InRange (is_count model ty b) needed _ n h
  applied-InRange needed Shr a b n held h = shifted-InRange a (unsigned_abs b) (is_count model ty b) needed n held h
  applied-InRange needed BitAnd a b n held h = bitwise-is bit_and a b n h
  applied-InRange needed Xor a b n held h = bitwise-is bit_xor a b n h
  applied-InRange needed BitOr a b n held h = bitwise-is bit_or a b n h

  truth-is : (t : Bool) (n : ℤ) → Some (truth t) ≡ Some n → InRange model ty n
  truth-is t n h = let is : truth t ≡ n = cc in subst (InRange model ty) is (truth-InRange t)

  -- a number in the range of a type is in the range of an equal type
  moved-InRange : (other : Shape) (n : ℤ) → other ≡ integer ty → ((kind : IntType) × (other ≡ integer kind) × InRange model kind n)
      → InRange model ty n
  moved-InRange other n is held = let same : held.0 ≡ ty = cc in subst (λ k. InRange model k n) same held.2

  chosen-InRange : (t a b : Option ℤ) (n : ℤ) → ((x : ℤ) → a ≡ Some x → InRange model ty x)
      → ((x : ℤ) → b ≡ Some x → InRange model ty x) → chosen_number t a b ≡ Some n → InRange model ty n
  chosen-InRange (Some t) (Some a) (Some b) n one other h = let is : cond (holds t) a b ≡ n = cc in subst (InRange model ty) is (picked (holds t))
    where
      picked : (test : Bool) → InRange model ty (cond test a b)
      picked true = one a refl
      picked false = other b refl
  chosen-InRange (Some t) (Some a) None n one other h = absurd cc
  chosen-InRange (Some t) None b n one other h = absurd cc
  chosen-InRange None a b n one other h = absurd cc

module _ (s : Setting) where
  mutual
    -- the number of a well-formed expression is in the range of its type
    pub number_in-well : (needed : Bool) (e : Typed) (n : ℤ) → IsWell s e → number_in s.program.model needed e ≡ Some n
        → IsWellForm s (type_of e) (Number n)
    number_in-well needed (Of at (integer ty) form) n well h = (ty, refl, form_number-InRange needed form ty n well h)
    number_in-well needed (Of at void form) n well h = absurd cc
    number_in-well needed (Of at (pointer target) form) n well h = absurd cc
    number_in-well needed (Of at (array element count) form) n well h = absurd cc
    number_in-well needed (Of at (struct number) form) n well h = absurd cc

    form_number-InRange : (needed : Bool) (form : Form) (ty : IntType) (n : ℤ) → IsWellForm s (integer ty) form
        → form_number s.program.model needed ty form ≡ Some n → InRange s.program.model ty n
    form_number-InRange needed (Number k) ty n well h = kept-InRange s.program.model ty k n h
    form_number-InRange needed (Convert e) ty n well h =
        let found = option_map-some (wrapped s.program.model ty) (number_in s.program.model needed e) n h in
        subst (InRange s.program.model ty) found.2 (wrapped-InRange s.program.model ty found.0)
    form_number-InRange needed (Unary op e) ty n well h =
        option_and_then_some (λ a. given s.program.model needed ty (turned_exactly op a)) (number_in s.program.model needed e) n h
        (λ a _ is. given-InRange s.program.model ty needed _ n is)
    form_number-InRange needed (Not e) ty n well h =
        let found = option_map-some (λ a. truth (not (holds a))) (number_in s.program.model needed e) n h in
        subst (InRange s.program.model ty) found.2 (truth-InRange s.program.model ty _)
    form_number-InRange needed (Binary op l r) ty n well h =
        let found = with_both-some (applied s.program.model needed op ty) (number_in s.program.model needed l) (number_in s.program.model needed r) n h in
        applied-InRange s.program.model ty needed op found.0 found.1 n
        (moved-InRange s.program.model ty (type_of l) found.0 well.3.1 (number_in-well needed l found.0 well.0 found.2))
        found.4
    form_number-InRange needed (Compare op l r) ty n well h =
        let found = with_both-some (λ a b. Some (truth (compared op a b))) (number_in s.program.model needed l) (number_in s.program.model needed r) n h in
        truth-is s.program.model ty _ n found.4
    form_number-InRange needed (And l r) ty n well h =
        let found = with_both-some (λ a b. Some (truth (holds a && holds b))) (number_in s.program.model needed l)
        (number_in s.program.model (needed_if needed true (number_in s.program.model needed l)) r) n h in
        truth-is s.program.model ty _ n found.4
    form_number-InRange needed (Or l r) ty n well h =
        let found = with_both-some (λ a b. Some (truth (holds a || holds b))) (number_in s.program.model needed l)
        (number_in s.program.model (needed_if needed false (number_in s.program.model needed l)) r) n h in
        truth-is s.program.model ty _ n found.4
    form_number-InRange needed (Choice t l r) ty n well h =
        let on = needed_if needed true (number_in s.program.model needed t) in
        let off = needed_if needed false (number_in s.program.model needed t) in
        chosen-InRange s.program.model ty (number_in s.program.model needed t) (number_in s.program.model on l) (number_in s.program.model off r) n
        (λ x is. moved-InRange s.program.model ty (type_of l) x well.4.1 (number_in-well on l x well.1 is))
        (λ x is. moved-InRange s.program.model ty (type_of r) x well.5.1 (number_in-well off r x well.2 is))
        h
    form_number-InRange needed other ty n well h = absurd cc

  constant_at-well : (at : Place) (ty : Shape) (o : Option ℤ) → ((n : ℤ) → o ≡ Some n → IsWellForm s ty (Number n))
      → IfFine (constant_at at ty o) (IsWell s)
  constant_at-well at ty (Some n) held = held n refl
  constant_at-well at ty None held = tt

  -- a well-formed expression, finished for its purpose, is well formed
  pub finished-well : (model : DataModel) (purpose : Purpose) (e : Typed) → model ≡ s.program.model → IsWell s e
      → IfFine (finished model purpose e) (IsWell s)
  unfolding finished
  finished-well model Run e same well = well
  finished-well model Constant (Of at ty form) same well =
      constant_at-well at ty (number_in model true (Of at ty form))
      (λ n is. number_in-well true (Of at ty form) n well (subst (λ m. number_in m true (Of at ty form) ≡ Some n) same is))
  finished-well model Unneeded (Of at ty form) same well =
      constant_at-well at ty (number_in model false (Of at ty form))
      (λ n is. number_in-well false (Of at ty form) n well (subst (λ m. number_in m false (Of at ty form) ≡ Some n) same is))

-- An object that is changed or remains the same: for the contract of `overwrite`.
use Rattle.std.proofs.Common.{◌≡◌, Bool, true, false, Some, None, refl, sym, ap, subst, arith, if◌then◌else◌}
use Rattle.std.specs.Prelude.{option_map}
use Rattle.std.specs.declared.cmp.Ordering.{Ordering}
use Rattle.std.specs.declared.cmp.Ordering.TheVariants.{Less, Equal, Greater}
use Rattle.std.proofs.lemmas.Bool.Decides.{nat_tests}
use mathlib.Core.Path.{fun_ext}
use Rattle.cs_inputs.specs.PathOrder.{path_order}
use Rattle.cs_inputs.proofs.PathOrderLaws.{path_order-tie}
use Rattle.cs_events.specs.Objects.{Object, StartBlock, GlobalObject, LiteralObject, LocalObject, HeapBlock, is_equal, same_object}
use Rattle.cs_meaning.specs.Memory.{Block, Memory, changed}

is_tie : (o : Ordering) → is_equal o ≡ true → o ≡ Equal
is_tie Less h = cc
is_tie Equal h = refl
is_tie Greater h = cc

-- objects that compare as the same are equal
same_is : (one other : Object) → same_object one other ≡ true → one ≡ other
same_is (StartBlock p) (StartBlock q) h = ap StartBlock (path_order-tie p q (is_tie (path_order p q) h))
same_is (StartBlock p) (GlobalObject n) h = cc
same_is (StartBlock p) (LiteralObject n) h = cc
same_is (StartBlock p) (LocalObject g n) h = cc
same_is (StartBlock p) (HeapBlock n) h = cc
same_is (GlobalObject m) (StartBlock q) h = cc
same_is (GlobalObject m) (GlobalObject n) h =
    let e : m ≡ n = grind (arith, nat_tests) in
    ap GlobalObject e
same_is (GlobalObject m) (LiteralObject n) h = cc
same_is (GlobalObject m) (LocalObject g n) h = cc
same_is (GlobalObject m) (HeapBlock n) h = cc
same_is (LiteralObject m) (StartBlock q) h = cc
same_is (LiteralObject m) (GlobalObject n) h = cc
same_is (LiteralObject m) (LiteralObject n) h =
    let e : m ≡ n = grind (arith, nat_tests) in
    ap LiteralObject e
same_is (LiteralObject m) (LocalObject g n) h = cc
same_is (LiteralObject m) (HeapBlock n) h = cc
same_is (LocalObject f m) (StartBlock q) h = cc
same_is (LocalObject f m) (GlobalObject n) h = cc
same_is (LocalObject f m) (LiteralObject n) h = cc
same_is (LocalObject f m) (LocalObject g n) h =
    let e : f ≡ g = grind (arith, nat_tests) in
    let d : m ≡ n = grind (arith, nat_tests) in
    cc
same_is (LocalObject f m) (HeapBlock n) h = cc
same_is (HeapBlock m) (StartBlock q) h = cc
same_is (HeapBlock m) (GlobalObject n) h = cc
same_is (HeapBlock m) (LiteralObject n) h = cc
same_is (HeapBlock m) (LocalObject g n) h = cc
same_is (HeapBlock m) (HeapBlock n) h =
    let e : m ≡ n = grind (arith, nat_tests) in
    ap HeapBlock e

-- two changes with the same result for an object
pub changes_as : (f g : Block → Block) (object : Object) (memory : Memory) (block : Block) → memory object ≡ Some block → f block ≡ g block
    → changed f object memory ≡ changed g object memory
changes_as f g object memory block there same = fun_ext (λ other. at other (same_object object other) refl)
  where
    at : (other : Object) (b : Bool) → same_object object other ≡ b
        → (if b then option_map f (memory other) else memory other) ≡ (if b then option_map g (memory other) else memory other)
    at other false e = refl
    at other true e =
        let here : memory other ≡ Some block = subst (λ (o : Object). memory o ≡ Some block) (same_is object other e) there in
        rw here (ap Some same)

-- a change that doesn't change an object
pub changes_nothing : (f : Block → Block) (object : Object) (memory : Memory) (block : Block) → memory object ≡ Some block → f block ≡ block
    → memory ≡ changed f object memory
changes_nothing f object memory block there same = fun_ext (λ other. at other (same_object object other) refl)
  where
    at : (other : Object) (b : Bool) → same_object object other ≡ b → memory other ≡ (if b then option_map f (memory other) else memory other)
    at other false e = refl
    at other true e =
        let here : memory other ≡ Some block = subst (λ (o : Object). memory o ≡ Some block) (same_is object other e) there in
        rw here (ap Some (sym same))

-- an object that doesn't exist isn't changed
pub changes_none : (f : Block → Block) (object : Object) (memory : Memory) → memory object ≡ None → memory ≡ changed f object memory
changes_none f object memory none = fun_ext (λ other. at other (same_object object other) refl)
  where
    at : (other : Object) (b : Bool) → same_object object other ≡ b → memory other ≡ (if b then option_map f (memory other) else memory other)
    at other false e = refl
    at other true e =
        let here : memory other ≡ None = subst (λ (o : Object). memory o ≡ None) (same_is object other e) none in
        rw here refl

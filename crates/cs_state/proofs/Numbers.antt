-- The numbers of objects and inputs in tables: for the laws.
use Rattle.std.proofs.Common.{◌≡◌, ◌≢◌, ℕ, zero, suc, Bool, true, false, cond, List, [], ◌∷◌, refl, sym, ap, ◌∙◌, subst, arith}
use Rattle.std.proofs.Common.{true≢false, nat_eq}
use Rattle.std.specs.Prelude.{Option, None, Some, is_some, slice_get, option_map, ◌&&◌}
use Rattle.std.specs.Cmp.{eq_by_cmp_equiv}
use Rattle.std.specs.declared.cmp.Ordering.{Ordering}
use Rattle.std.specs.declared.cmp.Ordering.TheVariants.{Less, Equal, Greater}
use Rattle.std.proofs.lemmas.Option.{same_Some}
use Rattle.std.proofs.lemmas.Bool.{eqb-true, eq-eqb}
use Rattle.cs_inputs.specs.declared.path.Path.{Path}
use Rattle.cs_inputs.specs.PathOrder.{path_order}
use Rattle.cs_inputs.proofs.PathOrderLaws.{path_order-total, path_order-tie}
use Rattle.cs_store.proofs.Keys.{equal_from_eq}
use Rattle.cs_terms.specs.declared.symbol.SymName.{SymName}
use Rattle.cs_terms.specs.declared.symbol.SymName.TheVariants.{Input, Guess}
use Rattle.cs_terms.specs.Table.{HasEachOnce}
use Rattle.cs_terms.specs.Term.{Valuation}
use Rattle.cs_regions.specs.declared.base.Base.{Base}
use Rattle.cs_regions.specs.declared.base.Base.TheVariants.{Entry, Global, Literal, Local, Heap}
use Rattle.cs_regions.specs.Numbering.{IsNumbered}
use Rattle.cs_events.specs.Objects.{Object, StartBlock, GlobalObject, LiteralObject, LocalObject, HeapBlock, same_object, is_equal}
use Rattle.cs_state.specs.Valuations.{is_input_at, input_of}
use Rattle.cs_state.specs.Cells.{object_of}
use Rattle.cs_state.specs.Objects.{number_of}

itself : (p : Path) → path_order p p ≡ Equal
itself p = equal_from_eq (path_order p p) ((eq_by_cmp_equiv path_order-total).refl p)

tied : (o : Ordering) → is_equal o ≡ true → o ≡ Equal
tied Less e = absurd (true≢false (sym e))
tied Equal e = refl
tied Greater e = absurd (true≢false (sym e))

is_input_itself : (p : Path) → is_input_at p (Input p) ≡ true
is_input_itself p = ap is_equal (itself p)

is_input_same : (p : Path) (name : SymName) → is_input_at p name ≡ true → name ≡ Input p
is_input_same p (Input q) e = ap Input (sym (path_order-tie p q (tied (path_order p q) e)))
is_input_same p (Guess event) e = absurd (true≢false (sym e))

once_later : (name : SymName) (names : List SymName) → HasEachOnce (name ∷ names) → HasEachOnce names
once_later name names once j k it one other = omega (arith, once (suc j) (suc k) it one other)

first_is : (name : SymName) (names : List SymName) (valuation : Valuation) (path : Path) (is : Bool) → is_input_at path name ≡ is
    → input_of (name ∷ names) valuation path ≡ cond is (valuation 0) (input_of names (λ symbol. valuation (suc symbol)) path)
first_is name names valuation path is e = ap (λ t. cond t (valuation 0) (input_of names (λ symbol. valuation (suc symbol)) path)) e

pub input_here : (names : List SymName) (valuation : Valuation) (symbol : ℕ) (path : Path) → HasEachOnce names
    → slice_get names symbol ≡ Some (Input path) → input_of names valuation path ≡ valuation symbol
input_here [] valuation symbol path once there = absurd (true≢false (ap is_some (sym there)))
input_here (name ∷ names) valuation zero path once there =
    first_is name names valuation path true (ap (is_input_at path) (same_Some name (Input path) there) ∙ is_input_itself path)
input_here (name ∷ names) valuation (suc symbol) path once there =
    by (is_input_at path name) refl (input_here names (λ symbol. valuation (suc symbol)) symbol path (once_later name names once) there)
  where
    by : (is : Bool) → is_input_at path name ≡ is → input_of names (λ symbol. valuation (suc symbol)) path ≡ valuation (suc symbol)
        → input_of (name ∷ names) valuation path ≡ valuation (suc symbol)
    by true e later =
        let first : slice_get (name ∷ names) 0 ≡ Some (Input path) = ap Some (is_input_same path name e) in
        absurd (omega (arith, once 0 (suc symbol) (Input path) first there))
    by false e later = first_is name names valuation path false e ∙ later

both : (a b : Bool) → (a && b) ≡ true → (a ≡ true) × (b ≡ true)
both true b e = (refl, e)
both false b e = absurd (true≢false (sym e))

same_number : (n : ℕ) → nat_eq n n ≡ true
same_number n = eq-eqb n n refl

same_object_itself : (o : Object) → same_object o o ≡ true
same_object_itself (StartBlock p) = ap is_equal (itself p)
same_object_itself (GlobalObject n) = same_number n
same_object_itself (LiteralObject n) = same_number n
same_object_itself (LocalObject f n) = ap (λ t. t && nat_eq n n) (same_number f) ∙ same_number n
same_object_itself (HeapBlock n) = same_number n

same_object_same : (o q : Object) → same_object o q ≡ true → o ≡ q
same_object_same (StartBlock p) (StartBlock q) e = ap StartBlock (path_order-tie p q (tied (path_order p q) e))
same_object_same (GlobalObject m) (GlobalObject n) e = ap GlobalObject (eqb-true m n e)
same_object_same (LiteralObject m) (LiteralObject n) e = ap LiteralObject (eqb-true m n e)
same_object_same (LocalObject f m) (LocalObject g n) e =
    let parts = both (nat_eq f g) (nat_eq m n) e in
    let frames = eqb-true f g parts.0 in
    let numbers = eqb-true m n parts.1 in
    λ i. LocalObject (frames i) (numbers i)
same_object_same (HeapBlock m) (HeapBlock n) e = ap HeapBlock (eqb-true m n e)
same_object_same o q e = absurd (true≢false (sym e))

base_of : Object → Base
base_of (StartBlock path) = Entry path
base_of (GlobalObject global) = Global global
base_of (LiteralObject literal) = Literal literal
base_of (LocalObject frame declaration) = Local frame declaration
base_of (HeapBlock allocation) = Heap allocation

base_back : (base : Base) → base_of (object_of base) ≡ base
unfolding base_of
base_back (Entry path) = refl
base_back (Global global) = refl
base_back (Literal literal) = refl
base_back (Local frame declaration) = refl
base_back (Heap allocation) = refl

numbered_later : (base : Base) (bases : List Base) → IsNumbered (base ∷ bases) → IsNumbered bases
numbered_later base bases once it j k one other = omega (arith, once it (suc j) (suc k) one other)

number_is : (base : Base) (bases : List Base) (object : Object) (is : Bool) → same_object object (object_of base) ≡ is
    → number_of (base ∷ bases) object ≡ cond is (Some 0) (option_map suc (number_of bases object))
number_is base bases object is e = ap (λ t. cond t (Some 0) (option_map suc (number_of bases object))) e

pub number_here : (bases : List Base) (number : ℕ) (base : Base) → IsNumbered bases → slice_get bases number ≡ Some base
    → number_of bases (object_of base) ≡ Some number
number_here [] number base once there = absurd (true≢false (ap is_some (sym there)))
number_here (b ∷ bases) zero base once there =
    number_is b bases (object_of base) true
    (ap (λ (x : Base). same_object (object_of base) (object_of x)) (same_Some b base there) ∙ same_object_itself (object_of base))
number_here (b ∷ bases) (suc number) base once there =
    by (same_object (object_of base) (object_of b)) refl (number_here bases number base (numbered_later b bases once) there)
  where
    by : (is : Bool) → same_object (object_of base) (object_of b) ≡ is → number_of bases (object_of base) ≡ Some number
        → number_of (b ∷ bases) (object_of base) ≡ Some (suc number)
    by true e later =
        let one : base ≡ b = sym (base_back base) ∙ ap base_of (same_object_same (object_of base) (object_of b) e) ∙ base_back b in
        absurd (omega (arith, once base 0 (suc number) (ap Some (sym one)) there))
    by false e later = number_is b bases (object_of base) false e ∙ ap (option_map suc) later

abbrev IsOf : List Base → Object → ℕ → Type 0
IsOf bases object number = (base : Base) × (slice_get bases number ≡ Some base) × (object_of base ≡ object)

number_after : (b : Base) (bases : List Base) (object : Object) (found : Option ℕ) (number : ℕ)
    → ((n : ℕ) → found ≡ Some n → IsOf bases object n) → option_map suc found ≡ Some number → IsOf (b ∷ bases) object number
number_after b bases object None number later e = absurd (true≢false (ap is_some (sym e)))
number_after b bases object (Some n) number later e =
    subst (λ (k : ℕ). IsOf (b ∷ bases) object k) (same_Some (suc n) number e) (later n refl)

pub number_of_object : (bases : List Base) (object : Object) (number : ℕ) → number_of bases object ≡ Some number → IsOf bases object number
number_of_object [] object number e = absurd (true≢false (ap is_some (sym e)))
number_of_object (b ∷ bases) object number e =
    by (same_object object (object_of b)) refl (λ n found. number_of_object bases object n found)
  where
    by : (is : Bool) → same_object object (object_of b) ≡ is → ((n : ℕ) → number_of bases object ≡ Some n → IsOf bases object n)
        → IsOf (b ∷ bases) object number
    by true t later =
        subst (λ (k : ℕ). IsOf (b ∷ bases) object k) (same_Some 0 number (sym (number_is b bases object true t) ∙ e))
        (b, refl, sym (same_object_same object (object_of b) t))
    by false t later =
        number_after b bases object (number_of bases object) number later (sym (number_is b bases object false t) ∙ e)

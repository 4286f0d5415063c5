-- Base regions and their objects.
use Rattle.std.proofs.Common.{◌≡◌, ℕ, zero, suc, Bool, true, false, cond, true≢false, List, [], ◌∷◌, Option, None, Some, slice_get, is_some}
use Rattle.std.proofs.Common.{refl, sym, ap, ◌∙◌}
use Rattle.std.proofs.lemmas.Option.{same_Some}
use Rattle.cs_regions.specs.declared.base.Base.{Base}
use Rattle.cs_regions.specs.declared.base.Base.TheVariants.{Entry, Global, Literal, Local, Heap}
use Rattle.cs_regions.specs.Numbering.{IsNumbered}
use Rattle.cs_events.specs.Objects.{Object, StartBlock, GlobalObject, LiteralObject, LocalObject, HeapBlock, same_object}
use Rattle.cs_state.specs.Cells.{object_of}
use Rattle.cs_state.specs.Objects.{number_of}
use Rattle.cs_state.proofs.Numbers.{number_here, number_of_object}

-- the only base region has one number
one_alone : (base : Base) → IsNumbered (base ∷ [])
one_alone base it zero zero first second = refl
one_alone base it (suc j) k first second = absurd (true≢false (ap is_some (sym first)))
one_alone base it zero (suc k) first second = absurd (true≢false (ap is_some (sym second)))

-- an object is itself
pub same_itself : (base : Base) → same_object (object_of base) (object_of base) ≡ true
same_itself base = by (same_object (object_of base) (object_of base)) (number_here (base ∷ []) 0 base (one_alone base) refl)
  where
    by : (same : Bool) → cond {A = Option ℕ} same (Some 0) None ≡ Some 0 → same ≡ true
    by true e = refl
    by false e = absurd (true≢false (sym (ap is_some e)))

-- objects that are the same by their test are equal
pub same_objects : (one : Object) (other : Base) → same_object one (object_of other) ≡ true → object_of other ≡ one
same_objects one other same =
    let found : number_of (other ∷ []) one ≡ Some 0 = ap (λ (t : Bool). cond {A = Option ℕ} t (Some 0) None) same in
    let (base, there, is) = number_of_object (other ∷ []) one 0 found in
    ap object_of (same_Some other base there) ∙ is

-- base regions of one object have one number
pub same_region : (bases : List Base) (m n : ℕ) (one other : Base) → IsNumbered bases → slice_get bases m ≡ Some one
    → slice_get bases n ≡ Some other
    → same_object (object_of one) (object_of other) ≡ true → m ≡ n
same_region bases m n one other once at_m at_n same =
    same_Some m n (sym (number_here bases m one once at_m) ∙ ap (number_of bases) (sym (same_objects (object_of one) other same))
    ∙ number_here bases n other once at_n)

-- each object is that of a base region
pub object_has_base : (object : Object) → (base : Base) × (object_of base ≡ object)
object_has_base (StartBlock path) = (Entry path, refl)
object_has_base (GlobalObject global) = (Global global, refl)
object_has_base (LiteralObject literal) = (Literal literal, refl)
object_has_base (LocalObject frame declaration) = (Local frame declaration, refl)
object_has_base (HeapBlock allocation) = (Heap allocation, refl)

pub equal_objects : (one other : Object) → same_object one other ≡ true → other ≡ one
equal_objects one other same =
    let (base, is) = object_has_base other in
    sym is ∙ same_objects one base (ap (same_object one) is ∙ same)

-- Base regions and their objects: for the contract of `in_one_object`.
use Rattle.std.proofs.Common.{◌≡◌, ◌≢◌, ℕ, zero, suc, ℤ, Bool, true, false, cond, true≢false, List}
use Rattle.std.proofs.Common.{[], ◌∷◌, Option, None, Some, slice_get, is_some, refl, sym, ap, ◌∙◌}
use Rattle.std.proofs.lemmas.Option.{same_Some}
use Rattle.cs_regions.specs.declared.base.Base.{Base}
use Rattle.cs_regions.specs.Numbering.{IsNumbered}
use Rattle.cs_events.specs.Objects.{same_object}
use Rattle.cs_meaning.specs.Operators.{in_one_object}
use Rattle.cs_state.specs.Cells.{object_of, pointer_to}
use Rattle.cs_state.specs.Objects.{number_of}
use Rattle.cs_progress.proofs.NumberedObjects.{same_itself, same_region}

-- pointers into one base region
pub one_region : (found : Option Base) (x y : ℤ) → found ≢ None → in_one_object (pointer_to found x) (pointer_to found y) ≡ Some (x, y)
one_region None x y there = absurd (there refl)
one_region (Some base) x y there = ap (λ (same : Bool). cond {A = Option (ℤ × ℤ)} same (Some (x, y)) None) (same_itself base)

-- pointers into two base regions
pub two_regions : (bases : List Base) (m n : ℕ) (x y : ℤ) → IsNumbered bases → (m ≡ n → ⊥)
    → in_one_object (pointer_to (slice_get bases m) x) (pointer_to (slice_get bases n) y) ≡ None
two_regions bases m n x y once differ = by (slice_get bases m) (slice_get bases n) refl refl
  where
    by : (one other : Option Base) → slice_get bases m ≡ one → slice_get bases n ≡ other
        → in_one_object (pointer_to one x) (pointer_to other y) ≡ None
    by None other at_m at_n = refl
    by (Some one) None at_m at_n = refl
    by (Some one) (Some other) at_m at_n = by_object (same_object (object_of one) (object_of other)) refl
      where
        by_object : (same : Bool) → same_object (object_of one) (object_of other) ≡ same → cond {A = Option (ℤ × ℤ)} same (Some (x, y)) None ≡ None
        by_object true same = absurd (differ (same_region bases m n one other once at_m at_n same))
        by_object false same = refl

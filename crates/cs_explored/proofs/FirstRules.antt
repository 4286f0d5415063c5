-- The first rule for a call: for the contract of `phase_after`.
use Rattle.std.proofs.Common.{◌≡◌, ◌<◌, ◌≤◌, ◌+◌, ℕ, List, Some, length, slice_get, sym, ◌∙◌, subst, arith}
use Rattle.std.proofs.Common.{below_more, refl}
use Rattle.std.proofs.lemmas.Option.{same_Some, slice_get_within}
use Rattle.cs_ast.specs.declared.place.Place.{Place}
use Rattle.cs_events.specs.declared.event.Label.{Label}
use Rattle.cs_events.specs.declared.event.Label.TheVariants.{Truth, Branch, Case, Wrap, Look, Offset, Callee, Alloc}
use Rattle.cs_explored.specs.declared.watch.Rule.{Rule}
use Rattle.cs_explored.specs.Watching.{Call, IsFor, NoneBefore, IsUnruled, IsPhaseAfterLabel}

-- one more rule isn't for the call
pub none_more : (rules : List Rule) (call : Call) (number : ℕ) (rule : Rule) → slice_get rules number ≡ Some rule
    → (IsFor call rule → ⊥) → NoneBefore rules call number → NoneBefore rules call (number + 1)
none_more rules call number rule there unfit none =
    let each : (k : ℕ) → k < number + 1 → (other : Rule) → slice_get rules k ≡ Some other → IsFor call other → ⊥
    = below_more (λ (k : ℕ). (other : Rule) → slice_get rules k ≡ Some other → IsFor call other → ⊥) number
    (λ k before other at fits. none k other before at fits)
    (λ other at fits. unfit (subst (IsFor call) (same_Some other rule (sym at ∙ there)) fits)) in
    λ earlier other before at fits. each earlier before other at fits

-- no rule is for the call
pub unruled : (rules : List Rule) (call : Call) (number : ℕ) → length rules ≤ number → NoneBefore rules call number → IsUnruled rules call
unruled rules call number all none place rule at fits =
    let within = slice_get_within rules place rule at in
    none place rule (omega (arith, all, within)) at fits

-- the label of something other than a call doesn't change the phase
pub other_label : (rules : List Rule) (phase : ℕ) (place : Place) (label : Label) → ((function : ℕ) → label ≡ Callee function → ⊥)
    → IsPhaseAfterLabel rules phase place label phase
other_label rules phase place (Truth truth) none = refl
other_label rules phase place (Branch taken) none = refl
other_label rules phase place (Case number) none = refl
other_label rules phase place (Wrap wrap) none = refl
other_label rules phase place (Look found) none = refl
other_label rules phase place (Offset offset) none = refl
other_label rules phase place (Callee function) none = absurd (none function refl)
other_label rules phase place (Alloc gives) none = refl

-- The phase of a watched protocol after an event.
use Rattle.std.specs.Prelude.{◌≡◌, ◌⊎◌, ◌<◌, ℕ, List, Some, slice_get}
use Rattle.cs_ast.specs.declared.place.Place.{Place}
use Rattle.cs_events.specs.declared.event.Event.{Event}
use Rattle.cs_events.specs.declared.event.Label.{Label}
use Rattle.cs_events.specs.declared.event.Label.TheVariants.{Callee}
use Rattle.cs_explored.specs.declared.watch.Rule.{Rule}

-- a call of a function at a place, in a phase
pub record Call : Type 0 where
  pub function : ℕ
  pub place : Place
  pub phase : ℕ

-- the rule is for this call
pub record IsFor (call : Call) (rule : Rule) : Type 0 where
  pub function_is : rule.function ≡ call.function
  pub place_is : rule.place ≡ call.place
  pub phase_is : rule.from ≡ call.phase

-- none of the rules before this number is for the call
abbrev pub NoneBefore : List Rule → Call → ℕ → Type 0
NoneBefore rules call number = (earlier : ℕ) (rule : Rule) → earlier < number → slice_get rules earlier ≡ Some rule → IsFor call rule → ⊥

-- this rule is the first one for the call
pub record IsFirstFor (rules : List Rule) (call : Call) (rule : Rule) : Type 0 where
  pub number : ℕ
  pub there : slice_get rules number ≡ Some rule
  pub fits : IsFor call rule
  pub first : NoneBefore rules call number

-- no rule is for this call
abbrev pub IsUnruled : List Rule → Call → Type 0
IsUnruled rules call = (number : ℕ) (rule : Rule) → slice_get rules number ≡ Some rule → IsFor call rule → ⊥

-- the phase after a call: that of the first rule for it; if there is none, the phase doesn't change
abbrev pub IsPhaseAfterCall : List Rule → Call → ℕ → Type 0
IsPhaseAfterCall rules call after =
    ((rule : Rule) × IsFirstFor rules call rule × (after ≡ rule.to)) ⊎ (IsUnruled rules call × (after ≡ call.phase))

-- the phase after an event with this label; if it isn't a call, the phase doesn't change
abbrev pub IsPhaseAfterLabel : List Rule → ℕ → Place → Label → ℕ → Type 0
IsPhaseAfterLabel rules phase place (Callee function) after =
    IsPhaseAfterCall rules (record { function = function; place = place; phase = phase }) after
IsPhaseAfterLabel rules phase place other after = after ≡ phase

abbrev pub IsPhaseAfter : List Rule → ℕ → Event → ℕ → Type 0
IsPhaseAfter rules phase event after = IsPhaseAfterLabel rules phase event.place event.label after

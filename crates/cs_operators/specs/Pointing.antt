-- Inspected pointers, and tests.
use Rattle.std.specs.Prelude.{ℕ, ℤ, pos, ◌+ℤ◌, ◌-ℤ◌, ◌*ℤ◌, neg_ℤ, Bool, true, false, not, List, slice_get}
use Rattle.cs_types.specs.declared.data_model.DataModel.{DataModel}
use Rattle.cs_types.specs.DataModel.{offset_bound_of}
use Rattle.cs_ast.specs.declared.place.Place.{Place}
use Rattle.cs_ast.specs.declared.typed.operator.CmpOp.{CmpOp}
use Rattle.cs_terms.specs.declared.term.Lin.{Lin}
use Rattle.cs_terms.specs.Term.{Valuation, value_of}
use Rattle.cs_constraints.specs.Constraints.{Fits}
use Rattle.cs_regions.specs.declared.base.Base.{Base}
use Rattle.cs_store.specs.declared.value.Value.{Value}
use Rattle.cs_events.specs.declared.event.Label.{Label}
use Rattle.cs_events.specs.declared.event.Label.TheVariants as label
use Rattle.cs_events.specs.Objects.{Cell}
use Rattle.cs_events.specs.declared.operation.Operation.TheVariants as operation
use Rattle.cs_events.specs.Acts.{Act, Asks}
use Rattle.cs_meaning.specs.Access.{shows_then, ordered}
use Rattle.cs_meaning.specs.Operators as operators
use Rattle.cs_cfg.specs.Working.{CodeState}
use Rattle.cs_eval.specs.declared.question.Tested.{Tested}
use Rattle.cs_eval.specs.declared.question.Tested.TheVariants.{Not}
use Rattle.cs_eval.specs.Questions.{label_of}
use Rattle.cs_store.specs.declared.value.Value.TheVariants.{Number}
use Rattle.cs_state.specs.declared.state.State.{State}
use Rattle.cs_state.specs.declared.temporary.Temporary.{Temporary}
use Rattle.cs_state.specs.declared.temporary.Temporary.TheVariants.{Scalar}
use Rattle.cs_state.specs.Cells.{cell_of, pointer_to}
use Rattle.cs_progress.specs.declared.pointers.Seen.{Seen}
use Rattle.cs_progress.specs.Seeing.{IsSeen, IsSeenNamed}

-- the cell of a value of the state
abbrev pub cell_in : List Base → State → Value → Valuation → Cell
cell_in bases state value valuation = cell_of bases state.blocks valuation value

-- the pointer to an offset of a base region
abbrev pub cell_at : List Base → ℕ × Lin → Valuation → Cell
cell_at bases found valuation = pointer_to (slice_get bases found.0) (value_of valuation found.1)

-- this is what is seen of the cell under each valuation that fits, and the base region that it points to has a name
pub record Sees (bases : List Base) (state : State) (seen : Seen) (cell : Valuation → Cell) : Type 0 where
  pub named : IsSeenNamed bases seen
  pub seen_is : (valuation : Valuation) → Fits valuation state.constraints → IsSeen bases valuation seen (cell valuation)

-- the values of two terms
abbrev pub both_values : Lin × Lin → Valuation → ℤ × ℤ
both_values terms valuation = (value_of valuation terms.0, value_of valuation terms.1)

-- the label that a test shows: `!` shows the opposite
abbrev pub shows_of : Tested → Bool → Label
shows_of Not holds = label.Truth (not holds)
shows_of tested holds = label_of tested holds

-- whether a value counts as true, which a test shows
abbrev pub test : Place → Tested → Cell → (Bool → Act CodeState) → Act CodeState
test at tested cell onward = operators.truth at cell (λ holds. shows_then at (shows_of tested holds) (onward holds))

-- the offset of a pointer moved by a number of elements of this size, if it stays within its bounds (C11 6.5.6, paragraph 8)
abbrev pub moved_within : DataModel → Place → ℤ → ℤ → ℕ → (ℤ → Act CodeState) → Act CodeState
moved_within model at offset amount size onward =
    ordered at (offset +ℤ pos (offset_bound_of model)) (amount *ℤ pos size)
    (ordered at (pos (offset_bound_of model) -ℤ offset) (neg_ℤ (amount *ℤ pos size)) (Asks at (operation.Sum offset amount size) onward))

-- two inspected pointers are compared for equality
abbrev pub equality : Place → CmpOp → Cell → Cell → (ℤ → Act CodeState) → Act CodeState
equality at operator one other onward = operators.equality at operator (operators.both_null one other) (operators.in_one_object one other) onward

-- the offsets of two inspected pointers, which have to point into the same object
abbrev pub related : Place → Cell → Cell → (ℤ × ℤ → Act CodeState) → Act CodeState
related at one other onward = operators.in_relation at (operators.related one other) (λ first second. onward (first, second))

-- whether an operand is a number
abbrev pub is_number : Temporary → Bool
is_number (Scalar (Number term)) = true
is_number other = false

-- Stores to integer variables, in states with pointers to locals only.
use Rattle.std.specs.Prelude.{◌≡◌, ℕ, pos, Bool, Some, slice_get, Result, OnOk}
use Rattle.cs_types.specs.Shape.{Shape}
use Rattle.cs_ast.specs.declared.place.Place.{Place}
use Rattle.cs_ast.specs.TypedProgram.{TypedProgram}
use Rattle.cs_terms.specs.Term.{Valuation}
use Rattle.cs_events.specs.Objects.{Cell, PointerCell}
use Rattle.cs_events.specs.Acts.{Act}
use Rattle.cs_meaning.specs.Access.{Access, direct, writable, write_operand, store_object}
use Rattle.cs_meaning.specs.Memory.{Memory, changed}
use Rattle.cs_cfg.specs.Working.{CodeState}
use Rattle.cs_regions.specs.declared.base.Base.{Base}
use Rattle.cs_store.specs.declared.value.Value.{Value}
use Rattle.cs_state.specs.declared.state.State.{State}
use Rattle.cs_state.specs.declared.temporary.Temporary.{Temporary}
use Rattle.cs_state.specs.Cells.{object_of, operand_of}
use Rattle.cs_state.specs.Naming.{Naming}
use Rattle.cs_state.specs.Writes.{with_memory}
use Rattle.cs_progress.specs.declared.pause.Pause.{Pause}
use Rattle.cs_progress.specs.declared.progress.Progress.{Progress}
use Rattle.cs_progress.specs.Acting.{CarriesOut}
use Rattle.cs_progress.specs.Locals.{HasLocalsAlone}
use Rattle.cs_progress.specs.Stepping.{WaitsUnchanged}
use Rattle.cs_operators.specs.Pointing.{cell_in}
use Rattle.cs_cells.specs.InMemory.{memory_in}
use Rattle.cs_steps.specs.declared.access.Reached.{Reached}

-- a part of an act that reaches a variable, or a member of one, to which a store is permitted: it yields the pointer to it
abbrev pub reaches_for_store : TypedProgram → Place → Cell → (Cell → Act CodeState) → Act CodeState
reaches_for_store program at cell onward = direct at cell (λ object n. writable program at object (onward (PointerCell object (pos n))))

-- a part of an act that stores a temporary in the object whose place has this value: it yields memory
abbrev pub store_part : TypedProgram → Naming → State → Place → Access → Value → Temporary → Valuation → (Memory → Act CodeState)
    → Act CodeState
store_part program names state at access place stored valuation onward =
    store_object program (memory_in program names state valuation) state.frame.number at access (cell_in names.bases state place valuation)
    (operand_of names.bases state.blocks valuation stored) onward

module _ (program : TypedProgram) (names : Naming) (known : ℕ → Bool) (before after : State) where
  -- a temporary was written to the reached object: memory has it, and nothing else changes
  pub record IsWritten (ty : Shape) (reached : Reached) (stored : Temporary) : Type 0 where
    pub memory : (region : Base) → slice_get names.bases reached.base ≡ Some region → (valuation : Valuation)
        → memory_in program names after valuation
        ≡ changed (write_operand program ty reached.offset (operand_of names.bases before.blocks valuation stored)) (object_of region)
        (memory_in program names before valuation)
    pub rest : after ≡ with_memory after.store after.read before
    pub locals : HasLocalsAlone program names.bases known after

  -- a part of an act that stores is carried out: it yields the memory of the resulting state, and nothing else changes; nothing at all
  -- if it waits
  pub record Stores {T : Type 0} (earlier later : Progress) (answer : Result T Pause) (part : Valuation → (Memory → Act CodeState) → Act CodeState)
      : Type 0 where
    pub act : CarriesOut names.bases before earlier later answer part (λ done valuation. memory_in program names after valuation)
    pub rest : OnOk answer (after ≡ with_memory after.store after.read before)
    pub locals : OnOk answer (HasLocalsAlone program names.bases known after)
    pub unchanged : WaitsUnchanged before after answer

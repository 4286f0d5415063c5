-- Loads from integer variables, in states with pointers to locals only.
use Rattle.std.specs.Prelude.{◌≡◌, Result, OnOk, IfOk}
use Rattle.cs_ast.specs.declared.place.Place.{Place}
use Rattle.cs_ast.specs.TypedProgram.{TypedProgram}
use Rattle.cs_terms.specs.Term.{Valuation}
use Rattle.cs_events.specs.Acts.{Act}
use Rattle.cs_meaning.specs.Access.{Access, direct, read, set_then, load_object}
use Rattle.cs_meaning.specs.Machine.{Operand, Scalar}
use Rattle.cs_meaning.specs.Memory.{Memory}
use Rattle.cs_cfg.specs.Working.{CodeState}
use Rattle.cs_store.specs.declared.value.Value.{Value}
use Rattle.cs_state.specs.declared.state.State.{State}
use Rattle.cs_state.specs.declared.temporary.Temporary.{Temporary}
use Rattle.cs_state.specs.Cells.{operand_of}
use Rattle.cs_state.specs.Naming.{Naming}
use Rattle.cs_progress.specs.declared.pause.Pause.{Pause}
use Rattle.cs_progress.specs.declared.progress.Progress.{Progress}
use Rattle.cs_progress.specs.Acting.{CarriesOut}
use Rattle.cs_progress.specs.Locals.{MayAllBeIn}
use Rattle.cs_progress.specs.Stepping.{WaitsUnchanged}
use Rattle.cs_operators.specs.Pointing.{cell_in}
use Rattle.cs_cells.specs.InMemory.{memory_in}
use Rattle.cs_steps.specs.declared.access.Reached.{Reached}
use Rattle.cs_steps.specs.Reaching.{cell_reached}

-- a part of an act that yields memory and an operand
abbrev pub Part : Type 0
Part = Valuation → (Memory × Operand → Act CodeState) → Act CodeState

module _ (program : TypedProgram) (names : Naming) (state : State) where
  -- a load from the object whose place has this value
  abbrev pub load_part : Access → Value → Part
  load_part access place valuation onward =
      load_object program (memory_in program names state valuation) state.frame.number access (cell_in names.bases state place valuation)
      (λ memory operand. onward (memory, operand))

  -- the scalar of the reached object is read, and was set
  abbrev pub scalar_part : Place → Reached → Part
  scalar_part at reached valuation onward =
      direct at (cell_reached names.bases reached valuation) (λ object offset.
      read program (memory_in program names state valuation) object offset (λ memory cell. set_then at cell (onward (memory, Scalar cell))))

  -- memory as it is, and the loaded operand
  abbrev pub loaded_in : Temporary → Valuation → Memory × Operand
  loaded_in loaded valuation = (memory_in program names state valuation, operand_of names.bases state.blocks valuation loaded)

-- a part of an act that loads is carried out: it yields an operand that may be in the frame, and nothing changes, also if it waits
pub record Loads (program : TypedProgram) (names : Naming) (before after : State) (earlier later : Progress) (answer : Result Temporary Pause)
    (part : Part) : Type 0 where
  pub act : CarriesOut names.bases before earlier later answer part (loaded_in program names before)
  pub inside : IfOk answer (MayAllBeIn before)
  pub same : OnOk answer (after ≡ before)
  pub unchanged : WaitsUnchanged before after answer

-- States with one part changed.
use Rattle.std.specs.Prelude.{◌≡◌, ℕ, Bool, true, false, List, [], drop, Option, None, Some, slice_get}
use Rattle.std.specs.FinMap as finite
use Rattle.cs_pmap.specs.Keys.{key_cmp}
use Rattle.cs_cfg.specs.declared.code.Spot.{Spot}
use Rattle.cs_constraints.specs.Constraints.{Sets}
use Rattle.cs_model.specs.declared.standing.Standing.TheVariants.{Freed}
use Rattle.cs_store.specs.declared.value.Value.{Value}
use Rattle.cs_store.specs.Held.{Regions}
use Rattle.cs_terms.specs.declared.term.Lin.{Lin}
use Rattle.cs_state.specs.declared.asked.Asked.{Asked}
use Rattle.cs_state.specs.declared.block.Block.{Block}
use Rattle.cs_state.specs.declared.frame.Frame.{Frame}
use Rattle.cs_state.specs.declared.state.Counters.{Counters}
use Rattle.cs_state.specs.declared.state.State.{State}
use Rattle.cs_state.specs.declared.temporary.Temporary.{Temporary}
use Rattle.cs_state.specs.Cells.{Blocks, block_of}
use Rattle.cs_state.specs.ReadCells.{ReadMap}
use Rattle.cs_state.specs.Valuations.{Guessed}

abbrev pub with_temporaries : List Temporary → State → State
with_temporaries temporaries state = record state { frame = record state.frame { temporaries = temporaries } }

abbrev pub at_spot : Spot → State → State
at_spot spot state = record state { frame = record state.frame { spot = spot } }

abbrev pub with_visits : List ℕ → State → State
with_visits visits state = record state { frame = record state.frame { visits = visits } }

abbrev pub in_frame : Frame → List Frame → State → State
in_frame frame callers state = record state { frame = frame; callers = callers }

abbrev pub with_answers : List Lin → State → State
with_answers answers state = record state { answers = answers }

abbrev pub with_constraints : Sets → State → State
with_constraints constraints state = record state { constraints = constraints }

abbrev pub with_blocks : Blocks → State → State
with_blocks blocks state = record state { blocks = blocks }

abbrev pub with_memory : Regions → ReadMap → State → State
with_memory store read state = record state { store = store; read = read }

abbrev pub with_read : ReadMap → State → State
with_read read state = record state { read = read }

abbrev pub with_guesses : Guessed → State → State
with_guesses guessed state = record state { asked = guessed }

abbrev pub with_counters : Counters → State → State
with_counters counters state = record state { counters = counters }

abbrev pub with_phase : ℕ → State → State
with_phase phase state = record state { phase = phase }

abbrev pub with_result : Option Value → State → State
with_result result state = record state { result = result }

-- the blocks after one of them was freed
abbrev pub freed_at : Blocks → ℕ → Option Block → Blocks
freed_at blocks base None = blocks
freed_at blocks base (Some block) = finite.insert blocks (base, 0) (record block { standing = Freed })

abbrev pub released : Blocks → ℕ → Blocks
released blocks base = freed_at blocks base (block_of blocks base)

-- the nearest caller continues, or there is none and nothing has changed
abbrev pub IsLeft : Bool → State → State → Type 0
IsLeft true before after = (frame : Frame) × (slice_get before.callers 0 ≡ Some frame) × (after ≡ in_frame frame (drop 1 before.callers) before)
IsLeft false before after = (before.callers ≡ []) × (after ≡ before)

-- a state with the knowledge of another: what memory holds, and what numbers its symbols may have
abbrev pub with_known : State → State → State
with_known other state =
    record state { store = other.store; blocks = other.blocks; read = other.read; constraints = other.constraints }

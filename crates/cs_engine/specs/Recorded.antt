-- What a state records about where its heap blocks were made. Its guesses and its phase are noted too (`NotesEvents` of `cs_exactness`).
use Rattle.std.specs.Prelude.{◌≡◌, ℕ, suc, true, List, Some, slice_get}
use Rattle.cs_ast.specs.TypedProgram.{TypedProgram}
use Rattle.cs_terms.specs.Term.{Valuation}
use Rattle.cs_constraints.specs.Constraints.{Fits}
use Rattle.cs_regions.specs.declared.base.Base.TheVariants.{Heap}
use Rattle.cs_events.specs.declared.event.Event.{Event}
use Rattle.cs_events.specs.declared.event.Label.TheVariants.{Alloc}
use Rattle.cs_events.specs.declared.outcome.RunBudgets.{RunBudgets}
use Rattle.cs_events.specs.Acts.{Act}
use Rattle.cs_events.specs.PendingEvents.{Tries}
use Rattle.cs_events.specs.Runs.{Log}
use Rattle.cs_event_runs.specs.First.{Step}
use Rattle.cs_meaning.specs.Calls.{allocation_path}
use Rattle.cs_cfg.specs.Graph.{Code}
use Rattle.cs_cfg.specs.Working.{CodeState}
use Rattle.cs_state.specs.declared.block.Block.{Block}
use Rattle.cs_state.specs.declared.state.State.{State}
use Rattle.cs_state.specs.Cells.{block_of}
use Rattle.cs_state.specs.Meaning.{setting_of}
use Rattle.cs_state.specs.Naming.{Naming}
use Rattle.cs_successors.specs.EntryRuns.{events_of, HasLeft}

-- among these steps, the event with this number is the allocation with this number, and it returned a block
pub record IsMadeAt (steps : List Step) (event allocation : ℕ) : Type 0 where
  pub passed : ℕ
  pub number : event ≡ suc passed
  pub one : Step
  pub there : slice_get steps passed ≡ Some one
  pub pends : one.pending ≡ Tries one.event.place (allocation_path allocation)
  pub gives : one.event.label ≡ Alloc true

module _ (code : Code) (program : TypedProgram) (entry : ℕ) (budgets : RunBudgets) (names : Naming) where
  -- in the run of each valuation that fits, each heap block of the state was made at the event whose number the block has
  abbrev pub RecordsAllocations : State → List Event → Type 0
  RecordsAllocations state chain = (valuation : Valuation) (steps : List Step) (left : Act CodeState) (log : Log)
      → Fits valuation state.constraints
      → HasLeft code program entry budgets (setting_of names budgets state valuation) steps left log → events_of steps ≡ chain
      → (base allocation : ℕ) (block : Block) → slice_get names.bases base ≡ Some (Heap allocation) → block_of state.blocks base ≡ Some block
      → IsMadeAt steps block.made_by allocation

-- What a state represents: under a valuation, a state of the run of the code, and some answers to the operation in progress.
use Rattle.std.specs.Prelude.{◌≡◌, ℕ, List, ◌∷◌, map, reverse, length}
use Rattle.cs_terms.specs.Term.{Valuation, value_of}
use Rattle.cs_constraints.specs.Constraints.{Fits}
use Rattle.cs_ast.specs.TypedProgram.{TypedProgram}
use Rattle.cs_events.specs.declared.outcome.RunBudgets.{RunBudgets}
use Rattle.cs_events.specs.Acts.{Act}
use Rattle.cs_events.specs.Runs.{Setting, Log}
use Rattle.cs_event_runs.specs.Left.{left_of}
use Rattle.cs_meaning.specs.Machine.{CallFrame}
use Rattle.cs_cfg.specs.Graph.{Point, Code}
use Rattle.cs_cfg.specs.Spots.{point_of}
use Rattle.cs_cfg.specs.Working.{CodeState}
use Rattle.cs_cfg.specs.CodeSteps.{code_step}
use Rattle.cs_state.specs.declared.frame.Frame.{Frame}
use Rattle.cs_state.specs.declared.state.State.{State}
use Rattle.cs_state.specs.Naming.{Naming}
use Rattle.cs_state.specs.Valuations.{input_of, cell_read, guesses_of}
use Rattle.cs_state.specs.Cells.{operand_of}
use Rattle.cs_state.specs.Objects.{owner, memory_of}

module _ (code : Code) (names : Naming) where
  -- a frame of the run of the code, where the newest temporary comes first
  abbrev pub frame_of : State → Valuation → Frame → CallFrame Point
  frame_of state valuation frame = record {
    function = frame.spot.function;
    number = frame.number;
    todo = point_of code frame.spot;
    stack = reverse (map (operand_of names.bases state.blocks valuation) frame.temporaries);
    visits = frame.visits;
  }

  -- the state of the run of the code, as it was before the operation in progress
  abbrev pub meaning : TypedProgram → State → Valuation → CodeState
  meaning program state valuation = record {
    frame = frame_of state valuation state.frame;
    callers = map (frame_of state valuation) state.callers;
    memory = memory_of program names (map owner (state.frame ∷ state.callers)) state.blocks valuation state.store;
    frames = state.counters.frames;
    allocations = state.counters.allocations;
    calls = state.counters.calls;
  }

  -- what remains of that operation after the answers
  abbrev pub left_in : TypedProgram → RunBudgets → State → Valuation → Act CodeState
  left_in program budgets state valuation =
      left_of (cell_read state.model names.syms valuation) (map (value_of valuation) state.answers)
      (code_step code program budgets (meaning program state valuation))

-- the setting of the run of a valuation
abbrev pub setting_of : Naming → RunBudgets → State → Valuation → Setting
setting_of names budgets state valuation = record {
  model = state.model;
  inputs = input_of names.syms valuation;
  guesses = guesses_of valuation state.asked;
  budgets = budgets;
}

-- the state represents a run's position under a valuation that fits: after the events of the log, this act remains
pub record StandsFor (code : Code) (program : TypedProgram) (budgets : RunBudgets) (names : Naming) (state : State) (valuation : Valuation)
    (act : Act CodeState) (log : Log) : Type 0 where
  pub fits : Fits valuation state.constraints
  pub left : act ≡ left_in code names program budgets state valuation
  pub passed : length log.events ≡ state.counters.events

-- A part of what an exploration has to find for the runs of an entry (`Covering`): some state of a row or end represents a run at each of its positions, with
-- the phase that the rules determine for the run's events, and under the run's own numbers of the symbols that it mentions.
use Rattle.std.specs.Prelude.{◌≡◌, ℕ, ℤ, List, [], Some, slice_get}
use Rattle.cs_inputs.specs.declared.path.Path.{Path}
use Rattle.cs_ast.specs.TypedProgram.{TypedProgram}
use Rattle.cs_terms.specs.Term.{Valuation}
use Rattle.cs_events.specs.declared.outcome.Outcome.{Outcome}
use Rattle.cs_events.specs.declared.outcome.RunBudgets.{RunBudgets}
use Rattle.cs_events.specs.Acts.{Act}
use Rattle.cs_events.specs.Runs.{Setting, Log, read_cell}
use Rattle.cs_event_runs.specs.First.{Step}
use Rattle.cs_event_runs.specs.Left.{left_of}
use Rattle.cs_cfg.specs.Graph.{Code}
use Rattle.cs_cfg.specs.Working.{CodeState}
use Rattle.cs_state.specs.Naming.{Naming, naming}
use Rattle.cs_state.specs.Meaning.{StandsFor}
use Rattle.cs_explored.specs.declared.explored.End.{End}
use Rattle.cs_explored.specs.declared.explored.Explored.{Explored}
use Rattle.cs_explored.specs.declared.explored.Row.{Row}
use Rattle.cs_explored.specs.declared.watch.Rule.{Rule}
use Rattle.cs_progress.specs.Stepping.{end_of, result_in, HasReturned}
use Rattle.cs_successors.specs.EntryRuns.{events_of, setting_with, HasLeft, EndsAfter, EndsWith}
use Rattle.cs_coverage.specs.Covering.{HasAllNodes, IsCutAt, PassesNone}
use Rattle.cs_coverage.specs.Agreeing.{AgreesOnMentioned}
use Rattle.cs_coverage.specs.OwnNumbers.{own_valuation}
use Rattle.cs_coverage.specs.Phases.{IsPhaseAlong}

module _ (code : Code) (program : TypedProgram) (entry : ℕ) (budgets : RunBudgets) (names : Naming) where
  -- some row's state represents a run with this remaining act and this log
  pub record HasPosition (rows : List Row) (setting : Setting) (left : Act CodeState) (log : Log) : Type 0 where
    pub number : ℕ
    pub row : Row
    pub there : slice_get rows number ≡ Some row
    pub valuation : Valuation
    pub stands : StandsFor code program budgets names row.state.value valuation (left_of (read_cell setting) [] left) log

  -- some end's state represents a run that passes these steps and ends with this outcome and log, before it ends; and it has the value that the run returns
  pub record HasEnding (ends : List End) (setting : Setting) (steps : List Step) (outcome : Outcome) (log : Log) : Type 0 where
    pub number : ℕ
    pub end : End
    pub there : slice_get ends number ≡ Some end
    pub ended : end.outcome ≡ end_of outcome
    pub last : Act CodeState
    pub before : Log
    pub ends_with : EndsWith code program entry budgets setting steps last before outcome log
    pub valuation : Valuation
    pub stands : StandsFor code program budgets names end.state.value valuation (left_of (read_cell setting) [] last) before
    pub returned : HasReturned outcome (result_in names.bases end.state.value.blocks valuation end.state.value.result)

module _ (code : Code) (program : TypedProgram) (entry : ℕ) (budgets : RunBudgets) where
  -- each run without guesses has such a position at its beginning and after each event, and such an end, unless it has passed an access that was cut
  pub record CoversPositions (explored : Explored) : Type 0 where
    pub positions : HasAllNodes explored.cuts.items → (inputs : Path → ℤ) (steps : List Step) (left : Act CodeState) (log : Log)
        → HasLeft code program entry budgets (setting_with program budgets inputs []) steps left log → PassesNone (IsCutAt explored.cuts.items) steps
        → HasPosition code program entry budgets (naming explored.tables) explored.rows.items (setting_with program budgets inputs []) left log
    pub endings : HasAllNodes explored.cuts.items → (inputs : Path → ℤ) (steps : List Step) (outcome : Outcome) (log : Log)
        → EndsAfter code program entry budgets (setting_with program budgets inputs []) steps outcome log → PassesNone (IsCutAt explored.cuts.items) steps
        → HasEnding code program entry budgets (naming explored.tables) explored.ends.items (setting_with program budgets inputs []) steps outcome log

  -- some row's state represents a run that has passed these steps and has this act left. It has the phase of the events, and represents the run under
  -- the run's own numbers of the symbols that it mentions
  pub record HasOwnRow (rules : List Rule) (names : Naming) (rows : List Row) (setting : Setting) (steps : List Step) (left : Act CodeState) (log : Log)
      : Type 0 where
    pub position : HasPosition code program entry budgets names rows setting left log
    pub phase : IsPhaseAlong rules (events_of steps) position.row.state.value.phase
    pub agrees : AgreesOnMentioned program names.bases position.row.state.value (own_valuation program entry names setting steps log) position.valuation

  -- this holds for some end's state, before the run ends with this outcome
  pub record HasOwnEnd (rules : List Rule) (names : Naming) (ends : List End) (setting : Setting) (steps : List Step) (outcome : Outcome) (log : Log)
      : Type 0 where
    pub ending : HasEnding code program entry budgets names ends setting steps outcome log
    pub phase : IsPhaseAlong rules (events_of steps) ending.end.state.value.phase
    pub agrees : AgreesOnMentioned program names.bases ending.end.state.value (own_valuation program entry names setting steps log) ending.valuation

  -- each run without guesses has such a position at its beginning and after each event, and such an end, under the same conditions
  pub record CoversOwn (rules : List Rule) (explored : Explored) : Type 0 where
    pub positions : HasAllNodes explored.cuts.items → (inputs : Path → ℤ) (steps : List Step) (left : Act CodeState) (log : Log)
        → HasLeft code program entry budgets (setting_with program budgets inputs []) steps left log → PassesNone (IsCutAt explored.cuts.items) steps
        → HasOwnRow rules (naming explored.tables) explored.rows.items (setting_with program budgets inputs []) steps left log
    pub endings : HasAllNodes explored.cuts.items → (inputs : Path → ℤ) (steps : List Step) (outcome : Outcome) (log : Log)
        → EndsAfter code program entry budgets (setting_with program budgets inputs []) steps outcome log → PassesNone (IsCutAt explored.cuts.items) steps
        → HasOwnEnd rules (naming explored.tables) explored.ends.items (setting_with program budgets inputs []) steps outcome log

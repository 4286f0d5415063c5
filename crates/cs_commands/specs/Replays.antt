-- The answer to a replay: the line of the run's outcome.
use Rattle.std.specs.Prelude.{◌≡◌, ℕ, List, [], ◌++◌, Some, None, codes}
use Rattle.cs_ast.specs.TypedProgram.{TypedProgram}
use Rattle.cs_events.specs.declared.outcome.Outcome.{Outcome}
use Rattle.cs_events.specs.declared.outcome.Outcome.TheVariants.{Done, Fault, Over}
use Rattle.cs_events.specs.Runs.{Log}
use Rattle.cs_meaning.specs.ProgramRuns.{RunGives}
use Rattle.cs_report.specs.ReplayLines.{replay_line}
use Rattle.cs_words.specs.declared.command.ReplayWords.{ReplayWords}
use Rattle.cs_entries.specs.Named.{entry_of}
use Rattle.cs_answers.specs.declared.status.Status.{Status}
use Rattle.cs_answers.specs.declared.status.Status.TheVariants.{Clean, Found, NoEntry}

-- `Found` if a run ends in a fault
abbrev pub outcome_status : Outcome → Status
outcome_status (Fault kind place) = Found
outcome_status (Done returned) = Clean
outcome_status (Over budget place) = Clean

-- the text is the line of the outcome that the reference semantics gives the run of the entry with these inputs and without guesses
pub record IsReplayOf (files : List (List ℕ)) (program : TypedProgram) (words : ReplayWords) (entry : ℕ) (status : Status) (text : List ℕ) : Type 0 where
  pub outcome : Outcome
  pub log : Log
  pub ends : RunGives program entry (record { inputs = words.inputs; guesses = [] }) words.budgets outcome log
  pub says : text ≡ replay_line files outcome
  pub yields : status ≡ outcome_status outcome

-- the replay of the entry that the command line names, or the line for a missing entry
abbrev pub IsReplayAnswer : List (List ℕ) → TypedProgram → ReplayWords → Status → List ℕ → Type 0
IsReplayAnswer files program words NoEntry text = (entry_of words.entry program ≡ None) × (text ≡ codes "refused entry " ++ (words.entry ++ codes "\n"))
IsReplayAnswer files program words status text = (entry : ℕ) × (entry_of words.entry program ≡ Some entry)
    × IsReplayOf files program words entry status text

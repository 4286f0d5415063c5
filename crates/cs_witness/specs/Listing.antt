-- The inputs that a run lists: those for the parameters and for the paths that it reads.
use Rattle.std.specs.Prelude.{◌≡◌, ℕ, ℤ, List, map, Contains, ◌⊎◌, ◌↔◌}
use Rattle.std.specs.Map.{keys_of}
use Rattle.cs_inputs.specs.declared.path.Path.{Path}
use Rattle.cs_inputs.specs.Inputs.{IsInOrder, number_at}
use Rattle.cs_ast.specs.TypedProgram.{TypedProgram, typed_program}
use Rattle.cs_events.specs.declared.input.Lookup.{Lookup}
use Rattle.cs_events.specs.declared.outcome.Outcome.{Outcome}
use Rattle.cs_meaning.specs.Machine.{routine_of}
use Rattle.cs_meaning.specs.Steps.{parameters_of, parameter_path}
use Rattle.cs_findings.specs.Runs.{run_of}
use Rattle.cs_findings.specs.GoodFindings.{IsFinding}
use Rattle.cs_witness.specs.declared.entry.Entry.{Entry}
use Rattle.cs_witness.specs.declared.showing.Listed.{Listed}
use Rattle.cs_witness.specs.Entries.{Gives}

-- the path that a lookup reads
abbrev pub path_read : Lookup → Path
path_read lookup = lookup.path

-- inputs agree with other inputs at each path that they list
abbrev pub AgreesWith : List (Path × ℤ) → List (Path × ℤ) → Type 0
AgreesWith given inputs = (path : Path) → Contains (keys_of inputs) path → number_at inputs path ≡ number_at given path

-- paths were added to inputs, each with the number that it has in other inputs
pub record Adds (given : List (Path × ℤ)) (paths : List Path) (old new : List (Path × ℤ)) : Type 0 where
  pub listed : (path : Path) → Contains (keys_of new) path ↔ (Contains (keys_of old) path ⊎ Contains paths path)
  pub agrees : AgreesWith given old → AgreesWith given new
  pub in_order : IsInOrder old → IsInOrder new

-- exactly the parameters of an entry and these paths are listed
abbrev pub AreJust : TypedProgram → ℕ → List Path → List (Path × ℤ) → Type 0
AreJust program entry read inputs = (path : Path)
    → Contains (keys_of inputs) path ↔ (Contains (map parameter_path (parameters_of (routine_of program entry))) path ⊎ Contains read path)

-- inputs that list exactly the parameters of an entry and the paths that were read, with the numbers that other inputs have there
pub record Lists (program : TypedProgram) (entry : ℕ) (given : List (Path × ℤ)) (read : List Lookup) (inputs : List (Path × ℤ)) : Type 0 where
  pub in_order : IsInOrder inputs
  pub listed : AreJust program entry (map path_read read) inputs
  pub agrees : AgreesWith given inputs

-- a run lists exactly what it reads, and its replay has its outcome and log
pub record IsListed (entry : Entry) (one : Listed) : Type 0 where
  pub gives : Gives entry (run_of one.run) one.replayed
  pub in_order : IsInOrder one.run.inputs
  pub listed : AreJust (typed_program entry.program.now) entry.function (map path_read one.replayed.log.read.items) one.run.inputs

-- the same fault, or the same budget that was met at the same position
abbrev pub IsSame : Outcome → Outcome → Type 0
IsSame one other = (one ≡ other) × IsFinding one

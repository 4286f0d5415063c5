-- The exploration of an integer entry as it proceeds: its graph is closed, except for the rows that are open, and its rows and ends have sources, also the
-- row that is refused.
use Rattle.std.specs.Prelude.{◌≡◌, ◌⊎◌, ℕ, Bool, true, false, List, [], ◌∷◌, ◌++◌, Some, length, slice_get, All}
use Rattle.cs_ast.specs.TypedProgram.{TypedProgram, typed_program}
use Rattle.cs_results.specs.declared.result.Cut.TheVariants.{Nodes}
use Rattle.cs_state.specs.Naming.{Naming, naming}
use Rattle.cs_explored.specs.declared.explored.End.{End}
use Rattle.cs_explored.specs.declared.explored.Explored.{Explored}
use Rattle.cs_explored.specs.declared.explored.Row.{Row}
use Rattle.cs_explored.specs.declared.findings.Findings.{Findings}
use Rattle.cs_successors.specs.declared.exploration.Exploration.{Exploration}
use Rattle.cs_successors.specs.Explorations.{code_of, limits_of}
use Rattle.cs_coverage.specs.IntegerEntries.{IsIntegerEntry}
use Rattle.cs_coverage.specs.Closing.{Waits, IsClosed, IsClosedGraph}
use Rattle.cs_coverage.specs.Covering.{HasAllNodes, Covers}
use Rattle.cs_coverage.specs.Positions.{CoversPositions, CoversOwn}
use Rattle.cs_exactness.specs.Distinct.{AreDistinct}
use Rattle.cs_exactness.specs.Exact.{IsExact}
use Rattle.cs_exactness.specs.Noted.{EachNotesEvents}
use Rattle.cs_exactness.specs.OwnRuns.{HasOwnRuns}
use Rattle.cs_exactness.specs.Sources.{AreSourced, IsSourcedGraph, UnderNames}
use Rattle.cs_guesses.specs.Graphs.{IsGuessedGraph}
use Rattle.cs_guesses.specs.Cuts.{IsCutForNodes}

-- the program that is explored
abbrev pub program_of : Exploration → TypedProgram
program_of exploration = typed_program exploration.context.now.setting.now.program.now

-- the exploration lets as many events pass as a run does, and its entry is an integer entry
pub record ExploresIntegers (exploration : Exploration) (entry : ℕ) : Type 0 where
  pub limit : exploration.budgets.events ≡ (limits_of exploration).events
  pub works : IsIntegerEntry (code_of exploration) (program_of exploration) entry

-- the graph is closed, except for the rows that are open in the worklist, unless the budget of nodes was used up
abbrev pub IsOpenGraph : Exploration → ℕ → (List (ℕ × ℕ) → ℕ → Type 0) → Findings → Type 0
IsOpenGraph exploration entry Open findings = HasAllNodes findings.cuts.items
    → IsClosedGraph (code_of exploration) (program_of exploration) entry (limits_of exploration) exploration.rules.now (naming findings.tables) findings.graph
    findings.ends.items Open

-- each row and end has a source
abbrev pub HasSources : Exploration → ℕ → (List (ℕ × ℕ) → ℕ → Type 0) → Findings → Type 0
HasSources exploration entry Open findings = UnderNames (naming findings.tables) (λ names.
    IsSourcedGraph (code_of exploration) (program_of exploration) entry (limits_of exploration) names exploration.rules.now findings.graph findings.ends.items
    Open)

-- the budget of nodes is used up, and one more row, which was refused, has a source too
pub record HasRefused (exploration : Exploration) (entry : ℕ) (given : Naming) (rows : List Row) (ends : List End) (most : ℕ) : Type 0 where
  pub full : length rows ≡ most
  pub refused : Row
  pub sources : UnderNames given (λ names.
      AreSourced (code_of exploration) (program_of exploration) entry (limits_of exploration) names exploration.rules.now (rows ++ refused ∷ []) ends
      (λ number. ⊥))

-- there is no cut, or a row was refused since the budget of nodes was used up, which is the only cut
abbrev pub HasReasons : Exploration → ℕ → Findings → Type 0
HasReasons exploration entry findings = (findings.cuts.items ≡ []) ⊎ ((findings.cuts.items ≡ Nodes findings.nodes ∷ [])
    × HasRefused exploration entry (naming findings.tables) findings.graph.rows findings.ends.items findings.graph.nodes)

-- as soon as there is a row, there is no cut
abbrev pub IsUncut : Findings → Type 0
IsUncut findings = (number : ℕ) (row : Row) → slice_get findings.graph.rows number ≡ Some row → findings.cuts.items ≡ []

-- the invariant of an exploration
pub record IsKept (exploration : Exploration) (entry : ℕ) (Open : List (ℕ × ℕ) → ℕ → Type 0) (findings : Findings) : Type 0 where
  pub closed : IsOpenGraph exploration entry Open findings
  pub sources : HasSources exploration entry Open findings
  pub reasons : HasReasons exploration entry findings
  pub uncut : IsUncut findings

-- the graph is closed, unless the budget of nodes was used up
abbrev pub IsClosedAtLast : Exploration → ℕ → Findings → Type 0
IsClosedAtLast exploration entry findings = HasAllNodes findings.cuts.items
    → IsClosed (code_of exploration) (program_of exploration) entry (limits_of exploration) exploration.rules.now (naming findings.tables)
    findings.graph.rows findings.ends.items (λ number. ⊥)

-- the graph is closed, rows and ends have sources, and each cut has its reason
pub record IsDone (exploration : Exploration) (entry : ℕ) (findings : Findings) : Type 0 where
  pub closed : IsClosedAtLast exploration entry findings
  pub sources : UnderNames (naming findings.tables) (λ names.
      AreSourced (code_of exploration) (program_of exploration) entry (limits_of exploration) names exploration.rules.now findings.graph.rows
      findings.ends.items (λ number. ⊥))
  pub reasons : HasReasons exploration entry findings

-- the exploration continues, or it is done, since a row exceeded the budget of nodes
abbrev pub LeadsOn : Exploration → ℕ → Bool → Findings → Type 0
LeadsOn exploration entry true findings = IsKept exploration entry Waits findings
LeadsOn exploration entry false findings = IsDone exploration entry findings

-- all positions and ends of the entry's runs are found, if it is an integer entry
abbrev pub CoversIntegers : Exploration → ℕ → Explored → Type 0
CoversIntegers exploration entry explored =
    ExploresIntegers exploration entry → CoversPositions (code_of exploration) (program_of exploration) entry (limits_of exploration) explored

-- this holds with the phases that the watched rules determine for the runs' events, and under the runs' own numbers of what rows and ends mention
abbrev pub CoversOwnOnIntegers : Exploration → ℕ → Explored → Type 0
CoversOwnOnIntegers exploration entry explored =
    ExploresIntegers exploration entry
    → CoversOwn (code_of exploration) (program_of exploration) entry (limits_of exploration) exploration.rules.now explored

-- this holds under the runs' own numbers of all symbols on which the live parts of rows and ends depend
abbrev pub CoversLiveOnIntegers : Exploration → ℕ → Explored → Type 0
CoversLiveOnIntegers exploration entry explored =
    ExploresIntegers exploration entry
    → Covers (code_of exploration) (program_of exploration) entry (limits_of exploration) exploration.rules.now explored

-- rows and ends represent exactly the runs of their valuations
abbrev pub IsExactFor : Exploration → ℕ → Explored → Type 0
IsExactFor exploration entry explored =
    IsExact (code_of exploration) (program_of exploration) entry (limits_of exploration) (naming explored.tables) explored.rows.items explored.ends.items

-- they do, no two are alike, and each state has the guesses and the phase of the events that lead to it, if the entry is an integer entry
abbrev pub IsExactOnIntegers : Exploration → ℕ → Explored → Type 0
IsExactOnIntegers exploration entry explored =
    ExploresIntegers exploration entry → IsExactFor exploration entry explored × AreDistinct explored.rows.items explored.ends.items
    × EachNotesEvents exploration.rules.now explored.rows.items explored.ends.items

-- the runs whose events lead to rows and ends fit them under their own numbers, if the entry is an integer entry
abbrev pub HasOwnOnIntegers : Exploration → ℕ → Explored → Type 0
HasOwnOnIntegers exploration entry explored =
    ExploresIntegers exploration entry
    → HasOwnRuns (code_of exploration) (program_of exploration) entry (limits_of exploration) (naming explored.tables) explored.rows.items explored.ends.items

-- each cut was caused by the budget of nodes: one more row was refused, which is as exact as the others, if the entry is an integer entry
abbrev pub HasReasonsOnIntegers : Exploration → ℕ → Explored → Type 0
HasReasonsOnIntegers exploration entry explored =
    ExploresIntegers exploration entry
    → All (IsCutForNodes (code_of exploration) (program_of exploration) entry (limits_of exploration) (naming explored.tables) exploration.rules.now
    explored.rows.items explored.ends.items exploration.budgets.nodes) explored.cuts.items

-- what states note about guesses is true, and the guesses are real, if the entry is an integer entry
abbrev pub HasGuessesOnIntegers : Exploration → ℕ → Explored → Type 0
HasGuessesOnIntegers exploration entry explored =
    ExploresIntegers exploration entry
    → IsGuessedGraph (code_of exploration) (program_of exploration) entry (limits_of exploration) (naming explored.tables) explored.rows.items
    explored.ends.items

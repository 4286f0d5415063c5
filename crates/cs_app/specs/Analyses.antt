-- The answers to analyses: which functions are analyzed, and what is stated about each.
use Rattle.std.specs.Prelude.{◌≡◌, ℕ, is_some, Bool, List, [], ◌∷◌, ◌++◌, map, length, filter, All}
use Rattle.std.specs.Prelude.{Option, None, Some, option_map, codes}
use Rattle.std.specs.List.{range_with_len}
use Rattle.cs_ast.specs.TypedProgram.{TypedProgram}
use Rattle.cs_checker.specs.Kinds.{AreAllKinds}
use Rattle.cs_findings.specs.EveryRun.{MissesNothing}
use Rattle.cs_findings.specs.GoodEntries.{IsGoodEntry}
use Rattle.cs_findings.specs.OutOfNodes.{HasReasons}
use Rattle.cs_meaning.specs.Machine.{routine_of}
use Rattle.cs_model.specs.declared.kind.Kind.{Kind}
use Rattle.cs_report.specs.SummaryLines.{summary_text}
use Rattle.cs_results.specs.Selected.{every_kind}
use Rattle.cs_results.specs.declared.budgets.Budgets.{Budgets}
use Rattle.cs_results.specs.declared.result.EntryResult.{EntryResult}
use Rattle.cs_words.specs.declared.command.AnalyzeWords.{AnalyzeWords}
use Rattle.cs_commands.specs.Results.{IsResultsAnswer, results_status}
use Rattle.cs_entries.specs.Named.{entry_of}
use Rattle.cs_answers.specs.declared.status.Status.{Status}
use Rattle.cs_answers.specs.declared.status.Status.TheVariants.{NoEntry}

-- the budgets of an analysis for which the command line gives none
abbrev pub DEFAULT_BUDGETS : Budgets
DEFAULT_BUDGETS = record { visits = 4; depth = 5; events = 20000; nodes = 150000; splits = 64 }

-- the functions with a body, in order
abbrev pub has_body : TypedProgram → ℕ → Bool
has_body program number = is_some (routine_of program number).body

abbrev pub bodies : TypedProgram → List ℕ
bodies program = filter (has_body program) (range_with_len 0 (length program.routines))

-- the functions that are analyzed: the one with the given name, or without one each that has a body. None if no function with a body has the name
abbrev pub entries_named : Option (List ℕ) → TypedProgram → Option (List ℕ)
entries_named None program = Some (bodies program)
entries_named (Some name) program = option_map (λ (entry : ℕ). entry ∷ []) (entry_of name program)

-- no function with a body has the requested name, and the line states this
abbrev pub LacksEntry : Option (List ℕ) → TypedProgram → List ℕ → Type 0
LacksEntry None program text = ⊥
LacksEntry (Some name) program text = (entry_of name program ≡ None) × (text ≡ codes "refused entry " ++ (name ++ codes "\n"))

-- the answers of an analysis that uses checkers of these kinds
module _ (checked : List Kind) where
  -- one result for each of these functions, in order, and each of them good: what it reports happens. With a checker of each kind, the result of an integer
  -- function misses no run if nothing is cut, and each cut has its reason
  pub record AreGoodResults (program : TypedProgram) (budgets : Budgets) (entries : List ℕ) (results : List EntryResult) : Type 0 where
    pub in_order : map (λ (r : EntryResult). r.entry) results ≡ entries
    pub good : All (IsGoodEntry program budgets) results
    pub complete : AreAllKinds checked → All (MissesNothing program budgets) results
    pub reasons : AreAllKinds checked → All (HasReasons program budgets) results

  -- the analysis of the program's functions
  pub record IsAnalysis (words : AnalyzeWords) (program : TypedProgram) (status : Status) (text : List ℕ) : Type 0 where
    pub entries : List ℕ
    pub named : entries_named words.entry program ≡ Some entries
    pub results : List EntryResult
    pub good : AreGoodResults program words.budgets entries results
    pub answer : IsResultsAnswer words.json program words.kinds results status text

  -- the same, or that no function with a body has the requested name
  abbrev pub IsAnalysisAnswer : AnalyzeWords → TypedProgram → Status → List ℕ → Type 0
  IsAnalysisAnswer words program NoEntry text = LacksEntry words.entry program text
  IsAnalysisAnswer words program status text = IsAnalysis words program status text

  -- the summary of the analysis of a file with this many bytes
  pub record IsSummary (bytes : ℕ) (program : TypedProgram) (status : Status) (text : List ℕ) : Type 0 where
    pub results : List EntryResult
    pub good : AreGoodResults program DEFAULT_BUDGETS (bodies program) results
    pub says : text ≡ summary_text bytes results
    pub yields : status ≡ results_status every_kind results

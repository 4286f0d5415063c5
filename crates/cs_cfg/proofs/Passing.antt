-- Code that is lowered from a program passes the events and reads the paths that the program does: for `lowered_code_passes_alike`.
use Rattle.std.proofs.Common.{◌≡◌, ℕ, zero, suc, ◌<◌, List, [], ◌∷◌, ◌++◌, length, Some, slice_get, inl, inr, refl, sym, ap}
use Rattle.std.proofs.Common.{◌∙◌, subst, arith}
use Rattle.std.specs.Prelude.{Contains}
use Rattle.std.proofs.lemmas.List.{append_assoc}
use Rattle.std.proofs.lemmas.List.Elements.{Contains-append_left}
use Rattle.cs_inputs.specs.declared.path.Path.{Path}
use Rattle.cs_ast.specs.TypedTree.{Statement}
use Rattle.cs_ast.specs.TypedProgram.{TypedProgram}
use Rattle.cs_events.specs.declared.event.Event.{Event}
use Rattle.cs_events.specs.declared.input.Lookup.{Lookup}
use Rattle.cs_events.specs.declared.outcome.Outcome.{Outcome}
use Rattle.cs_events.specs.declared.outcome.RunBudgets.{RunBudgets}
use Rattle.cs_events.specs.Acts.{Act}
use Rattle.cs_events.specs.Runs.{Setting, Log, Ends, ComesTo}
use Rattle.cs_events.specs.Growth.{GoesOn}
use Rattle.cs_events.proofs.RunLaws.{left_after, one_end}
use Rattle.cs_events.proofs.LogGrowth.{stays_so, end_adds}
use Rattle.cs_meaning.specs.Machine.{routine_of}
use Rattle.cs_meaning.specs.Steps.{step}
use Rattle.cs_meaning.specs.ProgramRuns.{ProgramRun, setting_of, RunGives, RunPasses, RunReads}
use Rattle.cs_meaning.proofs.ProgramEndings.{run_ends}
use Rattle.cs_cfg.specs.Graph.{Code}
use Rattle.cs_cfg.specs.CodeSteps.{code_step, CodeComesTo, CodePasses, CodeReads, CodeGives}
use Rattle.cs_cfg.specs.Lowered.{RunsAlike}
use Rattle.cs_cfg.specs.Passing.{RunComesTo, ShowAlike, PassesAlike}

-- a run's log at any step is a beginning of that at its end
comes_before : {State : Type 0} (step : State → Act State) (setting : Setting) {start : State} {log end : Log} {outcome : Outcome}
    → ComesTo step setting start log → Ends step setting start outcome end → GoesOn log end
comes_before step setting (inl way) ends = end_adds step setting (left_after step setting way.1 ends.leads ends.finishes)
comes_before step setting {log = log} (inr ended) ends = subst (GoesOn log) (sym (one_end step setting ended.1 ends).1) (stays_so log)

-- the events that were passed first remain
passed_on : {log end : Log} (events more : List Event) → log.events ≡ events ++ more → GoesOn log end
    → (rest : List Event) × (end.events ≡ events ++ rest)
passed_on events more e on = (more ++ on.events.0, on.events.1 ∙ ap (λ l. l ++ on.events.0) e ∙ append_assoc events more on.events.0)

-- what was read remains read
read_on : {log end : Log} (one : Lookup) → GoesOn log end → Contains log.read one → Contains end.read one
read_on {log = log} one on among = subst (λ l. Contains l one) (sym on.read.1) (Contains-append_left log.read on.read.0 one among)

-- an item keeps its index
kept_at : {A : Type 0} (xs more : List A) (n : ℕ) → n < length xs → slice_get (xs ++ more) n ≡ slice_get xs n
kept_at [] more n l = absurd (omega arith)
kept_at (x ∷ xs) more zero l = refl
kept_at (x ∷ xs) more (suc n) l = kept_at xs more n (omega arith)

-- two beginnings of one list have the same items as far as both reach
agree : {A : Type 0} (xs ys end more rest : List A) → end ≡ xs ++ more → end ≡ ys ++ rest → (n : ℕ) → n < length xs → n < length ys
    → slice_get xs n ≡ slice_get ys n
agree xs ys end more rest e f n l k =
    sym (kept_at xs more n l) ∙ ap (λ list. slice_get list n) (sym e ∙ f) ∙ kept_at ys rest n k

show_alike : {log other end : Log} → GoesOn log end → GoesOn other end → ShowAlike log other
show_alike {log = log} {other = other} {end = end} one two = record {
  events = agree log.events other.events end.events one.events.0 two.events.0 one.events.1 two.events.1;
  pending = agree log.pending other.pending end.pending one.pending.0 two.pending.0 one.pending.1 two.pending.1;
}

module _ (code : Code) (program : TypedProgram) (alike : RunsAlike code program) where
  -- both runs end with one log
  record BothEnd (entry : ℕ) (run : ProgramRun) (budgets : RunBudgets) : Type 0 where
    outcome : Outcome
    end : Log
    gives : RunGives program entry run budgets outcome end
    code_gives : CodeGives code program entry run budgets outcome end

  both_end : (entry : ℕ) (body : Statement) (run : ProgramRun) (budgets : RunBudgets) → (routine_of program entry).body ≡ Some body
      → BothEnd entry run budgets
  both_end entry body run budgets e =
      let it = run_ends program entry run budgets in
      record { outcome = it.0; end = it.1; gives = it.2; code_gives = alike.ends entry body run budgets it.0 it.1 e it.2 }

  before_end : {entry : ℕ} {run : ProgramRun} {budgets : RunBudgets} {log : Log} (both : BothEnd entry run budgets)
      → RunComesTo program entry run budgets log → GoesOn log both.end
  before_end {run = run} {budgets = budgets} both comes = comes_before (step program budgets) (setting_of program run budgets) comes both.gives

  before_code_end : {entry : ℕ} {run : ProgramRun} {budgets : RunBudgets} {log : Log} (both : BothEnd entry run budgets)
      → CodeComesTo code program entry run budgets log → GoesOn log both.end
  before_code_end {run = run} {budgets = budgets} both comes =
      comes_before (code_step code program budgets) (setting_of program run budgets) comes both.code_gives

  passes : (entry : ℕ) (body : Statement) (run : ProgramRun) (budgets : RunBudgets) (events : List Event) → (routine_of program entry).body ≡ Some body
      → RunPasses program entry run budgets events → CodePasses code program entry run budgets events
  passes entry body run budgets events e passed =
      let both = both_end entry body run budgets e in
      let rest = passed_on events passed.1 passed.3 (before_end both passed.2) in
      (both.end, rest.0, inr (both.outcome, both.code_gives), rest.1)

  passes_only : (entry : ℕ) (body : Statement) (run : ProgramRun) (budgets : RunBudgets) (events : List Event)
      → (routine_of program entry).body ≡ Some body → CodePasses code program entry run budgets events → RunPasses program entry run budgets events
  passes_only entry body run budgets events e passed =
      let both = both_end entry body run budgets e in
      let rest = passed_on events passed.1 passed.3 (before_code_end both passed.2) in
      (both.end, rest.0, inr (both.outcome, both.gives), rest.1)

  reads : (entry : ℕ) (body : Statement) (run : ProgramRun) (budgets : RunBudgets) (path : Path) → (routine_of program entry).body ≡ Some body
      → RunReads program entry run budgets path → CodeReads code program entry run budgets path
  reads entry body run budgets path e read =
      let both = both_end entry body run budgets e in
      (both.end, read.1, inr (both.outcome, both.code_gives), read_on _ (before_end both read.2) read.3)

  reads_only : (entry : ℕ) (body : Statement) (run : ProgramRun) (budgets : RunBudgets) (path : Path) → (routine_of program entry).body ≡ Some body
      → CodeReads code program entry run budgets path → RunReads program entry run budgets path
  reads_only entry body run budgets path e read =
      let both = both_end entry body run budgets e in
      (both.end, read.1, inr (both.outcome, both.gives), read_on _ (before_code_end both read.2) read.3)

  keeps : (entry : ℕ) (body : Statement) (run : ProgramRun) (budgets : RunBudgets) (log other : Log) → (routine_of program entry).body ≡ Some body
      → RunComesTo program entry run budgets log → CodeComesTo code program entry run budgets other → ShowAlike log other
  keeps entry body run budgets log other e one two =
      let both = both_end entry body run budgets e in
      show_alike (before_end both one) (before_code_end both two)

  pub passes_alike : PassesAlike code program
  passes_alike = record { passes = passes; passes_only = passes_only; reads = reads; reads_only = reads_only; keeps = keeps }

-- The paths that a run reads are those of its log at the end.
use Rattle.std.proofs.Common.{◌≡◌, ℕ, ◌<◌, List, [], ◌++◌, map, length, get_or, inl, inr, sym, ap, ◌∙◌, subst, arith}
use Rattle.std.specs.Prelude.{Contains, ◌↔◌}
use Rattle.std.proofs.lemmas.List.{get_or-map, length-map, append-nil}
use Rattle.std.proofs.lemmas.List.Elements.{Contains-get_or, Contains-append_left}
use Rattle.cs_inputs.specs.declared.path.Path.{Path}
use Rattle.cs_ast.specs.TypedProgram.{TypedProgram}
use Rattle.cs_events.specs.declared.input.InputKind.TheVariants.{Nothing}
use Rattle.cs_events.specs.declared.input.Lookup.{Lookup}
use Rattle.cs_events.specs.declared.outcome.Outcome.{Outcome}
use Rattle.cs_events.specs.declared.outcome.RunBudgets.{RunBudgets}
use Rattle.cs_events.specs.Runs.{Log, ComesTo}
use Rattle.cs_events.proofs.LogGrowth.{end_adds}
use Rattle.cs_events.proofs.RunLaws.{left_after, one_end}
use Rattle.cs_meaning.specs.Steps.{step}
use Rattle.cs_meaning.specs.ProgramRuns.{ProgramRun, setting_of, start_of, RunGives, RunReads}
use Rattle.cs_witness.specs.Listing.{path_read}

-- the image of a list contains exactly the images of its items
pub mapped : {A B : Type 0} (f : A → B) (xs : List A) (x : A) → Contains xs x → Contains (map f xs) (f x)
mapped f xs x here = (
  here.0,
  let n = length-map xs f in let before = here.1 in omega arith,
  get_or-map f xs here.0 x (f x) here.1 ∙ ap f here.2,
)

pub from_mapped : {A B : Type 0} (f : A → B) (xs : List A) (d : A) (y : B) → Contains (map f xs) y → (x : A) × Contains xs x × (f x ≡ y)
from_mapped f xs d y here =
    let n = length-map xs f in
    let before = here.1 in
    let within : here.0 < length xs = omega arith in
    (get_or xs here.0 d, Contains-get_or xs here.0 d within, sym (get_or-map f xs here.0 d y within) ∙ here.2)

module _ (program : TypedProgram) (entry : ℕ) (budgets : RunBudgets) (run : ProgramRun) (outcome : Outcome) (end : Log)
    (ended : RunGives program entry run budgets outcome end) where
  -- what was read before was read at the end
  read_first : (log : Log) → ComesTo (step program budgets) (setting_of program run budgets) (start_of program entry run) log
      → (more : List Lookup) × (end.read ≡ log.read ++ more)
  read_first log (inl way) =
      (end_adds (step program budgets) (setting_of program run budgets)
      (left_after (step program budgets) (setting_of program run budgets) way.1 ended.leads ended.finishes)).read
  read_first log (inr other) =
      let same : log ≡ end = (one_end (step program budgets) (setting_of program run budgets) ended other.1).1 in
      ([], sym (ap (λ (l : Log). l.read) same) ∙ sym (append-nil log.read))

  pub reads_end : (path : Path) → RunReads program entry run budgets path ↔ Contains (map path_read end.read) path
  reads_end path = (forth, back)
    where
      forth : RunReads program entry run budgets path → Contains (map path_read end.read) path
      forth (log, kind, comes, has) =
          let lookup : Lookup = record { path = path; kind = kind } in
          let first = read_first log comes in
          let there : Contains end.read lookup = subst (λ l. Contains l lookup) (sym first.1) (Contains-append_left log.read first.0 lookup has) in
          mapped path_read end.read lookup there

      back : Contains (map path_read end.read) path → RunReads program entry run budgets path
      back here =
          let found = from_mapped path_read end.read (record { path = path; kind = Nothing }) path here in
          let lookup = found.0 in
          let same : lookup ≡ record { path = path; kind = lookup.kind } = λ i. record { path = found.2 i; kind = lookup.kind } in
          (end, lookup.kind, inr (outcome, ended), subst (Contains end.read) same found.1)

-- A run that lists exactly what it reads, and its findings. For the contracts of `showing`.
use Rattle.std.proofs.Common.{◌≡◌, ℤ, List, [], map, inl, inr, ◌⊎◌, refl, sym, ◌∙◌, subst}
use Rattle.std.specs.Prelude.{◌≤◌, All, Contains, ◌↔◌, length, Vec, Result, Ok, Err, Option, Some, None, IfOk, IfSome}
use Rattle.std.specs.declared.alloc.Global.{Global}
use Rattle.std.specs.List.Sorted.{IsStrictlySortedBy}
use Rattle.std.proofs.lemmas.List.Elements.{All-nil}
use Rattle.std.specs.Map.{keys_of}
use Rattle.cs_inputs.specs.declared.path.Path.{Path}
use Rattle.cs_ast.specs.TypedProgram.{typed_program}
use Rattle.cs_events.specs.declared.guess.Guess.{Guess}
use Rattle.cs_events.specs.declared.outcome.Outcome.{Outcome}
use Rattle.cs_events.proofs.RunLaws.{one_end}
use Rattle.cs_meaning.specs.Machine.{routine_of}
use Rattle.cs_meaning.specs.ProgramRuns.{RunReads, setting_of}
use Rattle.cs_meaning.specs.Steps.{step, parameters_of, parameter_path}
use Rattle.cs_run_log.specs.LogView.{log_of}
use Rattle.cs_replay.specs.declared.replays.Replayed.{Replayed}
use Rattle.cs_results.specs.declared.finding.Finding.{Finding}
use Rattle.cs_results.specs.declared.finding.Ground.{Ground}
use Rattle.cs_findings.specs.Runs.{run_of, run_budgets}
use Rattle.cs_findings.specs.GoodFindings.{Ascend, IsEach, IsGroundOf, IsShown, IsFinding, EndsElsewhere}
use Rattle.cs_witness.specs.declared.entry.Entry.{Entry}
use Rattle.cs_witness.specs.declared.showing.Listed.{Listed}
use Rattle.cs_witness.specs.Entries.{Gives}
use Rattle.cs_witness.specs.Listing.{Lists, IsListed}
use Rattle.cs_witness.proofs.PathsRead.{reads_end}
use Rattle.cs_witness.proofs.SameRuns.{same_run}

-- the run on the listed inputs is the one on the given inputs
pub listed_gives : (entry : Entry) (given inputs : List (Path × ℤ)) (guesses : List Guess) (replayed : Replayed)
    → Gives entry (record { inputs = given; guesses = guesses }) replayed
    → Lists (typed_program entry.program.now) entry.function given replayed.log.read.items inputs
    → Gives entry (record { inputs = inputs; guesses = guesses }) replayed
listed_gives entry given inputs guesses replayed gives lists =
    same_run (typed_program entry.program.now) given inputs entry.function guesses (run_budgets entry.budgets) replayed.outcome (log_of replayed.log) gives
    (λ path here. sym (lists.agrees path ((lists.listed path).1 here)))

-- the paths that the finding's run reads
paths_read : (entry : Entry) (one : Listed) → IsListed entry one → (path : Path)
    → Contains (keys_of one.run.inputs) path
    ↔ (Contains (map parameter_path (parameters_of (routine_of (typed_program entry.program.now) entry.function))) path
    ⊎ RunReads (typed_program entry.program.now) entry.function (run_of one.run) (run_budgets entry.budgets) path)
paths_read entry one is path =
    let reads = reads_end (typed_program entry.program.now) entry.function (run_budgets entry.budgets) (run_of one.run) one.replayed.outcome
    (log_of one.replayed.log) is.gives path in
    (λ here. forth reads.1 ((is.listed path).0 here), λ either. (is.listed path).1 (forth reads.0 either))
  where
    forth : {A B C : Type 0} → (B → C) → (A ⊎ B) → A ⊎ C
    forth f (inl a) = inl a
    forth f (inr b) = inr (f b)

-- a finding of a listed run
pub shows : (entry : Entry) (one : Listed) (finding : Finding) → IsListed entry one → finding.what ≡ one.replayed.outcome
    → finding.run ≡ one.run → finding.events ≡ one.replayed.log.events
    → Ascend one.run.guesses.items → All (λ g. g.event ≤ length one.replayed.log.events.items) one.run.guesses.items
    → IsEach (IsGroundOf (typed_program entry.program.now) entry.function (run_budgets entry.budgets) (run_of one.run)) one.run.guesses.items
    finding.grounds.items
    → IsShown (typed_program entry.program.now) entry.function (run_budgets entry.budgets) finding
shows entry one finding is what run events ascending passed each =
    let same : finding ≡ record { what = one.replayed.outcome; run = one.run; grounds = finding.grounds; events = one.replayed.log.events } =
    λ i. record { what = what i; run = run i; grounds = finding.grounds; events = events i } in
    subst (IsShown (typed_program entry.program.now) entry.function (run_budgets entry.budgets)) (sym same) (record {
      ends = (log_of one.replayed.log, is.gives, refl);
      in_order = is.in_order;
      paths = paths_read entry one is;
      ascending = ascending;
      passed = passed;
      grounds = each;
    })

-- a run that ends in one outcome doesn't end in another
pub ends_elsewhere : (entry : Entry) (inputs : List (Path × ℤ)) (replayed : Replayed) (what : Outcome)
    → Gives entry (record { inputs = inputs; guesses = [] }) replayed → (replayed.outcome ≡ what → ⊥)
    → EndsElsewhere (typed_program entry.program.now) entry.function (run_budgets entry.budgets) what inputs
ends_elsewhere entry inputs replayed what gives other log ended =
    let program = typed_program entry.program.now in
    let budgets = run_budgets entry.budgets in
    other (sym (one_end (step program budgets) (setting_of program (record { inputs = inputs; guesses = [] }) budgets) gives ended).0)

-- a finding of a listed run that guesses nothing
pub shows_plain : (entry : Entry) (one : Listed) (what : Outcome) (grounds : Vec Ground Global) → IsListed entry one → one.run.guesses.items ≡ []
    → one.replayed.outcome ≡ what → grounds.items ≡ []
    → IsShown (typed_program entry.program.now) entry.function (run_budgets entry.budgets)
    (record { what = what; run = one.run; grounds = grounds; events = one.replayed.log.events })
unfolding IsStrictlySortedBy
shows_plain entry one what grounds is none ends empty =
    let Related : List Guess → List Ground → Type 0 =
    IsEach (IsGroundOf (typed_program entry.program.now) entry.function (run_budgets entry.budgets) (run_of one.run)) in
    shows entry one (record { what = what; run = one.run; grounds = grounds; events = one.replayed.log.events }) is (sym ends) refl refl
    (subst Ascend (sym none) tt)
    (subst (All (λ (g : Guess). g.event ≤ length one.replayed.log.events.items)) (sym none) (All-nil _))
    (subst (λ gs. Related gs grounds.items) (sym none) (subst (Related []) (sym empty) tt))

-- a finding with the outcome of a run has the suspected outcome, if these are equal
pub so_too : {E : Type 0} (r : Result (Option Finding) E) (outcome what : Outcome) → IfOk r (λ found. IfSome found (λ f. f.what ≡ outcome))
    → (IsFinding what → outcome ≡ what) → IfOk r (λ found. IfSome found (λ f. IsFinding what → f.what ≡ what))
so_too (Err e) outcome what h so = tt
so_too (Ok None) outcome what h so = tt
so_too (Ok (Some finding)) outcome what h so = λ form. h ∙ so form

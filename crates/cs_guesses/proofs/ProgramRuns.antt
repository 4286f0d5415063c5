-- Runs of lowered code are runs of its program, and the run of a valuation has the numbers of the valuation: for `HasRealGuesses`.
use Rattle.std.proofs.Common.{◌≡◌, inl, inr, ℕ, zero, suc, ℤ, pos, Bool, cond, List, [], ◌∷◌, map, length, Option}
use Rattle.std.proofs.Common.{Some, refl, sym, ap, ◌∙◌, subst, arith}
use Rattle.std.specs.Prelude.{is_some, unwrap_or, if◌then◌else◌, Contains}
use Rattle.std.specs.Map.{lookup}
use Rattle.std.specs.BTreeMap.{is_at}
use Rattle.std.specs.Ordering.{is_eq}
use Rattle.std.specs.declared.cmp.Ordering.{Ordering}
use Rattle.std.specs.declared.cmp.Ordering.TheVariants.{Less, Equal, Greater}
use Rattle.std.proofs.lemmas.Bool.Decides.{eqb_tells}
use Rattle.std.proofs.lemmas.List.{length-map}
use Rattle.cs_inputs.specs.declared.path.Path.{Path}
use Rattle.cs_inputs.specs.Inputs.{number_at}
use Rattle.cs_inputs.specs.PathOrder.{path_order}
use Rattle.cs_ast.specs.TypedProgram.{TypedProgram}
use Rattle.cs_terms.specs.declared.symbol.SymName.{SymName}
use Rattle.cs_terms.specs.declared.symbol.SymName.TheVariants.{Input, Guess as GuessAt}
use Rattle.cs_terms.specs.Term.{Valuation}
use Rattle.cs_events.specs.declared.event.Event.{Event}
use Rattle.cs_events.specs.declared.outcome.RunBudgets.{RunBudgets}
use Rattle.cs_events.specs.Acts.{Act}
use Rattle.cs_events.specs.Objects.{is_equal}
use Rattle.cs_events.specs.PendingEvents.{Pending}
use Rattle.cs_events.specs.Runs.{Setting, Log, empty, guess_at}
use Rattle.cs_event_runs.specs.First.{Step, first_of}
use Rattle.cs_event_runs.specs.ByEvents.{ShowsAfter, now, later, unseen}
use Rattle.cs_event_runs.proofs.Pendings.{shown_is_pending}
use Rattle.cs_meaning.specs.ProgramRuns.{ProgramRun, setting_of}
use Rattle.cs_cfg.specs.Graph.{Code}
use Rattle.cs_cfg.specs.CodeSteps.{code_step, code_start, CodeIsPending, CodePasses}
use Rattle.cs_cfg.specs.Working.{CodeState}
use Rattle.cs_cfg.proofs.Passing.{passes_alike}
use Rattle.cs_state.specs.declared.asked.Asked.{Asked}
use Rattle.cs_state.specs.Valuations.{input_of, guess_of}
use Rattle.cs_findings.specs.RealGuesses.{Comes}
use Rattle.cs_findings.proofs.Passing.{shown_passes}
use Rattle.cs_successors.specs.EntryRuns.{start_of, first_in, PassesTo}
use Rattle.cs_guesses.specs.Real.{inputs_of, IsLoweredEntry}

module _ (code : Code) (program : TypedProgram) (entry : ℕ) (budgets : RunBudgets) where
  abbrev step : CodeState → Act CodeState
  step = code_step code program budgets

  -- what a run shows, it shows after its silent beginning
  pub after_start : (setting : Setting) {steps : List Step} {one : Step} → ShowsAfter step setting (first_in code program entry budgets setting) steps one
      → ShowsAfter step setting (first_of setting empty (step (start_of code program entry budgets setting))) steps one
  after_start setting (now e) = cc
  after_start setting (later e rest) = cc
  after_start setting (unseen {next = next} {log = before} {steps = steps} {one = one} e rest) =
      let nexts : next ≡ start_of code program entry budgets setting = cc in
      let logs : before ≡ empty = cc in
      subst (λ (m : CodeState). ShowsAfter step setting (first_of setting empty (step m)) steps one) nexts
      (subst (λ (l : Log). ShowsAfter step setting (first_of setting l (step next)) steps one) logs rest)

  module _ (lowered : IsLoweredEntry code program entry) where
    -- what is pending in a run of the code is pending in the run of the program, after the same events
    pub runs_too : (run : ProgramRun) (events : List Event) (pending : Pending)
        → PassesTo code program entry budgets (setting_of program run budgets) events pending → Comes program entry budgets run events pending
    runs_too run events pending there =
        let setting : Setting = setting_of program run budgets in
        let start : CodeState = code_start code program entry run in
        let shows = after_start setting there.shows in
        let count : length there.steps ≡ length events = sym (length-map there.steps (λ (one : Step). one.event)) ∙ ap length there.passes in
        let pends : CodeIsPending code program entry run budgets (suc (length events)) pending
        = subst (λ (n : ℕ). CodeIsPending code program entry run budgets (suc n) pending) count
        (subst (CodeIsPending code program entry run budgets (suc (length there.steps))) there.pends (shown_is_pending step setting start shows)) in
        let passes : CodePasses code program entry run budgets events
        = subst (CodePasses code program entry run budgets) there.passes (shown_passes step setting start shows) in
        record {
          passes = (passes_alike code program lowered.lowered.runs).passes_only entry lowered.body run budgets events lowered.has_body passes;
          pends = lowered.lowered.runs.pends_only entry lowered.body run budgets (suc (length events)) pending lowered.has_body pends;
        }

-- the inputs of a valuation's run are the numbers of the valuation
by_order : (order : Ordering) (here : ℤ) (rest : Option ℤ) (other : ℤ) → unwrap_or rest (pos 0) ≡ other
    → unwrap_or (cond (is_eq order) (Some here) rest) (pos 0) ≡ (if is_equal order then here else other)
by_order Less here rest other same = same
by_order Equal here rest other same = refl
by_order Greater here rest other same = same

same_input : (names : List SymName) (v : Valuation) (path : Path) → number_at (inputs_of names v) path ≡ input_of names v path
same_input [] v path = refl
same_input (Input other ∷ names) v path =
    by_order (path_order path other) (v 0) (lookup (is_at (path_order path)) (inputs_of names (λ symbol. v (suc symbol))))
    (input_of names (λ symbol. v (suc symbol)) path) (same_input names (λ symbol. v (suc symbol)) path)
same_input (GuessAt event ∷ names) v path = same_input names (λ symbol. v (suc symbol)) path

pub same_inputs : (names : List SymName) (v : Valuation) → number_at (inputs_of names v) ≡ input_of names v
same_inputs names v = λ i path. same_input names v path i

-- the events of the listed guesses don't depend on the valuation
pub listed_alike : (v w : Valuation) (at : ℕ) (asked : List Asked)
    → is_some (guess_at (map (guess_of w) asked) at) ≡ is_some (guess_at (map (guess_of v) asked) at)
listed_alike v w at [] = refl
listed_alike v w at (one ∷ asked) = elim (eqb_tells one.event at) [
  | inl same ↦
      ap (λ (b : Bool). is_some (if b then Some (w one.guess.0) else guess_at (map (guess_of w) asked) at)) same.0
      ∙ sym (ap (λ (b : Bool). is_some (if b then Some (v one.guess.0) else guess_at (map (guess_of v) asked) at)) same.0)
  | inr apart ↦
      ap (λ (b : Bool). is_some (if b then Some (w one.guess.0) else guess_at (map (guess_of w) asked) at)) apart.0 ∙ listed_alike v w at asked
      ∙ sym (ap (λ (b : Bool). is_some (if b then Some (v one.guess.0) else guess_at (map (guess_of v) asked) at)) apart.0)
]

-- each element of a list's image is the image of an element
pub from_mapped : {A B : Type 0} (f : A → B) (xs : List A) (y : B) → Contains (map f xs) y → (x : A) × Contains xs x × (f x ≡ y)
from_mapped f [] y (k, within, at) = absurd (omega (arith, within))
from_mapped f (x ∷ xs) y (zero, within, at) = (x, (zero, omega arith, refl), at)
from_mapped f (x ∷ xs) y (suc k, within, at) =
    let found = from_mapped f xs y (k, omega (arith, within), at) in
    (found.0, (suc found.1.0, let before = found.1.1 in omega (arith, before), found.1.2), found.2)

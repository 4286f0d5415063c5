-- What an operation waits for is what its state waits for, and how the state changes then: for the contracts of steps.
use Rattle.std.proofs.Common.{◌≡◌, List, [], Result, Ok, Err, refl, sym, subst}
use Rattle.cs_types.specs.declared.data_model.DataModel.{DataModel}
use Rattle.cs_ast.specs.TypedProgram.{TypedProgram}
use Rattle.cs_inputs.specs.declared.path.Path.{Path}
use Rattle.cs_terms.specs.Term.{Valuation}
use Rattle.cs_constraints.specs.Constraints.{Fits}
use Rattle.cs_events.specs.declared.input.InputKind.{InputKind}
use Rattle.cs_events.specs.declared.outcome.Outcome.{Outcome}
use Rattle.cs_events.specs.declared.outcome.Outcome.TheVariants.{Done, Fault, Over}
use Rattle.cs_events.specs.declared.outcome.RunBudgets.{RunBudgets}
use Rattle.cs_events.specs.Objects.{Cell, UnsetCell}
use Rattle.cs_events.specs.Acts.{Act, Stops}
use Rattle.cs_cfg.specs.Graph.{Code}
use Rattle.cs_cfg.specs.Working.{CodeState}
use Rattle.cs_regions.specs.declared.base.Base.{Base}
use Rattle.cs_state.specs.declared.state.State.{State}
use Rattle.cs_state.specs.Naming.{Naming}
use Rattle.cs_state.specs.Writes.{with_answers}
use Rattle.cs_progress.specs.declared.next.Next.{Next}
use Rattle.cs_progress.specs.declared.next.Next.TheVariants as next
use Rattle.cs_progress.specs.Acting.{IsCutShort, BeginsWith}
use Rattle.cs_progress.specs.declared.pause.Pause.{Pause}
use Rattle.cs_progress.specs.declared.pause.Pause.TheVariants as pause
use Rattle.cs_progress.specs.declared.progress.Progress.{Progress}
use Rattle.cs_progress.specs.Locals.{HasLocalsAlone}
use Rattle.cs_progress.specs.Stepping.{EndsAs, BeginsIn, UsesAnswers, IsDone, Waits, Steps, StepsInLocals}
use Rattle.cs_spots.specs.AtSpots.{TakesStep, StepsAtSpot}

module _ (code : Code) (bases : List Base) (state : State) (v : Valuation) where
  ends_short : (outcome : Outcome) (act : Act CodeState) → IsCutShort outcome → act ≡ Stops outcome → EndsAs bases state v outcome act
  ends_short (Done value) act short stops = absurd short
  ends_short (Fault kind at) act short stops = record { last = Fault kind at; stops = stops; same = refl; has_returned = tt }
  ends_short (Over budget at) act short stops = record { last = Over budget at; stops = stops; same = refl; has_returned = tt }

  pub begins_in : (first : Next) (act : Act CodeState) → BeginsWith bases state v first act → BeginsIn code bases state v first act
  begins_in next.Done act begins = begins
  begins_in (next.Asks at question) act begins = begins
  begins_in (next.Selects at term) act begins = absurd begins
  begins_in (next.Reaches at base offset) act begins = begins
  begins_in (next.Checks at checked) act begins = begins
  begins_in (next.Ends outcome) act begins = ends_short outcome act begins.0 begins.1

-- what is waited for comes first: the operation isn't done
pub waits_first : (code : Code) (names : Naming) (program : TypedProgram) (budgets : RunBudgets) (before after : State) (first : Next) (v : Valuation)
    → Fits v before.constraints → ((cells : Path → InputKind → Cell) → UsesAnswers code names program budgets cells before v)
    → Waits code names program budgets before after first → Steps code names program budgets before after first
waits_first code names program budgets before after next.Done v fits uses waits =
    let none : Path → InputKind → Cell = λ path kind. UnsetCell in
    absurd (waits.begins none v fits (uses none))
waits_first code names program budgets before after (next.Asks at question) v fits uses waits = waits
waits_first code names program budgets before after (next.Selects at term) v fits uses waits = waits
waits_first code names program budgets before after (next.Reaches at base offset) v fits uses waits = waits
waits_first code names program budgets before after (next.Checks at checked) v fits uses waits = waits
waits_first code names program budgets before after (next.Ends outcome) v fits uses waits = waits

-- the successor of a state whose pointers only point to locals, by the step at its spot
module _ (code : Code) (model : DataModel) (budgets : RunBudgets) (given : Naming) (before after : State) (earlier later : Progress)
    (fresh : earlier.used ≡ 0) where
  pub done_steps : {T : Type 0} (final : State) (done : T) → final ≡ with_answers [] after
      → StepsAtSpot code model budgets given before after earlier later (Ok done) → StepsInLocals code model budgets given before final next.Done
  done_steps final done is steps = record {
    steps = λ names program known of_model extends numbered have integer some uses.
        subst (λ (s : State). IsDone code names program budgets before s × HasLocalsAlone program names.bases known s) (sym is)
        (steps names program known of_model extends numbered have integer fresh).done;
  }

  pub waiting_steps : {T : Type 0} (answer : Result T Pause) (first : Next) → answer ≡ Err pause.Waits → first ≡ later.first
      → StepsAtSpot code model budgets given before after earlier later answer → StepsInLocals code model budgets given before after first
  waiting_steps {T} answer first waits is steps = record {
    steps = λ names program known of_model extends numbered have integer some uses.
        let taken = steps names program known of_model extends numbered have integer fresh in
        let comes = (subst (λ (r : Result T Pause). TakesStep code names program budgets known before after later r) waits taken).waits refl in
        subst (λ (first : Next). Steps code names program budgets before after first × HasLocalsAlone program names.bases known after) (sym is)
        (waits_first code names program budgets before after later.first some.0 some.1 (λ cells. uses cells some.0 some.1) comes.0, comes.1);
  }

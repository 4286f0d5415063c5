-- A branch is a test that touches its control point before its event: for the contract of `branch`.
use Rattle.std.proofs.Common.{◌≡◌, ℕ, ◌+◌, ◌≤◌, ℤ, Bool, true, false, if◌then◌else◌, length, subst, List, [], ◌∷◌, Option, Some}
use Rattle.std.proofs.Common.{None, sym, ap, ◌∙◌}
use Rattle.std.proofs.lemmas.List.Elements.{All-weaker}
use Rattle.cs_inputs.specs.declared.path.Path.{Path}
use Rattle.cs_ast.specs.declared.place.Place.{Place}
use Rattle.cs_ast.specs.TypedProgram.{TypedProgram}
use Rattle.cs_terms.specs.Term.{Valuation}
use Rattle.cs_constraints.specs.Constraints.{Fits}
use Rattle.cs_access.specs.declared.checking.FaultyPart.{FaultyPart}
use Rattle.cs_events.specs.declared.input.InputKind.{InputKind}
use Rattle.cs_events.specs.declared.operation.Operation.{Operation}
use Rattle.cs_events.specs.declared.operation.Operation.TheVariants.{Show}
use Rattle.cs_events.specs.declared.event.Label.TheVariants.{Look}
use Rattle.cs_events.specs.declared.outcome.Outcome.TheVariants.{Fault}
use Rattle.cs_events.specs.Objects.{Cell, NumberCell, NullCell, PointerCell, UnsetCell}
use Rattle.cs_events.specs.Acts.{Act, Goes, Stops, Asks}
use Rattle.cs_event_runs.specs.Left.{left_of}
use Rattle.cs_meaning.specs.Machine.{pop, cell_at}
use Rattle.cs_meaning.specs.Operators.{branch}
use Rattle.cs_cfg.specs.Graph.{Branch, Code}
use Rattle.cs_cfg.specs.Working.{CodeState}
use Rattle.cs_cfg.specs.CodeSteps.{enters, do_end}
use Rattle.cs_eval.specs.declared.question.Tested.TheVariants as tested
use Rattle.cs_regions.specs.declared.base.Base.{Base}
use Rattle.cs_store.specs.declared.value.Value.{Value}
use Rattle.cs_state.specs.declared.state.State.{State}
use Rattle.cs_state.specs.Meaning.{meaning}
use Rattle.cs_state.specs.Naming.{Naming}
use Rattle.cs_progress.specs.declared.next.Next.{Next}
use Rattle.cs_progress.specs.declared.next.Next.TheVariants as next
use Rattle.cs_progress.specs.Acting.{UsesAll, Leads, Gives, BeginsWith, WaitsFor}
use Rattle.cs_progress.specs.Answering.{answers_left}
use Rattle.cs_progress.specs.Operands.{IsCellAt}
use Rattle.cs_progress.specs.Stepping.{BeginsIn}
use Rattle.cs_progress.proofs.Composing.{leads_on}
use Rattle.cs_progress.proofs.Looks.{leads_same}
use Rattle.cs_operators.specs.Pointing.{cell_in, test}
use Rattle.cs_spots.proofs.Beginning.{begins_in}
use Rattle.cs_spots.proofs.CutMeanings.{uncut_means}

-- the operation that an act asks for
abbrev asked_at : Act CodeState → Option (Place × Operation)
asked_at (Asks at operation onward) = Some (at, operation)
asked_at other = None

-- what comes first doesn't depend on how an act continues after a question
begins_alike : (bases : List Base) (state : State) (v : Valuation) (first : Next) (at : Place) (operation : Operation) (one other : ℤ → Act CodeState)
    → BeginsWith bases state v first (Asks at operation one) → BeginsWith bases state v first (Asks at operation other)
begins_alike bases state v next.Done at operation one other begins = absurd begins
begins_alike bases state v (next.Asks place question) at operation one other (onward, same) =
    let asks = ap asked_at same in
    (other, cc)
begins_alike bases state v (next.Selects place term) at operation one other begins = absurd begins
begins_alike bases state v (next.Reaches place base offset) at operation one other (region, onward, named, same) = cc
begins_alike bases state v (next.Checks place checked) at operation one other begins = record {
  faults = All-weaker (λ (part : FaultyPart). Fits v part.state.constraints → Asks at operation one ≡ Stops (Fault part.kind place))
      (λ (part : FaultyPart). Fits v part.state.constraints → Asks at operation other ≡ Stops (Fault part.kind place))
      (λ part stops fits. let wrong = stops fits in absurd cc) checked.value.faults.items begins.faults;
  parts = begins.parts;
}
begins_alike bases state v (next.Ends outcome) at operation one other (short, stops) = absurd cc

module _ (cells : Path → InputKind → Cell) (at : Place) (onward : Bool → Act CodeState) where
  -- where a test continues, a branch continues alike
  pub branch_leads : (before after : List ℤ) (cell : Cell) (next : CodeState)
      → Leads cells before after (test at tested.Branch cell onward) (Goes next) → Leads cells before after (branch at cell onward) (Goes next)
  unfolding left_of UsesAll
  branch_leads before after (NumberCell n) next leads uses = leads uses
  branch_leads before after UnsetCell next leads uses = leads uses
  branch_leads [] after NullCell next leads uses = let wrong = (leads tt).0 in absurd cc
  branch_leads (answer ∷ before) after NullCell next leads uses = leads uses
  branch_leads [] after (PointerCell object offset) next leads uses = let wrong = (leads tt).0 in absurd cc
  branch_leads (answer ∷ before) after (PointerCell object offset) next leads uses = leads uses

  -- what comes first in a test comes first in a branch
  pub branch_waits : (bases : List Base) (state : State) (v : Valuation) (first : Next) (answers : List ℤ) (cell : Cell)
      → (UsesAll cells answers (test at tested.Branch cell onward)
      → BeginsWith bases state v first (left_of cells answers (test at tested.Branch cell onward)))
      → UsesAll cells answers (branch at cell onward) → BeginsWith bases state v first (left_of cells answers (branch at cell onward))
  unfolding left_of UsesAll
  branch_waits bases state v first answers (NumberCell n) stands uses = stands uses
  branch_waits bases state v first answers UnsetCell stands uses = stands uses
  branch_waits bases state v first [] NullCell stands uses = begins_alike bases state v first at (Show (Look false)) _ _ (stands tt)
  branch_waits bases state v first (answer ∷ answers) NullCell stands uses = stands uses
  branch_waits bases state v first [] (PointerCell object offset) stands uses =
      begins_alike bases state v first at (Show (Look true)) _ _ (stands tt)
  branch_waits bases state v first (answer ∷ answers) (PointerCell object offset) stands uses = stands uses

module _ (code : Code) (names : Naming) (program : TypedProgram) (state : State) (at : Place) (temporary one other : ℕ)
    (few : length state.frame.temporaries ≤ temporary + 1) (value : Value) (is : IsCellAt state 0 value) where
  abbrev run : Valuation → CodeState
  run v = meaning code names program state v

  abbrev branches : Valuation → Act CodeState
  branches v = do_end code (Branch at temporary one other) (run v)

  abbrev goes_by : Valuation → Bool → Act CodeState
  goes_by v holds = Goes (enters code (if holds then one else other) (pop (run v)))

  abbrev tests : Valuation → (Bool → Act CodeState) → Act CodeState
  tests v = test at tested.Branch (cell_in names.bases state value v)

  -- the act tests the value
  branch_taken : (v : Valuation) → branches v ≡ branch at (cell_in names.bases state value v) (goes_by v)
  branch_taken v =
      ap (λ m. branch at (cell_at m 0) (λ holds. Goes (enters code (if holds then one else other) (pop m))))
      (uncut_means code names program v (temporary + 1) state few)
      ∙ ap (λ cell. branch at cell (goes_by v)) (is code names program v)

  -- the test comes first
  pub test_shows : (used : ℕ) (first : Next) → ((onward : Bool → Act CodeState) → WaitsFor names.bases state used first (λ v. tests v onward))
      → (cells : Path → InputKind → Cell) (v : Valuation) → Fits v state.constraints → UsesAll cells (answers_left state used v) (branches v)
      → BeginsIn code names.bases state v first (left_of cells (answers_left state used v) (branches v))
  test_shows used first waits cells v fits uses =
      let answers = answers_left state used v in
      begins_in code names.bases state v first _
      (subst (λ act. BeginsWith names.bases state v first (left_of cells answers act)) (sym (branch_taken v))
      (branch_waits cells at (goes_by v) names.bases state v first answers (cell_in names.bases state value v) (waits (goes_by v) cells v fits)
      (subst (UsesAll cells answers) (branch_taken v) uses)))

  -- or leads to a block
  pub test_leads : (earlier later : ℕ) (holds : Bool) → Gives state earlier later tests (λ v. holds) → (block : ℕ)
      → (if holds then one else other) ≡ block → (next : Valuation → CodeState) → ((v : Valuation) → next v ≡ pop (run v))
      → (cells : Path → InputKind → Cell) (v : Valuation) → Fits v state.constraints
      → Leads cells (answers_left state earlier v) (answers_left state later v) (branches v) (Goes (enters code block (next v)))
  test_leads earlier later holds gives block led next popped cells v fits =
      leads_on cells _ _ _ (branches v) (branch at (cell_in names.bases state value v) (goes_by v)) _
      (leads_same cells _ _ _ (branch_taken v))
      (leads_on cells _ _ _ _ (goes_by v holds) _
      (branch_leads cells at (goes_by v) _ _ (cell_in names.bases state value v) _ (gives cells v fits (goes_by v)))
      (leads_same cells _ _ _ (λ i. Goes (enters code (led i) (sym (popped v) i)))))

-- The label of a test, of a number or of an inspected pointer: for the contracts of `test` and `equality`.
use Rattle.std.proofs.Common.{◌≡◌, ◌≢◌, ℕ, ℤ, pos, Bool, true, false, List, Option, None, Some, if◌then◌else◌, slice_get, refl, sym, ap}
use Rattle.std.proofs.Common.{◌∙◌, subst}
use Rattle.cs_ast.specs.declared.place.Place.{Place}
use Rattle.cs_terms.specs.declared.term.Lin.{Lin}
use Rattle.cs_terms.specs.Term.{Valuation, value_of}
use Rattle.cs_checker.specs.Answers.{constant}
use Rattle.cs_events.specs.declared.operation.Operation.TheVariants as operation
use Rattle.cs_events.specs.Operations.{is_true, truth_number}
use Rattle.cs_events.specs.Objects.{Cell, NumberCell, NullCell, PointerCell, UnsetCell}
use Rattle.cs_events.specs.Acts.{Act, Asks}
use Rattle.cs_meaning.specs.Access.{shows_then, look}
use Rattle.cs_meaning.specs.Initials.{is_set}
use Rattle.cs_cfg.specs.Working.{CodeState}
use Rattle.cs_regions.specs.declared.base.Base.{Base}
use Rattle.cs_store.specs.declared.value.Value.{Value}
use Rattle.cs_store.specs.declared.value.Value.TheVariants as value
use Rattle.cs_eval.specs.declared.question.Tested.{Tested}
use Rattle.cs_eval.specs.declared.question.Tested.TheVariants.{Look, Branch, Truth, Not, Alloc}
use Rattle.cs_eval.specs.Questions.{label_of, holds_for}
use Rattle.cs_state.specs.declared.state.State.{State}
use Rattle.cs_state.specs.Cells.{Blocks, cell_of, pointer_to, is_there, block_of}
use Rattle.cs_progress.specs.declared.pointers.Seen.{Seen}
use Rattle.cs_progress.specs.declared.pointers.Seen.TheVariants.{Null, At, Other}
use Rattle.cs_progress.specs.declared.next.Next.{Next}
use Rattle.cs_progress.specs.Acting.{GetsThrough, StandsFirst, WaitsFor, looked}
use Rattle.cs_progress.specs.Answering.{answers_left}
use Rattle.cs_progress.specs.Seeing.{IsSeen, IsSeenIn, IsSeenNamed}
use Rattle.cs_progress.proofs.Carrying.{LeadsTo}
use Rattle.cs_operators.specs.Pointing.{cell_in, shows_of, test}
use Rattle.cs_operators.proofs.Asked.{same_leads}

-- what the question about a number shows
label_shown : (tested : Tested) (number : ℤ) → shows_of tested (is_true number) ≡ label_of tested (holds_for tested number)
label_shown Look number = refl
label_shown Branch number = refl
label_shown Truth number = refl
label_shown Not number = refl
label_shown Alloc number = refl

-- the number of a truth isn't 0 exactly if the truth holds
truth_back : (holds : Bool) → is_true (truth_number holds) ≡ holds
truth_back true = refl
truth_back false = refl

-- whether an inspected pointer isn't null
abbrev pub is_at : Seen → Bool
is_at Null = false
is_at (At base offset) = true
is_at Other = false

pub at_else : (seen : Seen) → ((base : ℕ) (offset : Lin) → seen ≡ At base offset → ⊥) → is_at seen ≡ false
at_else Null never = refl
at_else (At base offset) never = absurd (never base offset refl)
at_else Other never = refl

abbrev pub IsNoNumber : Cell → Type 0
IsNoNumber (NumberCell n) = ⊥
IsNoNumber NullCell = Unit {0}
IsNoNumber (PointerCell object offset) = Unit {0}
IsNoNumber UnsetCell = Unit {0}

no_pointed : (base : Option Base) (offset : ℤ) → IsNoNumber (pointer_to base offset)
no_pointed None offset = tt
no_pointed (Some base) offset = tt

no_start : (there : Bool) (base : Option Base) (offset : ℤ) → IsNoNumber (if there then pointer_to base offset else NullCell)
no_start true base offset = no_pointed base offset
no_start false base offset = tt

pub no_number : (bases : List Base) (blocks : Blocks) (v : Valuation) (given : Value) → ((term : Lin) → given ≡ value.Number term → ⊥)
    → IsNoNumber (cell_of bases blocks v given)
no_number bases blocks v (value.Number term) never = never term refl
no_number bases blocks v value.Null never = tt
no_number bases blocks v (value.At base offset) never = no_pointed (slice_get bases base) (value_of v offset)
no_number bases blocks v (value.Start base offset) never = no_start (is_there v (block_of blocks base)) (slice_get bases base) (pos offset)
no_number bases blocks v value.Unset never = tt

module _ (at : Place) (tested : Tested) where
  -- a number is tested
  pub number_test : (n number : ℤ) (holds : Bool) (onward : Bool → Act CodeState) → number ≡ n → is_true number ≡ holds
      → test at tested (NumberCell n) onward ≡ Asks at (operation.Show (label_of tested (holds_for tested number))) (λ answer. onward holds)
  number_test n number holds onward same truth =
      subst (λ (n : ℤ).
      test at tested (NumberCell n) onward ≡ Asks at (operation.Show (label_of tested (holds_for tested number))) (λ answer. onward holds))
      same (λ i. shows_then at (label_shown tested number i) (onward (truth i)))

  -- a truth is shown as its number is
  pub truth_test : (v : Valuation) (holds : Bool) (act : Act CodeState)
      → shows_then at (shows_of tested holds) act
      ≡ Asks at (operation.Show (label_of tested (holds_for tested (value_of v (constant (truth_number holds)))))) (λ answer. act)
  truth_test v holds act =
      ap (λ what. shows_then at what act)
      (ap (shows_of tested) (sym (truth_back holds)) ∙ label_shown tested (truth_number holds))

  -- a pointer is tested: whether it is null is shown first
  pub looked_test : (cell : Cell) (onward : Bool → Act CodeState) → IsNoNumber cell
      → test at tested cell onward ≡ look at cell (shows_then at (shows_of tested (is_set cell)) (onward (is_set cell)))
  looked_test (NumberCell n) onward some = absurd some
  looked_test NullCell onward some = refl
  looked_test (PointerCell object offset) onward some = refl
  looked_test UnsetCell onward some = refl

  set_seen : (bases : List Base) (v : Valuation) (seen : Seen) (cell : Cell) → IsSeenNamed bases seen → IsSeen bases v seen cell → IsNoNumber cell
      → is_set cell ≡ is_at seen
  set_seen bases v Null cell named seen some = ap is_set seen
  set_seen bases v (At base offset) cell named seen some = ap is_set seen ∙ by (slice_get bases base) named
    where
      by : (found : Option Base) → found ≢ None → is_set (pointer_to found (value_of v offset)) ≡ true
      by None named = absurd (named refl)
      by (Some found) named = refl
  set_seen bases v Other (NumberCell n) named seen some = absurd some
  set_seen bases v Other NullCell named seen some = absurd seen
  set_seen bases v Other (PointerCell object offset) named seen some = absurd seen
  set_seen bases v Other UnsetCell named seen some = refl

  module _ (state : State) (bases : List Base) (given : Value) (other : (term : Lin) → given ≡ value.Number term → ⊥) where
    -- the inspection is waited for
    pub look_waits : (used : ℕ) (first : Next)
        → ((act : Act CodeState) → WaitsFor bases state used first (λ v. looked bases state at given v act))
        → (onward : Bool → Act CodeState) → WaitsFor bases state used first (λ v. test at tested (cell_in bases state given v) onward)
    look_waits used first waits onward cells v fits =
        let cell = cell_in bases state given v in
        subst (StandsFirst bases state used first cells v) (sym (looked_test cell onward (no_number bases state.blocks v given other)))
        (waits (shows_then at (shows_of tested (is_set cell)) (onward (is_set cell))) cells v fits)

    -- what remains after the inspection
    pub look_leads : (seen : Seen) (holds : Bool) (before after : ℕ) → IsSeenNamed bases seen → IsSeenIn state given seen → is_at seen ≡ holds
        → GetsThrough state before after (looked bases state at given)
        → LeadsTo state before after (λ v. test at tested (cell_in bases state given v)) (λ v onward. shows_then at (shows_of tested holds) (onward holds))
    look_leads seen holds before after named is so through cells v fits onward =
        let cell = cell_in bases state given v in
        let no_cell = no_number bases state.blocks v given other in
        let truth : is_set cell ≡ holds = set_seen bases v seen cell named (is bases v fits) no_cell ∙ so in
        let act : Act CodeState = shows_then at (shows_of tested holds) (onward holds) in
        same_leads cells (answers_left state before v) (answers_left state after v)
        (test at tested cell onward) (look at cell act) act
        (looked_test cell onward no_cell ∙ ap (λ b. look at cell (shows_then at (shows_of tested b) (onward b))) truth)
        (through cells v fits act)

-- The question of an operator, as the last one of its act or an earlier one: for the contracts of operators.
use Rattle.std.proofs.Common.{◌≡◌, ℕ, ℤ, List, Result, Ok, Err, IsErr, IsErrAnd, IfOk, IfErr, sym, ap, ◌∙◌, subst}
use Rattle.cs_inputs.specs.declared.path.Path.{Path}
use Rattle.cs_ast.specs.declared.place.Place.{Place}
use Rattle.cs_terms.specs.declared.term.Lin.{Lin}
use Rattle.cs_terms.specs.Term.{Valuation, value_of}
use Rattle.cs_constraints.specs.Constraints.{Fits}
use Rattle.cs_events.specs.declared.input.InputKind.{InputKind}
use Rattle.cs_events.specs.Objects.{Cell}
use Rattle.cs_events.specs.Acts.{Act, Asks}
use Rattle.cs_event_runs.specs.Left.{left_of}
use Rattle.cs_cfg.specs.Working.{CodeState}
use Rattle.cs_regions.specs.declared.base.Base.{Base}
use Rattle.cs_state.specs.declared.state.State.{State}
use Rattle.cs_eval.specs.declared.question.Question.{Question}
use Rattle.cs_eval.specs.Questions.{operation_of}
use Rattle.cs_progress.specs.declared.next.Next.{Next}
use Rattle.cs_progress.specs.declared.next.Next.TheVariants as next
use Rattle.cs_progress.specs.declared.pause.Pause.{Pause}
use Rattle.cs_progress.specs.declared.pause.Pause.TheVariants as pause
use Rattle.cs_progress.specs.declared.progress.Progress.{Progress}
use Rattle.cs_progress.specs.Acting.{Leads, BeginsWith, WaitsFor, CarriesOut}
use Rattle.cs_progress.specs.Answering.{answers_left, HasNextValue, HasNoAnswer}
use Rattle.cs_progress.proofs.Composing.{leads_answered, asks_first}
use Rattle.cs_progress.proofs.Carrying.{handed}

-- an act leads where an equal act leads
pub same_leads : (cells : Path → InputKind → Cell) (before after : List ℤ) (one same act : Act CodeState)
    → one ≡ same → Leads cells before after same act → Leads cells before after one act
same_leads cells before after one same act is leads = subst (λ (begin : Act CodeState). Leads cells before after begin act) (sym is) leads

-- the act with a question
abbrev pub asks : Place → Question → Valuation → (ℤ → Act CodeState) → Act CodeState
asks at question v onward = Asks at (operation_of v question) onward

module _ (state : State) (at : Place) (question : Question) where
  -- under each valuation that fits, an act begins with the question
  abbrev pub AsksFirst : (Valuation → Act CodeState) → Type 0
  AsksFirst act = (v : Valuation) → Fits v state.constraints
      → (onward : ℤ → Act CodeState) × (act v ≡ Asks at (operation_of v question) onward)

  -- the question comes first if no answer remains
  pub question_waits : (bases : List Base) (used : ℕ) (first : Next) (act : Valuation → Act CodeState)
      → first ≡ next.Asks at question → HasNoAnswer state used → AsksFirst act → WaitsFor bases state used first act
  question_waits bases used first act is none asks cells v fits uses =
      let (onward, same) = asks v fits in
      subst (λ (first : Next). BeginsWith bases state v first (left_of cells (answers_left state used v) (act v))) (sym is) (
        onward,
        ap (left_of cells (answers_left state used v)) same ∙ asks_first cells (answers_left state used v) at (operation_of v question) onward (none v),
      )

  -- a part that ends with the question
  pub asked : (bases : List Base) (before after : Progress) (answer : Result Lin Pause) (part : Valuation → (ℤ → Act CodeState) → Act CodeState)
      → ((v : Valuation) → Fits v state.constraints → (onward : ℤ → Act CodeState) → part v onward ≡ Asks at (operation_of v question) onward)
      → IfOk answer (HasNextValue state before.used after.used)
      → IfErr answer (λ why. why ≡ pause.Waits → HasNoAnswer state before.used)
      → IfErr answer (λ why. why ≡ pause.Waits → after.first ≡ next.Asks at question)
      → CarriesOut bases state before after answer part (λ made v. value_of v made)
  asked bases before after (Ok made) part asks answered none first = record {
    through = λ cells v fits onward.
        same_leads cells (answers_left state before.used v) (answers_left state after.used v)
        (part v onward) (Asks at (operation_of v question) onward) (onward (value_of v made)) (asks v fits onward)
        (leads_answered cells _ _ (value_of v made) at (operation_of v question) onward (answered v fits));
    waits = tt;
  }
  asked bases before after (Err why) part asks answered none first = record {
    through = tt;
    waits = λ waits onward.
        question_waits bases before.used after.first (λ v. part v onward) (first waits) (none waits) (λ v fits. (onward, asks v fits onward));
  }

  -- a part begins with the question, and doesn't use its answer
  abbrev pub ShowsThen : {Given : Type 0} → (Valuation → (Given → Act CodeState) → Act CodeState) → (Valuation → Given) → Type 0
  ShowsThen {Given} part given = (v : Valuation) → Fits v state.constraints → (onward : Given → Act CodeState)
      → part v onward ≡ Asks at (operation_of v question) (λ number. onward (given v))

  pub shown : {T Given : Type 0} (bases : List Base) (before after : Progress) (answer : Lin) (made : T)
      (part : Valuation → (Given → Act CodeState) → Act CodeState) (value : T → Valuation → Given)
      → ShowsThen part (value made) → HasNextValue state before.used after.used answer → CarriesOut bases state before after (Ok made) part value
  shown bases before after answer made part value shows answered = record {
    through = λ cells v fits onward.
        same_leads cells (answers_left state before.used v) (answers_left state after.used v)
        (part v onward) (Asks at (operation_of v question) (λ number. onward (value made v))) (onward (value made v)) (shows v fits onward)
        (leads_answered cells _ _ (value_of v answer) at (operation_of v question) (λ number. onward (value made v)) (answered v fits));
    waits = tt;
  }

  pub not_shown : {T Given : Type 0} (bases : List Base) (before after : Progress) (answer : Result T Pause) (why : Pause)
      (part : Valuation → (Given → Act CodeState) → Act CodeState) (value : T → Valuation → Given) (given : Valuation → Given)
      → ShowsThen part given → IsErr answer × IsErrAnd answer (λ e. e ≡ why)
      → (why ≡ pause.Waits → HasNoAnswer state before.used) → (why ≡ pause.Waits → after.first ≡ next.Asks at question)
      → CarriesOut bases state before after answer part value
  not_shown bases before after answer why part value given shows is none first =
      handed state bases before after answer part value why is (λ waits onward.
      question_waits bases before.used after.first (λ v. part v onward) (first waits) (none waits)
      (λ v fits. (λ number. onward (given v), shows v fits onward)))

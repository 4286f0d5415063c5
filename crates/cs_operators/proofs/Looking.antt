-- Inspecting two pointers, one after the other: for the contracts of `difference` and `compare_pointers`.
use Rattle.std.proofs.Common.{◌≡◌, ℕ, ℤ, List, Result, Ok, Err, IsErr, IsErrAnd, IfOk, IfErr, sym, ap}
use Rattle.cs_ast.specs.declared.place.Place.{Place}
use Rattle.cs_terms.specs.declared.term.Lin.{Lin}
use Rattle.cs_terms.specs.Term.{Valuation, value_of}
use Rattle.cs_events.specs.declared.operation.Operation.{Operation}
use Rattle.cs_events.specs.Acts.{Act, Asks}
use Rattle.cs_meaning.specs.Operators as operators
use Rattle.cs_cfg.specs.Working.{CodeState}
use Rattle.cs_regions.specs.declared.base.Base.{Base}
use Rattle.cs_store.specs.declared.value.Value.{Value}
use Rattle.cs_state.specs.declared.state.State.{State}
use Rattle.cs_eval.specs.declared.question.Question.{Question}
use Rattle.cs_eval.specs.Questions.{operation_of}
use Rattle.cs_progress.specs.declared.next.Next.TheVariants as next
use Rattle.cs_progress.specs.declared.pause.Pause.{Pause}
use Rattle.cs_progress.specs.declared.pause.Pause.TheVariants as pause
use Rattle.cs_progress.specs.declared.progress.Progress.{Progress}
use Rattle.cs_progress.specs.Acting.{GetsThrough, CarriesOut, looked}
use Rattle.cs_progress.specs.Answering.{answers_left, HasNextValue, HasNoAnswer}
use Rattle.cs_progress.proofs.Composing.{leads_on}
use Rattle.cs_progress.proofs.Carrying.{LeadsTo, handed, carries_on}
use Rattle.cs_operators.specs.Pointing.{cell_in, both_values, related}
use Rattle.cs_operators.proofs.Asked.{same_leads, asked}

module _ (state : State) (bases : List Base) (at : Place) (left right : Value) where
  -- a part begins with the inspection of both pointers
  pub both_looked : {Given : Type 0} (before between after : ℕ) (part rest : Valuation → (Given → Act CodeState) → Act CodeState)
      → ((v : Valuation) (onward : Given → Act CodeState)
      → part v onward ≡ looked bases state at left v (looked bases state at right v (rest v onward)))
      → GetsThrough state before between (looked bases state at left) → GetsThrough state between after (looked bases state at right)
      → LeadsTo state before after part rest
  both_looked before between after part rest begins first second cells v fits onward =
      let left_over : Act CodeState = looked bases state at right v (rest v onward) in
      same_leads cells (answers_left state before v) (answers_left state after v)
      (part v onward) (looked bases state at left v left_over) (rest v onward) (begins v onward)
      (leads_on cells (answers_left state before v) (answers_left state between v) (answers_left state after v)
      (looked bases state at left v left_over) left_over (rest v onward) (first cells v fits left_over) (second cells v fits (rest v onward)))

  -- then they have to point into one object, and a question about their offsets comes last
  module _ (made_of : ℤ → ℤ → Operation) (part : Valuation → (ℤ → Act CodeState) → Act CodeState) where
    abbrev pub rest : Valuation → (ℤ → Act CodeState) → Act CodeState
    rest v onward =
        operators.in_relation at (operators.related (cell_in bases state left v) (cell_in bases state right v))
        (λ one other. Asks at (made_of one other) onward)

    module _ (begins : (v : Valuation) (onward : ℤ → Act CodeState)
        → part v onward ≡ looked bases state at left v (looked bases state at right v (rest v onward)))
        (before between seen after : Progress) (first : GetsThrough state before.used between.used (looked bases state at left))
        (second : GetsThrough state between.used seen.used (looked bases state at right)) where
      -- if they don't, the fault is waited for
      pub relation_waits : (answer : Result Lin Pause) (why : Pause) → IsErr answer × IsErrAnd answer (λ e. e ≡ why)
          → CarriesOut {T = Lin × Lin} bases state seen after (Err why) (λ v. related at (cell_in bases state left v) (cell_in bases state right v))
          both_values
          → CarriesOut bases state before after answer part (λ made v. value_of v made)
      relation_waits answer why is carries =
          carries_on state bases before after answer seen part rest (λ made v. value_of v made)
          (both_looked before.used between.used seen.used part rest begins first second)
          (handed state bases seen after answer rest (λ made v. value_of v made) why is
          (λ waits onward. carries.waits waits (λ given. Asks at (made_of given.0 given.1) onward)))

      pub relation_asked : (found : Progress) (one other : Lin) (question : Question) (answer : Result Lin Pause)
          → ((v : Valuation) → operation_of v question ≡ made_of (value_of v one) (value_of v other))
          → CarriesOut {T = Lin × Lin} bases state seen found (Ok (one, other))
          (λ v. related at (cell_in bases state left v) (cell_in bases state right v)) both_values
          → IfOk answer (HasNextValue state found.used after.used)
          → IfErr answer (λ why. why ≡ pause.Waits → HasNoAnswer state found.used)
          → IfErr answer (λ why. why ≡ pause.Waits → after.first ≡ next.Asks at question)
          → CarriesOut bases state before after answer part (λ made v. value_of v made)
      relation_asked found one other question answer same carries answered none stands =
          let last = λ (v : Valuation) (onward : ℤ → Act CodeState). Asks at (made_of (value_of v one) (value_of v other)) onward in
          carries_on state bases before after answer seen part rest (λ made v. value_of v made)
          (both_looked before.used between.used seen.used part rest begins first second)
          (carries_on state bases seen after answer found rest last (λ made v. value_of v made)
          (λ cells v fits onward. carries.through cells v fits (λ given. Asks at (made_of given.0 given.1) onward))
          (asked state at question bases found after answer last
          (λ v fits onward. ap (λ (operation : Operation). Asks at operation onward) (sym (same v))) answered none stands))

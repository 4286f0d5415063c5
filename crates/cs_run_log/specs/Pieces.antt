-- The effect of a piece of a step, for every continuation.
use Rattle.std.specs.Prelude.{◌≡◌, ℕ, ℤ, pos, neg_ℤ, ◌+ℤ◌, ◌-ℤ◌, ◌*ℤ◌, true, Option, Some, None, if◌then◌else◌, Result, ⊤}
use Rattle.std.specs.Prelude.{OnOk, IfErr}
use Rattle.cs_types.specs.declared.data_model.DataModel.{DataModel}
use Rattle.cs_types.specs.DataModel.{offset_bound_of}
use Rattle.cs_events.specs.declared.event.Label.TheVariants.{Look}
use Rattle.cs_events.specs.declared.operation.Operation.{Operation}
use Rattle.cs_events.specs.declared.operation.Operation.TheVariants as operation
use Rattle.cs_model.specs.declared.kind.Kind.TheVariants.{Bounds}
use Rattle.cs_events.specs.Operations.{is_true}
use Rattle.cs_ast.specs.declared.typed.operator.CmpOp.{CmpOp}
use Rattle.cs_events.specs.Objects.{Cell}
use Rattle.cs_meaning.specs.Operators.{asks_order, in_relation, related, equality, both_null, in_one_object}
use Rattle.cs_meaning.specs.Access.{shows_then, ordered}
use Rattle.cs_ast.specs.declared.place.Place.{Place}
use Rattle.cs_model.specs.declared.kind.Kind.{Kind}
use Rattle.cs_events.specs.declared.outcome.Outcome.TheVariants.{Fault}
use Rattle.cs_events.specs.Acts.{Act, Stops, Asks}
use Rattle.cs_events.specs.Runs as runs
use Rattle.cs_events.specs.Runs.{Performed, Continues, Finishes, perform}
use Rattle.cs_meaning.specs.Machine.{State}
use Rattle.cs_run_log.specs.declared.logs.Log.{Log}
use Rattle.cs_objects.specs.declared.settings.Setting.{Setting}
use Rattle.cs_run_log.specs.declared.logs.Stop.{Stop}
use Rattle.cs_run_log.specs.declared.logs.Stop.TheVariants as stop
use Rattle.cs_run_log.specs.LogView.{setting_of, log_of}

-- the end of a run with a log; if memory ran out nothing is claimed: the result is `otherwise`
abbrev pub finished : Stop → runs.Log → Performed State → Performed State
finished (stop.Outcome outcome) log otherwise = Finishes outcome log
finished stop.Memory log otherwise = otherwise

module _ (setting : Setting) (before following : Log) where
  -- for every continuation: performing the piece with the log before it is performing the continuation with the log after it
  abbrev pub GoesOn : (Act State → Act State) → Type 0
  GoesOn piece = (onward : Act State) → perform (setting_of setting) (log_of before) (piece onward) ≡ perform (setting_of setting) (log_of following) onward

  -- the same for a piece with an answer
  abbrev pub Gives : {A : Type 0} → ((A → Act State) → Act State) → A → Type 0
  Gives {A = A} piece answer = (onward : A → Act State)
      → perform (setting_of setting) (log_of before) (piece onward) ≡ perform (setting_of setting) (log_of following) (onward answer)

  -- for every continuation: the run ends in the piece
  abbrev pub EndsIn : (Act State → Act State) → Stop → Type 0
  EndsIn piece stop = (onward : Act State) → perform (setting_of setting) (log_of before) (piece onward)
      ≡ finished stop (log_of following) (perform (setting_of setting) (log_of before) (piece onward))

  -- the same for a piece that would have an answer
  abbrev pub StopsIn : {A : Type 0} → ((A → Act State) → Act State) → Stop → Type 0
  StopsIn {A = A} piece stop = (onward : A → Act State)
      → perform (setting_of setting) (log_of before) (piece onward)
      ≡ finished stop (log_of following) (perform (setting_of setting) (log_of before) (piece onward))

module _ (setting : Setting) (before following : Log) where
  -- the same for a piece with two answers, of which the first may be memory
  abbrev pub GivesBoth : {A B : Type 0} → ((A → B → Act State) → Act State) → A → B → Type 0
  GivesBoth {A = A} {B = B} piece one other = (onward : A → B → Act State)
      → perform (setting_of setting) (log_of before) (piece onward) ≡ perform (setting_of setting) (log_of following) (onward one other)

  -- the same for a piece that would have two answers
  abbrev pub StopsInBoth : {A B : Type 0} → ((A → B → Act State) → Act State) → Stop → Type 0
  StopsInBoth {A = A} {B = B} piece stop = (onward : A → B → Act State)
      → perform (setting_of setting) (log_of before) (piece onward)
      ≡ finished stop (log_of following) (perform (setting_of setting) (log_of before) (piece onward))

  -- an act leads to this state
  abbrev pub LeadsTo : Act State → State → Type 0
  LeadsTo act next = perform (setting_of setting) (log_of before) act ≡ Continues next (log_of following)

  -- an act ends the run
  abbrev pub EndsBy : Act State → Stop → Type 0
  EndsBy act stop = perform (setting_of setting) (log_of before) act ≡ finished stop (log_of following) (perform (setting_of setting) (log_of before) act)

-- what a call that performs an act ensures: the act leads to this state, or ends the run
pub record LeadsOrEnds (setting : Setting) (before following : Log) (result : Result ⊤ Stop) (act : Act State) (next : State) : Type 0 where
  pub ok : OnOk result (LeadsTo setting before following act next)
  pub err : IfErr result (EndsBy setting before following act)

-- an act that follows if there is no fault
abbrev pub or_fault : Place → Option Kind → Act State → Act State
or_fault at None act = act
or_fault at (Some kind) act = Stops (Fault kind at)

-- an order test that is a fault if it fails
abbrev pub holds_or_faults : Place → Operation → Act State → Act State
holds_or_faults at test act = Asks at test (λ number. if is_true number then act else Stops (Fault Bounds at))

-- the offset of a moved pointer, within its bounds
abbrev pub moves_offset : DataModel → Place → ℤ → ℤ → ℕ → (ℤ → Act State) → Act State
moves_offset model at offset amount size onward =
    shows_then at (Look true)
    (ordered at (offset +ℤ pos (offset_bound_of model)) (amount *ℤ pos size)
    (ordered at (pos (offset_bound_of model) -ℤ offset) (neg_ℤ (amount *ℤ pos size))
    (Asks at (operation.Sum offset amount size) onward)))

-- a comparison of two pointers that have shown whether they are null
abbrev pub compares_seen : Place → CmpOp → Cell → Cell → (ℤ → Act State) → Act State
compares_seen at operator left right onward =
    if asks_order operator
    then in_relation at (related left right) (λ one other. Asks at (operation.Compare operator one other) onward)
    else equality at operator (both_null left right) (in_one_object left right) onward

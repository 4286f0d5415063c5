-- No operation returns from a run or touches the end of a function if what follows it doesn't: at most it ends the run with a fault or
-- over a budget.
use Rattle.std.specs.Prelude.{⊤}
use Rattle.std.proofs.lemmas.List.{append-nil}
use Rattle.std.proofs.Common.{◌≡◌, ℕ, ℤ, Bool, true, false, List, [], ◌∷◌, ◌++◌, append_assoc, refl, sym, ◌∙◌, subst, Option, Some}
use Rattle.std.proofs.Common.{None, if◌then◌else◌}
use Rattle.cs_ast.specs.declared.place.Place.{Place}
use Rattle.cs_ast.specs.TypedProgram.{TypedProgram}
use Rattle.cs_events.specs.Operations.{is_true}
use Rattle.cs_events.specs.declared.input.InputKind.{InputKind}
use Rattle.cs_events.specs.Objects.{Object, Cell}
use Rattle.cs_events.specs.Touches.{Touch, Meets, Loads, Stores, Clears}
use Rattle.cs_events.specs.Acts.{Act, Goes, Stops, Reads, Asks, Allocates, Reaches, Touches}
use Rattle.cs_events.specs.declared.outcome.Outcome.{Outcome}
use Rattle.cs_events.specs.declared.outcome.Outcome.TheVariants.{Done, Fault, Over}
use Rattle.cs_events.specs.declared.operation.Operation.{Operation}
use Rattle.cs_inputs.specs.declared.path.Path.{Path}
use Rattle.cs_events.specs.declared.outcome.Returned.{Returned}
use Rattle.cs_events.specs.declared.outcome.Budget.TheVariants.{Events}
use Rattle.cs_events.specs.Runs.{Setting, Log, Performed, Finishes, perform, with_operation, with_allocation, with_access, with_read, with_touch, allows_event}
use Rattle.cs_events.specs.Runs.{number_of, read_cell}
use Rattle.cs_events.specs.Growth.{log_of}
use Rattle.cs_meaning.specs.Memory.{Memory, changed}
use Rattle.cs_meaning.specs.Access.{Access, touches_then, load_object, write_operand, store_object}
use Rattle.cs_meaning.specs.Machine.{Operand}
use Rattle.cs_cfg.specs.GraphPoints.{goes_on}
use Rattle.cs_cfg.proofs.Onward.{IsNoReturn, Inherited, Each, EachOfTwo, keeps_writable, keeps_locate, keeps_value}

-- equal lists with the same beginning have the same rest
pub go_on_alike : {T : Type 0} (begin : List T) {one other : List T} → begin ++ one ≡ begin ++ other → one ≡ other
go_on_alike [] e = e
go_on_alike (x ∷ begin) e = go_on_alike begin cc

-- the touch doesn't end a function
abbrev pub IsMidway : Touch → Type 0
IsMidway (Meets kind at) = goes_on kind ≡ true
IsMidway (Loads frame declaration at) = ⊤
IsMidway (Stores frame declaration at) = ⊤
IsMidway (Clears frame declaration at) = ⊤

abbrev AllMidway : List Touch → Type 0
AllMidway [] = ⊤
AllMidway (touch ∷ touches) = IsMidway touch × AllMidway touches

-- touches that were added, none of which ends a function
record TouchedMidway (before after : List Touch) : Type 0 where
  added : List Touch
  midway : AllMidway added
  is : after ≡ before ++ added

module _ {S : Type 0} where
  -- an act that continues, or ends the run with a fault or over a budget, and touches no end of a function
  pub data NeverReturns : Act S → Type 0 where
    goes : {s : S} → NeverReturns (Goes s)
    stops : {outcome : Outcome} → IsNoReturn outcome → NeverReturns (Stops outcome)
    reads : {path : Path} {kind : InputKind} {f : Cell → Act S} → ((cell : Cell) → NeverReturns (f cell)) → NeverReturns (Reads path kind f)
    asks : {at : Place} {operation : Operation} {f : ℤ → Act S} → ((number : ℤ) → NeverReturns (f number)) → NeverReturns (Asks at operation f)
    allocates : {at : Place} {path : Path} {f : Bool → Act S} → ((given : Bool) → NeverReturns (f given)) → NeverReturns (Allocates at path f)
    reaches : {at : Place} {object : Object} {offset : ℤ} {a : Act S} → NeverReturns a → NeverReturns (Reaches at object offset a)
    touches : {touch : Touch} {a : Act S} → IsMidway touch → NeverReturns a → NeverReturns (Touches touch a)

  pub never : Inherited NeverReturns
  never = record { stops = stops; reads = reads; asks = asks; allocates = allocates; reaches = reaches }

  pub stays_touches : (touch : ℕ → Touch) (local : Option ℕ) {a : Act S} → ((declaration : ℕ) → IsMidway (touch declaration)) → NeverReturns a
      → NeverReturns (touches_then touch local a)
  stays_touches touch None midway h = h
  stays_touches touch (Some declaration) midway h = touches (midway declaration) h

  pub stays_load : (program : TypedProgram) (memory : Memory) (frame : ℕ) (access : Access) (cell : Cell) {f : Memory → Operand → Act S}
      → EachOfTwo never f → NeverReturns (load_object program memory frame access cell f)
  stays_load program memory frame access cell h =
      keeps_locate never program memory access cell (λ object offset.
      stays_touches (λ declaration. Loads frame declaration access.at) access.local (λ declaration. tt)
      (keeps_value never program memory access.at access.ty object offset h))

  pub stays_store : (program : TypedProgram) (memory : Memory) (frame : ℕ) (at : Place) (access : Access) (cell : Cell) (operand : Operand) {f : Memory
      → Act S} → Each never f → NeverReturns (store_object program memory frame at access cell operand f)
  stays_store program memory frame at access cell operand h =
      keeps_locate never program memory access cell (λ object offset.
      keeps_writable never program access.at object
      (stays_touches (λ declaration. Stores frame declaration at) access.local (λ declaration. tt)
      (h (changed (write_operand program access.ty offset operand) object memory))))

  -- without budget for one more event the run isn't done
  in_room : (room : Bool) (at : Place) (log end : Log) (what : Returned) {done : Performed S} → (done ≡ Finishes (Done what) end → ⊥)
      → (if room then done else Finishes (Over Events at) log) ≡ Finishes (Done what) end → ⊥
  in_room true at log end what h e = h e
  in_room false at log end what h e = cc

  -- an act that never returns doesn't end a run as done
  pub never_done : (setting : Setting) (log end : Log) (what : Returned) {act : Act S} → NeverReturns act
      → perform setting log act ≡ Finishes (Done what) end → ⊥
  unfolding perform
  never_done setting log end what goes e = cc
  never_done setting log end what (stops {outcome = Done what'} none) e = none
  never_done setting log end what (stops {outcome = Fault kind at} none) e = cc
  never_done setting log end what (stops {outcome = Over budget at} none) e = cc
  never_done setting log end what (reads {path = path} {kind = kind} h) e =
      never_done setting (with_read log path kind) end what (h (read_cell setting path kind)) e
  never_done setting log end what (asks {at = at} {operation = operation} h) e =
      in_room (allows_event setting log) at log end what (λ f.
      never_done setting (with_operation setting log at operation) end what (h (number_of setting log operation)) f) e
  never_done setting log end what (allocates {at = at} {path = path} h) e =
      in_room (allows_event setting log) at log end what (λ f.
      never_done setting (with_allocation setting log at path) end what (h (is_true (setting.inputs path))) f) e
  never_done setting log end what (reaches {at = at} {object = object} {offset = offset} h) e =
      in_room (allows_event setting log) at log end what (λ f. never_done setting (with_access log at object offset) end what h f) e
  never_done setting log end what (touches {touch = touch} midway h) e = never_done setting (with_touch log touch) end what h e

  -- what such an act touches doesn't end a function
  touched_if : (room : Bool) (before : List Touch) (done : Performed S) (outcome : Outcome) (log : Log) → log.touches ≡ before
      → TouchedMidway before (log_of done).touches → TouchedMidway before (log_of (if room then done else Finishes outcome log)).touches
  touched_if true before done outcome log e h = h
  touched_if false before done outcome log e h = record { added = []; midway = tt; is = e ∙ sym (append-nil before) }

  touches_midway : (setting : Setting) (log : Log) {act : Act S} → NeverReturns act
      → TouchedMidway log.touches (log_of (perform setting log act)).touches
  unfolding perform
  touches_midway setting log goes = record { added = []; midway = tt; is = sym (append-nil log.touches) }
  touches_midway setting log (stops none) = record { added = []; midway = tt; is = sym (append-nil log.touches) }
  touches_midway setting log (reads {path = path} {kind = kind} h) =
      touches_midway setting (with_read log path kind) (h (read_cell setting path kind))
  touches_midway setting log (asks {at = at} {operation = operation} h) =
      touched_if (allows_event setting log) log.touches _ _ log refl
      (touches_midway setting (with_operation setting log at operation) (h (number_of setting log operation)))
  touches_midway setting log (allocates {at = at} {path = path} h) =
      touched_if (allows_event setting log) log.touches _ _ log refl
      (touches_midway setting (with_allocation setting log at path) (h (is_true (setting.inputs path))))
  touches_midway setting log (reaches {at = at} {object = object} {offset = offset} h) =
      touched_if (allows_event setting log) log.touches _ _ log refl (touches_midway setting (with_access log at object offset) h)
  touches_midway setting log (touches {touch = touch} midway h) =
      let rest = touches_midway setting (with_touch log touch) h in
      record { added = touch ∷ rest.added; midway = (midway, rest.midway); is = rest.is ∙ append_assoc log.touches (touch ∷ []) rest.added }

  -- so the one touch of such an act doesn't
  pub one_midway : (setting : Setting) (log : Log) (touch : Touch) {act : Act S} → NeverReturns act
      → (log_of (perform setting log act)).touches ≡ log.touches ++ touch ∷ [] → IsMidway touch
  one_midway setting log touch never e =
      let it = touches_midway setting log never in
      first_midway it.added it.midway (go_on_alike log.touches (sym it.is ∙ e))
    where
      first_midway : (added : List Touch) → AllMidway added → added ≡ touch ∷ [] → IsMidway touch
      first_midway [] midway e = cc
      first_midway (first ∷ added) midway e = let same : first ≡ touch = cc in subst IsMidway same midway.0

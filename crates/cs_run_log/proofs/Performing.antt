-- The result of performing each act: for every contract about acts.
use Rattle.std.proofs.Common.{◌≡◌, ℤ, Bool, refl}
use Rattle.std.specs.Prelude.{if◌then◌else◌}
use Rattle.std.proofs.lemmas.Int.{to_z-of_z}
use Rattle.cs_ast.specs.declared.place.Place.{Place}
use Rattle.cs_inputs.specs.declared.path.Path.{Path}
use Rattle.cs_events.specs.declared.operation.Operation.{Operation}
use Rattle.cs_events.specs.declared.outcome.Outcome.{Outcome}
use Rattle.cs_events.specs.declared.outcome.Outcome.TheVariants.{Over}
use Rattle.cs_events.specs.declared.outcome.Budget.TheVariants.{Events}
use Rattle.cs_events.specs.Operations.{is_true}
use Rattle.cs_events.specs.Objects.{Object, Cell}
use Rattle.cs_events.specs.declared.input.InputKind.{InputKind}
use Rattle.cs_events.specs.Touches.{Touch}
use Rattle.cs_events.specs.Acts.{Act, Goes, Stops, Reads, Asks, Allocates, Reaches, Touches}
use Rattle.cs_events.specs.Runs.{Setting, Log, Continues, Finishes, perform, with_operation, with_allocation, with_access, with_read, with_touch}
use Rattle.cs_events.specs.Runs.{allows_event, number_of, read_cell}
use Rattle.cs_meaning.specs.Machine.{State}
use Rattle.cs_objects.proofs.Pushing.{map-push}

pub perform-Goes : (s : Setting) (log : Log) (next : State) → perform s log (Goes next) ≡ Continues next log
unfolding perform
perform-Goes s log next = refl

pub perform-Stops : (s : Setting) (log : Log) (outcome : Outcome) → perform {State = State} s log (Stops outcome) ≡ Finishes outcome log
unfolding perform
perform-Stops s log outcome = refl

pub perform-Reads : (s : Setting) (log : Log) (path : Path) (kind : InputKind) (onward : Cell → Act State)
    → perform s log (Reads path kind onward) ≡ perform s (with_read log path kind) (onward (read_cell s path kind))
unfolding perform
perform-Reads s log path kind onward = refl

pub perform-Touches : (s : Setting) (log : Log) (touch : Touch) (act : Act State) → perform s log (Touches touch act) ≡ perform s (with_touch log touch) act
unfolding perform
perform-Touches s log touch act = refl

pub perform-Asks : (s : Setting) (log : Log) (at : Place) (operation : Operation) (onward : ℤ → Act State)
    → perform s log (Asks at operation onward)
    ≡ (if allows_event s log then perform s (with_operation s log at operation) (onward (number_of s log operation))
    else Finishes (Over Events at) log)
unfolding perform
perform-Asks s log at operation onward = refl

pub perform-Allocates : (s : Setting) (log : Log) (at : Place) (path : Path) (onward : Bool → Act State)
    → perform s log (Allocates at path onward)
    ≡ (if allows_event s log then perform s (with_allocation s log at path) (onward (is_true (s.inputs path)))
    else Finishes (Over Events at) log)
unfolding perform
perform-Allocates s log at path onward = refl

pub perform-Reaches : (s : Setting) (log : Log) (at : Place) (object : Object) (offset : ℤ) (act : Act State)
    → perform s log (Reaches at object offset act)
    ≡ (if allows_event s log then perform s (with_access log at object offset) act else Finishes (Over Events at) log)
unfolding perform
perform-Reaches s log at object offset act = refl

-- the result of each act without events, and numbers without the casts that change nothing
pub ruleset silent = (perform-Goes, perform-Stops, perform-Touches, to_z-of_z)

-- the result of each act, and numbers without the casts that change nothing
pub ruleset performing = (perform-Goes, perform-Stops, perform-Reads, perform-Touches, perform-Asks, perform-Allocates, perform-Reaches, map-push, to_z-of_z)

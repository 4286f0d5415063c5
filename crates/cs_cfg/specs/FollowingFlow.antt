-- What the flow of a program states about runs: which control point a frame touches after another, depending on the way it took.
-- Stated for every machine that runs a program in frames.
use Rattle.std.specs.Prelude.{◌≡◌, ℕ, true, false, List, [], ◌∷◌, ◌++◌, Contains, Some}
use Rattle.cs_ast.specs.declared.place.Place.{Place}
use Rattle.cs_ast.specs.TypedProgram.{TypedProgram, Routine}
use Rattle.cs_events.specs.declared.event.Event.{Event}
use Rattle.cs_events.specs.declared.event.Label.TheVariants as label
use Rattle.cs_events.specs.declared.point.PointKind.TheVariants.{Enter}
use Rattle.cs_events.specs.Touches.{Meets}
use Rattle.cs_events.specs.Acts.{Act}
use Rattle.cs_events.specs.Runs.{Setting, Log, empty, Continues, perform, Leads}
use Rattle.cs_events.specs.Growth.{log_of}
use Rattle.cs_meaning.specs.Machine.{Running, routine_of}
use Rattle.cs_cfg.specs.ControlPoints.{Met, the_point, Exit, Onward, TruthOf, CaseOf, Way, ControlPoint, control_points}
use Rattle.cs_cfg.specs.GraphPoints.{goes_on}

-- the events since an earlier log show the way out of a control point: the truth of a test, after whether its pointer is
-- null, or the case of a `switch`; no event if the point has only one way
abbrev pub ShowsExit : Place → Exit → Log → Log → Type 0
ShowsExit at Onward log later = later.events ≡ log.events
ShowsExit at (TruthOf holds) log later = (looked : List Event)
    × (later.events ≡ (log.events ++ looked) ++ record { place = at; label = label.Branch holds } ∷ [])
ShowsExit at (CaseOf number) log later = later.events ≡ log.events ++ record { place = at; label = label.Case number } ∷ []

-- a way out of a control point, named by the flow of a function, that the growth of a log shows
pub record LeftBy (routine : Routine) (one : Met) (log later : Log) : Type 0 where
  pub point : ControlPoint
  pub way : Way
  pub listed : Contains (control_points routine) point
  pub is : the_point point.kind point.at ≡ one
  pub among : Contains point.ways way
  pub shown : ShowsExit one.at way.exit log later

module _ {Rest : Type 0} (step : Running Rest → Act (Running Rest)) (setting : Setting) where
  -- the next step of a run touches a control point, in the current frame
  abbrev pub TouchesPoint : Running Rest → Log → Met → Type 0
  TouchesPoint m log one = (log_of (perform setting log (step m))).touches ≡ log.touches ++ Meets one.kind one.at ∷ []

  -- the run leads from a state and a log to others without touching a control point in the frame with a number
  pub data LeadsPast (frame : ℕ) : Running Rest → Log → Running Rest → Log → Type 0 where
    stays : {m : Running Rest} {log : Log} → LeadsPast frame m log m log
    goes : {m next last : Running Rest} {log later end : Log} → perform setting log (step m) ≡ Continues next later
        → (m.frame.number ≡ frame → (one : Met) → TouchesPoint m log one → ⊥) → LeadsPast frame next later last end
        → LeadsPast frame m log last end

  -- the control point that a frame touches next, from a state and a log, is the one that the way names
  abbrev pub TouchesNext : ℕ → Running Rest → Log → Way → Type 0
  TouchesNext frame next later way = (last : Running Rest) (end : Log) (other : Met) → LeadsPast frame next later last end
      → last.frame.number ≡ frame → TouchesPoint last end other → way.next ≡ Some other

  -- the run that begins in a state follows the flow of its program: wherever a frame touches a control point other than a `return` or
  -- the end of the body, and the run continues, it has left the point by a way that the flow of the function names, which shows; and the control
  -- point that this frame touches next, whatever frames run in between, is the one that the flow names for that way
  pub record FollowsFlow (program : TypedProgram) (start : Running Rest) : Type 0 where
    pub follows : (m next : Running Rest) (log later : Log) (one : Met) → Leads step setting start empty m log → TouchesPoint m log one
        → goes_on one.kind ≡ true → perform setting log (step m) ≡ Continues next later →
        (left : LeftBy (routine_of program m.frame.function) one log later) × TouchesNext m.frame.number next later left.way

  -- the first control point that a frame touches is the beginning of its function
  pub record BeginsFlow (program : TypedProgram) (start : Running Rest) : Type 0 where
    pub begins : (m : Running Rest) (log : Log) (one : Met) → LeadsPast m.frame.number start empty m log → TouchesPoint m log one
        → the_point Enter (routine_of program m.frame.function).at ≡ one

  -- after a control point that ends a function the frame touches no control point
  pub record EndsFlow (start : Running Rest) : Type 0 where
    pub ends : (m next : Running Rest) (log later : Log) (one : Met) → Leads step setting start empty m log → TouchesPoint m log one
        → goes_on one.kind ≡ false → perform setting log (step m) ≡ Continues next later → (last : Running Rest) (end : Log) (other : Met)
        → LeadsPast m.frame.number next later last end → last.frame.number ≡ m.frame.number → TouchesPoint last end other → ⊥

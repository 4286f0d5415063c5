-- Where `break`, `continue` and `goto` lead, inside of loops too: for the control points of statements.
use Rattle.cs_ast.specs.TypedProgram.{TypedProgram, Routine}
use Rattle.cs_cfg.specs.ControlPoints.{Next, Targets, in_loop, in_switch}
use Rattle.cs_cfg.specs.Graph.{Point, Flow}
use Rattle.cs_cfg.specs.GraphPoints.{MeetsNext}
use Rattle.cs_cfg.proofs.Starting as starting
use Rattle.cs_lower.specs.Statements.{labels_in, Aims}

module _ {program : TypedProgram} {routine : Routine} {flow : Flow} {to : Targets} {out again : Point} where
  -- the same, for the lemmas on the first control point
  pub aims_of : Aims program routine flow to out again → starting.Aims program flow routine (labels_in routine flow) to out again
  aims_of aims = record { out_meets = aims.out_meets; again_meets = aims.again_meets; labels_meet = aims.labels_meet }

  pub aims_from : starting.Aims program flow routine (labels_in routine flow) to out again → Aims program routine flow to out again
  aims_from aims = record { out_meets = aims.out_meets; again_meets = aims.again_meets; labels_meet = aims.labels_meet }

  -- in a loop, and in a `switch`
  pub aims_in_loop : (out' again' : Point) {out_next again_next : Next} → Aims program routine flow to out again → MeetsNext flow out' out_next
      → MeetsNext flow again' again_next →
      Aims program routine flow (in_loop to out_next again_next) out' again'
  aims_in_loop out' again' aims m m' = record { out_meets = m; again_meets = m'; labels_meet = aims.labels_meet }

  pub aims_in_switch : (out' : Point) {out_next : Next} → Aims program routine flow to out again → MeetsNext flow out' out_next
      → Aims program routine flow (in_switch to out_next) out' again
  aims_in_switch out' aims m = record { out_meets = m; again_meets = aims.again_meets; labels_meet = aims.labels_meet }

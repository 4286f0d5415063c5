-- The control points at the labels of a function.
use Rattle.std.specs.Prelude.{ℕ, ◌==◌, nat_eq, [], Option, Some, None, if◌then◌else◌}
use Rattle.std.specs.HashMap.{get}
use Rattle.cs_ast.specs.declared.place.Place.{Place}
use Rattle.cs_ast.specs.TypedTree.{Statement, Statements}
use Rattle.cs_events.specs.declared.point.PointKind.TheVariants as point
use Rattle.cs_meaning.specs.Jumps.{landing, landing_in}
use Rattle.cs_cfg.specs.ControlPoints.{Next, met, landed}
use Rattle.cs_flow.specs.declared.labels.Labels.{Labels}

-- the control point at a label, if the label is there
abbrev pub label_at : Option Place → Next
label_at None = None
label_at (Some at) = met point.Label at

-- the control point at each label, by a table of their positions
abbrev pub labels_of : Labels → ℕ → Next
labels_of labels label = label_at (get nat_eq labels.places label)

-- the control point at a label in a statement, or in consecutive statements
abbrev pub label_in : ℕ → Statement → Next
label_in label s = landed (landing label s 0 [])

abbrev pub label_in_list : ℕ → Statements → Next
label_in_list label statements = landed (landing_in label statements 0 [])

-- the control point at each label if there is only the one with a number
abbrev pub one_label : ℕ → Place → ℕ → Next
one_label label at wanted = if label == wanted then met point.Label at else None

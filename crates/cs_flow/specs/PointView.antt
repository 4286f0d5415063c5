-- Control points, seen as those read off a function's statements.
use Rattle.std.specs.Prelude.{List, [], map, Option}
use Rattle.std.specs.Option.{option_map}
use Rattle.cs_cfg.specs.ControlPoints as cfg
use Rattle.cs_flow.specs.declared.point.Met.{Met}
use Rattle.cs_flow.specs.declared.point.Exit.{Exit}
use Rattle.cs_flow.specs.declared.point.Exit.TheVariants.{Onward, Truth, Case}
use Rattle.cs_flow.specs.declared.point.Way.{Way}
use Rattle.cs_flow.specs.declared.point.ControlPoint.{ControlPoint}
use Rattle.cs_flow.specs.declared.points.Points.{Points}

abbrev pub met_of : Met → cfg.Met
met_of m = cfg.the_point m.kind m.place

-- a control point without its ways
abbrev pub from_of : Met → cfg.ControlPoint
from_of m = record { kind = m.kind; at = m.place; ways = [] }

abbrev pub next_of : Option Met → cfg.Next
next_of next = option_map met_of next

abbrev pub exit_of : Exit → cfg.Exit
exit_of Onward = cfg.Onward
exit_of (Truth holds) = cfg.TruthOf holds
exit_of (Case number) = cfg.CaseOf number

abbrev pub way_of : Way → cfg.Way
way_of way = cfg.way (exit_of way.exit) (next_of way.next)

abbrev pub point_of : ControlPoint → cfg.ControlPoint
point_of point = record { kind = point.kind; at = point.place; ways = map way_of point.ways.items }

-- the control points in file order
abbrev pub points_of : Points → List cfg.ControlPoint
points_of points = map point_of points.list.items

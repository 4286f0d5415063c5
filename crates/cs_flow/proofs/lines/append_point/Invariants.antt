-- Printed so far: the lines of the ways before the index.
use Rattle.std.proofs.Common.{◌≡◌, ◌++◌, map, drop}
use Rattle.std.specs.List.{flat_map}
use Rattle.cs_cfg.specs.FlowText.{way_line}
use Rattle.cs_flow.specs.PointView.{way_of, point_of}
use Rattle.cs_flow.proofs.lines.append_point.Given as goal

abbrev pub invariant-loop-way : goal.invariant-loop-way
invariant-loop-way l =
    l.text.items ++ flat_map (way_line l.files (point_of l.point)) (map way_of (drop l.way-index l.point.ways.items))
    ≡ l.initial.text.items ++ flat_map (way_line l.files (point_of l.point)) (map way_of l.point.ways.items)

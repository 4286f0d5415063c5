-- The ways of the cases before the index were pushed.
use Rattle.std.proofs.Common.{◌≡◌, ◌++◌, map, drop, length}
use Rattle.cs_cfg.specs.ControlPoints.{Next}
use Rattle.cs_flow.specs.PointView.{next_of, way_of}
use Rattle.cs_flow.specs.SwitchView.{ways_before}
use Rattle.cs_flow.proofs.switches.case_ways.Given as goal

abbrev pub invariant-loop-case : goal.invariant-loop-case
invariant-loop-case l =
    (otherwise : Next) → map way_of l.ways.items ++ ways_before (map next_of l.starts.items) (next_of l.following) (drop l.case-index l.cases)
    (length l.ways.items) otherwise ≡ ways_before (map next_of l.starts.items) (next_of l.following) l.cases 0 otherwise

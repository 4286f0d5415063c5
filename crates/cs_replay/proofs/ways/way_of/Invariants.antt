-- The cases before the index have other numbers.
use Rattle.std.proofs.Common.{◌≡◌, drop, map}
use Rattle.cs_cfg.specs.CodeSteps as steps
use Rattle.cs_cfg.specs.GraphView as view
use Rattle.cs_replay.proofs.ways.way_of.Given as goal

abbrev pub invariant-loop-case : goal.invariant-loop-case
invariant-loop-case l = steps.way_of (map view.switch_case (drop l.case-index l.cases)) l.otherwise l.number l.count
    ≡ steps.way_of (map view.switch_case l.cases) l.otherwise l.number 0

-- The cases before the index have their blocks.
use Rattle.std.proofs.Common.{◌≡◌, ◌++◌, drop, map}
use Rattle.cs_cfg.specs.GraphView.{switch_case}
use Rattle.cs_lower.specs.Switching.{cases_to}
use Rattle.cs_lower.proofs.context.Lowering.ways.Given as goal

abbrev pub invariant-loop-case : goal.invariant-loop-case
invariant-loop-case l = map switch_case l.ways.items ++ cases_to l.blocks l.end (drop l.case-index l.cases) ≡ cases_to l.blocks l.end l.cases

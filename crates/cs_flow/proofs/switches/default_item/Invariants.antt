-- There is no `default` before the index.
use Rattle.std.proofs.Common.{◌≡◌, drop}
use Rattle.cs_meaning.specs.Statements.{default_item}
use Rattle.cs_flow.proofs.switches.default_item.Given as goal

abbrev pub invariant-loop-case : goal.invariant-loop-case
invariant-loop-case l = default_item (drop l.case-index l.cases) l.otherwise ≡ default_item l.cases l.otherwise

-- `default` is not among the cases before the index.
use Rattle.std.proofs.Common.{◌≡◌, drop, length}
use Rattle.cs_meaning.specs.Statements.{default_item}
use Rattle.cs_lower.proofs.switches.default_block.Given as goal

abbrev pub invariant-loop-case : goal.invariant-loop-case
invariant-loop-case l = default_item (drop l.case-index l.cases) (length l.blocks) ≡ default_item l.cases (length l.blocks)

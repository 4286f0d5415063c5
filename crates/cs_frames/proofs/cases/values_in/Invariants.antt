-- The cases before the index were counted.
use Rattle.std.proofs.Common.{◌≡◌, ◌+◌, drop}
use Rattle.cs_meaning.specs.Statements as meaning
use Rattle.cs_frames.proofs.cases.values_in.Given as goal

abbrev pub invariant-loop-case : goal.invariant-loop-case
invariant-loop-case l = l.count + meaning.values_in (drop l.case-index l.cases) ≡ meaning.values_in l.cases

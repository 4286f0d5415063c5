-- The cases before the index have other numbers.
use Rattle.std.proofs.Common.{◌≡◌, drop}
use Rattle.cs_meaning.specs.Statements as meaning
use Rattle.cs_frames.proofs.cases.case_of.Given as goal

abbrev pub invariant-loop-case : goal.invariant-loop-case
invariant-loop-case l = meaning.case_of (drop l.case-index l.cases) l.number l.count ≡ meaning.case_of l.cases l.number 0

use Rattle.std.proofs.Common.{take, map}
use Rattle.cs_terms.specs.Term.{value_at}
use Rattle.cs_access.specs.Offsets.{AreTried}
use Rattle.cs_access.proofs.reaching.steps_at.Given as goal

abbrev pub invariant-loop-number : goal.invariant-loop-number
invariant-loop-number l = AreTried l.state l.offset (map (value_at l.offset) (take l.number-index l.number-items)) l.steps.items

use Rattle.std.proofs.Common.{ap}
use Rattle.cs_state.specs.Meaning.{meaning}
use Rattle.cs_state.specs.Writes.{with_constraints}
use Rattle.cs_state.proofs.state.State.narrowed.Goals as goal

pub returns : goal.returns
returns c =
    let same = c.in_ok-kept.ensures in
    let narrow = c.in-Some.constraints in (
      rw c.in-Some.is at c.in_ok-constraints.ensures,
      ap (with_constraints narrow) same,
      λ code names program valuation. ap (λ state. meaning code names program (with_constraints narrow state) valuation) same,
    )

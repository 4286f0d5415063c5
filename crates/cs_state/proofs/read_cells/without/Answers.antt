use Rattle.std.proofs.Common.{◌∙◌}
use Rattle.cs_store.proofs.Leaves.{bases_step}
use Rattle.cs_state.proofs.PlainCells.{left_then}
use Rattle.cs_state.proofs.read_cells.without.Goals as goal

pub loop-base-preserved : goal.loop-base-preserved
loop-base-preserved c =
    rw c.in_ok-remove.ensures.ok (
      λ b. bases_step _ _ c.loop-base.others b c.loop-base-test.true ∙ c.loop-base.invariant.0 b,
      λ key found e. c.loop-base.invariant.1 key found (left_then c.loop-base.others _ key found e),
    )

use Rattle.std.proofs.Common.{◌∙◌}
use Rattle.cs_state.proofs.PlainCells.{left_then}
use Rattle.cs_state.proofs.Reading.{leaf_out}
use Rattle.cs_state.proofs.read_cells.without_leaves.Goals as goal

pub loop-offset-preserved : goal.loop-offset-preserved
loop-offset-preserved c =
    rw c.in_ok-remove.ensures.ok (
      λ o. leaf_out _ _ _ c.loop-offset.others o c.loop-offset-test.true ∙ c.loop-offset.invariant.0 o,
      λ key sym e. c.loop-offset.invariant.1 key sym (left_then c.loop-offset.others _ key sym e),
    )

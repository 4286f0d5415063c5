use Rattle.std.proofs.Common.{◌∙◌}
use Rattle.cs_meaning.specs.Machine.{push}
use Rattle.cs_state.specs.Cells.{operand_of}
use Rattle.cs_progress.proofs.operands.replace.Goals as goal

pub returns-clause-means : goal.returns-clause-means
returns-clause-means c = λ code names program v.
    let dropped = c.in_ok-drop_newest.ensures in
    c.in_ok-push.ensures.means code names program v
    ∙ (λ j. push (operand_of names.bases (dropped.blocks j) v c.args.left) (dropped.means code names program v j))

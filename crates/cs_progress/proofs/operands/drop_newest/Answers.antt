use Rattle.std.proofs.Common.{length, ap, ◌∙◌, arith}
use Rattle.cs_progress.proofs.OperandsMean.{dropped}
use Rattle.cs_progress.proofs.operands.drop_newest.Goals as goal

pub returns-clause-means : goal.returns-clause-means
returns-clause-means c =
    dropped c.args.state.now c.cut.new.self _ c.args.count
    (omega (arith, c.if-count-length.false) ∙ ap length c.as_slice-length.ensures) c.cut.ensures

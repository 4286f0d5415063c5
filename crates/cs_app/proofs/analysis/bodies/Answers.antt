use Rattle.std.proofs.Common.{arith}
use Rattle.cs_app.proofs.AnalysisLemmas.{body_added}
use Rattle.cs_app.proofs.analysis.bodies.Goals as goal

pub loop-number-preserved : goal.loop-number-preserved
loop-number-preserved c =
    body_added c.args.program.now c.loop-number.number c.function-item.result c.loop-number.list.items c.add_body.new.list.items (omega arith)
    (rw c.deref-function-items.ensures.value at c.function-item.is) c.loop-number.invariant c.in_ok-add_body.ensures

use Rattle.std.proofs.Common.{refl}
use Rattle.cs_cfg.specs.Graph as graph
use Rattle.cs_cfg.specs.Working.{do_work}
use Rattle.cs_progress.proofs.Looks.{leads_same}
use Rattle.cs_steps.proofs.Working.{works_dropped}
use Rattle.cs_steps.proofs.work.drop_operand.Goals as goal

pub returns : goal.returns
returns c = λ model given at progress code names program budgets known is extends numbered have integer.
    let state = c.args.state.now in
    works_dropped code names program known state c.drop_newest.new.state progress progress c.drop_newest.result
    (do_work code program budgets at graph.Drop) state refl have 1
    c.drop_newest.ensures.left c.drop_newest.ensures.means c.drop_newest.ensures.memory
    (λ todo cells v fits. leads_same cells _ _ _ refl)

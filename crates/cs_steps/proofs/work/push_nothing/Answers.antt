use Rattle.std.proofs.Common.{refl}
use Rattle.cs_cfg.specs.Graph as graph
use Rattle.cs_cfg.specs.Working.{do_work}
use Rattle.cs_state.specs.declared.temporary.Temporary.TheVariants.{Nothing}
use Rattle.cs_progress.proofs.Looks.{leads_same}
use Rattle.cs_steps.proofs.Dispatching.{works_pushed}
use Rattle.cs_steps.proofs.work.push_nothing.Goals as goal

pub returns : goal.returns
returns c = λ model given at progress code names program budgets known is extends numbered have integer.
    works_pushed code names program known c.args.state.now progress progress (do_work code program budgets at graph.Nothing)
    c.push_operand.new.state c.push_operand.result have Nothing tt
    c.push_operand.ensures.pushed c.push_operand.ensures.means c.push_operand.ensures.memory
    (λ todo cells v fits. leads_same cells _ _ _ refl)

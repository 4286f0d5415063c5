use Rattle.std.proofs.Common.{List, map, reverse, ap, ◌∙◌}
use Rattle.cs_meaning.specs.Machine as machine
use Rattle.cs_meaning.specs.Machine.{with_stack}
use Rattle.cs_values.specs.declared.objects.Operand.{Operand}
use Rattle.cs_values.specs.View.{operand_of}
use Rattle.cs_run_state.specs.MachineView.{state_of}
use Rattle.cs_replay.proofs.Cutting.{below_are}
use Rattle.cs_replay.proofs.operands.cut.Goals as goal

pub returns : goal.returns
unfolding state_of
returns c =
    let m = c.args.state.now in
    ap (λ (operands : List machine.Operand). with_stack operands (state_of m)) (ap (λ (l : List Operand). reverse (map operand_of l)) c.truncate.ensures.items
    ∙ below_are operand_of m.frame.stack.items c.args.number)

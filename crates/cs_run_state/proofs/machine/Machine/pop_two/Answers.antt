use Rattle.std.proofs.Common.{ap, ◌∙◌}
use Rattle.cs_meaning.specs.Machine.{State, pop}
use Rattle.cs_run_state.specs.MachineView.{state_of}
use Rattle.cs_run_state.proofs.States.{pop-pop}
use Rattle.cs_run_state.proofs.machine.Machine.pop_two.Goals as goal

pub returns-clause-state : goal.returns-clause-state
returns-clause-state c =
    c.pop_cell-older.ensures.state ∙ (ap (λ (m : State). pop m) c.pop_cell-newer.ensures.state ∙ pop-pop (state_of c.args.self.now))

use Rattle.std.proofs.Common.{ap, ◌∙◌}
use Rattle.cs_meaning.specs.Machine.{State, pop_many}
use Rattle.cs_run_state.specs.MachineView.{state_of}
use Rattle.cs_run_state.proofs.States.{pop-many}
use Rattle.cs_run_state.proofs.machine.Machine.pop_moved.Goals as goal

pub returns-clause-state : goal.returns-clause-state
returns-clause-state c =
    c.pop_stored-target.ensures.state ∙ (ap (λ (m : State). pop_many 2 m) c.pop_number-amount.ensures.state ∙ pop-many 2 (state_of c.args.self.now))

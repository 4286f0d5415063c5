use Rattle.std.proofs.Common.{ap, ◌∙◌}
use Rattle.cs_meaning.specs.Machine.{State, pop}
use Rattle.cs_run_state.specs.MachineView.{state_of}
use Rattle.cs_run_state.proofs.States.{pop-pop}
use Rattle.cs_run_state.proofs.machine.Machine.pop_numbers.Goals as goal

pub returns-clause-state : goal.returns-clause-state
returns-clause-state c =
    c.pop_number-older.ensures.state ∙ (ap (λ (m : State). pop m) c.pop_number-newer.ensures.state ∙ pop-pop (state_of c.args.self.now))

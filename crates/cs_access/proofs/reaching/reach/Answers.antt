use Rattle.cs_access.proofs.Stepping.{number_reached, no_symbol}
use Rattle.cs_access.proofs.reaching.reach.Goals as goal

pub one_step-requires-clause-number : goal.one_step-requires-clause-number
one_step-requires-clause-number c =
    no_symbol c.args.state.now.constraints c.args.offset.sym c.requires.declared c.in-None.ensures

pub returns-in_ok-steps-in-None : goal.returns-in_ok-steps-in-None
returns-in_ok-steps-in-None c =
    number_reached c.args.state.now c.args.offset c.args.splits c.in_ok-steps-in-None.steps.items
    (no_symbol c.args.state.now.constraints c.args.offset.sym c.requires.declared c.in-None.ensures) c.in_ok-steps-in-None.ensures

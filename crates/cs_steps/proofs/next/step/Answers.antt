use Rattle.cs_state.specs.Naming.{naming}
use Rattle.cs_steps.proofs.next.step.Goals as goal

pub returns-in-CountedPoint-clause-steps : goal.returns-in-CountedPoint-clause-steps
returns-in-CountedPoint-clause-steps g c = λ every. c.reach.ensures.steps (naming c.args.tables.now) c.in-CountedPoint.ensures.first

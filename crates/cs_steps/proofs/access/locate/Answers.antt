use Rattle.cs_steps.proofs.access.locate.Goals as goal

pub returns-then-access-clause-act : goal.returns-then-access-clause-act
returns-then-access-clause-act g c = λ direct bases named.
    c.locate_variable.ensures.act bases named c.args.access.now.place c.args.attempt.now.progress

use Rattle.cs_results.specs.declared.run.Others.TheVariants.{One, Two}
use Rattle.cs_judge.proofs.Candidates.{refused}
use Rattle.cs_judge.proofs.choosing.one_or_two.Goals as goal

pub returns-in-None-clause-found : goal.returns-in-None-clause-found
returns-in-None-clause-found c (One number) (One pair) candidate ground = absurd (refused (c.in-None.ensures.found number pair candidate) ground)
returns-in-None-clause-found c (Two one two) (Two first second) are ground = c.two_together.ensures.found one two first second are.0 are.1 ground
returns-in-None-clause-found c (One number) (Two first second) are ground = absurd are
returns-in-None-clause-found c (Two one two) (One pair) are ground = absurd are

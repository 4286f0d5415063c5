use Rattle.std.proofs.Common.{rules, IsTrue, ◌<◌, below_more, arith}
use Rattle.cs_judge.proofs.Candidates.{refused}
use Rattle.cs_judge.proofs.Finding.{some_item}
use Rattle.cs_judge.proofs.Meetings.{is_there}
use Rattle.cs_judge.proofs.judging.Judge.is_certificate.Goals as goal

pub loop-number-preserved : goal.loop-number-preserved
loop-number-preserved c =
    let passes : IsTrue c.passes.result = search rules in
    below_more _ _ c.loop-number.invariant (c.passes.ensures.real passes)

pub returns-clause-real : goal.returns-clause-real
returns-clause-real c passes number mine there =
    let within = is_there c.args.self.now.pool.now number mine there in
    let before : number < c.loop-number.number = grind (arith, c.loop-number-test.false) in
    c.loop-number.invariant number before mine there

pub returns-then-not-passes-clause-convinced : goal.returns-then-not-passes-clause-convinced
returns-then-not-passes-clause-convinced c all =
    let it = some_item c.args.self.now.pool.now c.loop-number.number c.loop-number-test.true in
    absurd (refused (c.if-not-passes.ensures.convinced it.0 it.1) (λ place within. all c.loop-number.number it.0 place it.1 within))

use Rattle.std.proofs.Common.{IsTrue, rules}
use Rattle.cs_judge.proofs.Spots.{judged}
use Rattle.cs_judge.proofs.judging.Judge.is_shown.Goals as goal

pub returns-then-has_reason-clause-real : goal.returns-then-has_reason-clause-real
returns-then-has_reason-clause-real c free =
    let reason : IsTrue c.has_reason.result = search rules in
    judged c.args.self.now.pool.now c.args.mine.now c.args.spot.now c.requires.ready.notes c.args.self.now.model c.args.partners.now c.in-Some.pairs
    c.requires.named c.in-Some.ensures.meet (c.has_reason.ensures.ground reason) (c.has_reason.ensures.used reason) (c.is_free.ensures.left free)
    (c.is_free.ensures.right free)

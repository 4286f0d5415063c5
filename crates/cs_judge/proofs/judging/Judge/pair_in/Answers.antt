use Rattle.std.proofs.Common.{IsTrue, rules}
use Rattle.cs_judge.proofs.Candidates.{refused}
use Rattle.cs_judge.proofs.Meetings.{if_some}
use Rattle.cs_judge.proofs.Spots.{within_pool, partner, partner_comes}
use Rattle.cs_judge.proofs.judging.Judge.pair_in.Goals as goal

pub returns-in_err-other-clause-found : goal.returns-in_err-other-clause-found
returns-in_err-other-clause-found c pair able it =
    let within = within_pool c.args.self.now.pool.now c.args.number it.other it.there in
    absurd (refused c.in_err-other.ensures.found within)

pub returns-then-comes_too-clause-meets : goal.returns-then-comes_too-clause-meets
returns-then-comes_too-clause-meets c =
    let comes : IsTrue c.comes_too.result = search rules in
    if_some c.pair_at.result
    (partner c.args.self.now.pool.now c.args.mine.now c.args.spot.now c.in_ok-other.other.now c.args.number c.in_ok-other.ensures.there
    (c.comes_too.ensures.0 comes)) c.pair_at.ensures.kept

pub returns-then-comes_too-clause-found : goal.returns-then-comes_too-clause-found
returns-then-comes_too-clause-found c pair able it =
    let comes = partner_comes c.args.self.now.pool.now c.args.mine.now c.args.spot.now c.in_ok-other.other.now c.args.number c.in_ok-other.ensures.there
    pair it in
    c.pair_at.ensures.found pair able comes.1

pub returns-else-comes_too-clause-found : goal.returns-else-comes_too-clause-found
returns-else-comes_too-clause-found c pair able it =
    let comes = partner_comes c.args.self.now.pool.now c.args.mine.now c.args.spot.now c.in_ok-other.other.now c.args.number c.in_ok-other.ensures.there
    pair it in
    absurd (refused c.if-comes_too.ensures.1 comes.0)

use Rattle.std.proofs.Common.{rules, IsTrue, ◌<◌, below_more, arith}
use Rattle.cs_judge.proofs.Meetings.{is_there}
use Rattle.cs_judge.proofs.judging.Judge.each_passes.Goals as goal

pub loop-place-preserved : goal.loop-place-preserved
loop-place-preserved c =
    let passes : IsTrue c.guess_passes.result = search rules in
    below_more _ _ c.loop-place.invariant (c.guess_passes.ensures.real passes)

pub returns-clause-real : goal.returns-clause-real
returns-clause-real c passes place guess there =
    let within = is_there c.args.mine.now.run.guesses.items place guess there in
    let before : place < c.loop-place.place = grind (arith, c.loop-place-test.false, c.len-place-end.ensures) in
    c.loop-place.invariant place before guess there

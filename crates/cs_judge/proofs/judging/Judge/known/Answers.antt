use Rattle.cs_judge.proofs.judging.Judge.known.Goals as goal

pub returns-in-Some : goal.returns-in-Some
returns-in-Some c = c.requires.seated c.args.number c.args.replay.now c.in-Some.share c.requires.there c.in-Some.ensures

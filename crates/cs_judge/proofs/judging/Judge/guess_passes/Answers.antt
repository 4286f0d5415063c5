use Rattle.std.proofs.Common.{map}
use Rattle.cs_judge.specs.Proving.{bare}
use Rattle.cs_judge.proofs.judging.Judge.guess_passes.Goals as goal

pub returns-in-None-clause-convinced : goal.returns-in-None-clause-convinced
returns-in-None-clause-convinced c it =
    let proof = it.proves in
    c.in-None.ensures.found (map bare c.args.self.now.pool.now) proof.guess proof.passed proof.at proof.operation proof.guessed

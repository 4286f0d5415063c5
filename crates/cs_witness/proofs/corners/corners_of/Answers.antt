use Rattle.cs_findings.specs.Runs.{run_of}
use Rattle.cs_witness.proofs.CornerLemmas.{if_ok, right_runs, left_runs}
use Rattle.cs_witness.proofs.corners.corners_of.Goals as goal

pub returns-in-None : goal.returns-in-None
returns-in-None c =
    let guess = c.args.guess.now in
    if_ok c.ends_of.result (λ made each. right_runs guess.guess.event (run_of c.args.run.now) guess.left guess.right made.items c.in-None.is each)
    c.ends_of.ensures

pub returns-in-None-right : goal.returns-in-None-right
returns-in-None-right c =
    let guess = c.args.guess.now in
    if_ok c.two_of.result
    (λ made each. left_runs guess.guess.event (run_of c.args.run.now) guess.left guess.right c.in-Some.left made.items c.in-Some.is c.in-None-right.is each)
    c.two_of.ensures

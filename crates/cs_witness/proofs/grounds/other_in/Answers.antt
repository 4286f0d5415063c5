use Rattle.std.proofs.Common.{IsTrue, ap, ◌∙◌, rules}
use Rattle.std.specs.Map.{keys_of}
use Rattle.std.proofs.lemmas.Option.{slice_get_within}
use Rattle.cs_meaning.specs.ProgramRuns.{ProgramRun}
use Rattle.cs_witness.proofs.grounds.other_in.Goals as goal

pub returns-in_ok-run-in-Some-clause-run : goal.returns-in_ok-run-in-Some-clause-run
returns-in_ok-run-in-Some-clause-run c =
    let yes : IsTrue c.same_paths.result = search rules in
    record {
      replay = c.in-Some.replay.now;
      there = c.in-Some.ensures.there;
      same = c.in_ok-run-in-Some.ensures;
      paths = ap (λ (r : ProgramRun). keys_of r.inputs) c.in_ok-run-in-Some.ensures ∙ c.same_paths.ensures.0 yes;
    }

pub returns-in-None-clause-found : goal.returns-in-None-clause-found
returns-in-None-clause-found c alike =
    let within = slice_get_within c.args.pool.now c.args.number alike.replay alike.there in
    let some = c.replay_at.ensures.found within in
    rw c.in-None.is at some

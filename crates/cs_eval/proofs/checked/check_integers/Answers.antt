use Rattle.std.proofs.lemmas.Result.{on_ok_weaker}
use Rattle.cs_eval.proofs.CheckedTerms.{integers_between}
use Rattle.cs_eval.proofs.checked.check_integers.Goals as goal

pub returns-clause-integers : goal.returns-clause-integers
returns-clause-integers c =
    on_ok_weaker c.check_between.result (integers_between c.args.constraints.now c.args.term) c.check_between.ensures

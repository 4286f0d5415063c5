use Rattle.cs_eval.proofs.CheckedTerms.{wide_values, prepared_several}
use Rattle.cs_eval.proofs.checked.ready_part.Goals as goal

pub prepared-part-requires-clause-values : goal.prepared-part-requires-clause-values
prepared-part-requires-clause-values c = wide_values c.args.constraints.now c.args.term c.in_ok-check_wide.ensures

pub returns-clause-several : goal.returns-clause-several
returns-clause-several c =
    prepared_several c.args.constraints.now c.args.term c.prepared-part.result c.prepared-part.ensures.constant c.prepared-part.ensures.function

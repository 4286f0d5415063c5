use Rattle.bench_parts.proofs.Values.{values_inside}
use Rattle.bench_parts.proofs.terms.stays.Goals as goal

pub stays_within-requires-clause-term : goal.stays_within-requires-clause-term
stays_within-requires-clause-term c = c.term_of.ensures.term

pub stays_within-requires-clause-values : goal.stays_within-requires-clause-values
stays_within-requires-clause-values c = values_inside c.args.digits.now c.term_of.result c.requires c.term_of.ensures.values

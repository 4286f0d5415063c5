use Rattle.bench_parts.proofs.Values.{values_inside}
use Rattle.bench_parts.proofs.terms.pieces.Goals as goal

pub wrap_pieces-requires-clause-term : goal.wrap_pieces-requires-clause-term
wrap_pieces-requires-clause-term c = c.term_of.ensures.term

pub wrap_pieces-requires-clause-values : goal.wrap_pieces-requires-clause-values
wrap_pieces-requires-clause-values c = values_inside c.args.digits.now c.term_of.result c.requires c.term_of.ensures.values

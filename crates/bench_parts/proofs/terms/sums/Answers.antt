use Rattle.std.proofs.Common.{refl}
use Rattle.cs_terms.proofs.Small.{CanAdd-small}
use Rattle.bench_parts.proofs.Values.{twice_inside}
use Rattle.bench_parts.proofs.terms.sums.Goals as goal

pub add-requires-clause-left : goal.add-requires-clause-left
add-requires-clause-left c = c.term_of-term.ensures.term

pub add-requires-clause-right : goal.add-requires-clause-right
add-requires-clause-right c = c.term_of-term.ensures.term

pub add-requires-clause-room : goal.add-requires-clause-room
add-requires-clause-room c =
    CanAdd-small c.term_of-term.result c.term_of-term.result c.term_of-term.ensures.small c.term_of-term.ensures.small (λ one. refl)

pub stays_within-requires-clause-term : goal.stays_within-requires-clause-term
stays_within-requires-clause-term c = c.in-Some.ensures.term

pub stays_within-requires-clause-values : goal.stays_within-requires-clause-values
stays_within-requires-clause-values c =
    twice_inside c.args.digits.now c.term_of-term.result c.in-Some.sum c.requires c.term_of-term.ensures.values
    (λ x. c.in-Some.ensures.value (λ symbol. x))

use Rattle.std.proofs.Common.{arith}
use Rattle.std.proofs.lemmas.Int.{ints}
use Rattle.bench_parts.proofs.Values.{near_value}
use Rattle.bench_parts.proofs.terms.term_of.Goals as goal

pub returns-clause-values : goal.returns-clause-values
returns-clause-values c =
    λ x digit. near_value _ _ _ x (omega (arith, ints, c.from.ensures)) (omega (arith, ints, c.from-2.ensures)) (omega (arith, ints, c.from-3.ensures)) digit

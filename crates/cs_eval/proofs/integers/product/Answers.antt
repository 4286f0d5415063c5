use Rattle.std.proofs.Common.{sym}
use Rattle.cs_eval.proofs.integers.product.Goals as goal

pub product_pieces-requires-clause-values : goal.product_pieces-requires-clause-values
product_pieces-requires-clause-values c = λ x member.
    c.in_ok-check_integers.ensures.integers.values c.in-Some.sym c.in-Some-range_of.range.now c.in-Some.is (sym c.in-Some-range_of.ensures.set) x
    member

use Rattle.std.proofs.Common.{arith}
use Rattle.std.proofs.lemmas.Int.{ints}
use Rattle.cs_ranges.specs.Interval.{in_interval}
use Rattle.cs_terms.proofs.near.zero_cofactors.Goals.{else-products-le0-via-then-products-le0+else-products-ge0, else-products-le0-via-else-products-le0}
use Rattle.cs_terms.proofs.near.zero_cofactors.Goals as goal

pub returns-then-products-ge0-clause-numbers : goal.returns-then-products-ge0-clause-numbers
unfolding in_interval
returns-then-products-ge0-clause-numbers c = λ x h. grind (arith, ints)

pub returns-else-products-le0-clause-numbers : goal.returns-else-products-le0-clause-numbers
unfolding in_interval
returns-else-products-le0-clause-numbers c = λ x h. elim c.else-products-le0.branch [
  | else-products-le0-via-then-products-le0+else-products-ge0 w ↦ grind (arith, ints)
  | else-products-le0-via-else-products-le0 w ↦ grind (arith, ints)
]

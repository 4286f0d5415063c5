use Rattle.std.proofs.Common.{rules, ◌≡◌, ◌-ℤ◌, neg_ℤ, pos, arith, to_z, of_z}
use Rattle.std.specs.Int.{w128}
use Rattle.std.proofs.lemmas.Int.{ints}
use Rattle.cs_terms.proofs.Values.{value_with-neg_ℤ}
use Rattle.cs_terms.proofs.arithmetic.diff.Goals as goal

pub returns-clause-value : goal.returns-clause-value
returns-clause-value c =
    let slope : to_z w128 (of_z w128 (pos 0 -ℤ to_z w128 (of_z w128 c.args.right.slope))) ≡ neg_ℤ c.args.right.slope = search rules in
    let at : to_z w128 (of_z w128 c.args.right.at) ≡ c.args.right.at = search rules in
    let value : to_z w128 (of_z w128 (pos 0 -ℤ to_z w128 (of_z w128 c.args.right.value))) ≡ neg_ℤ c.args.right.value = search rules in
    λ v. rw (slope, at, value) (omega (arith, ints, value_with-neg_ℤ v c.args.right.sym c.args.right.slope c.args.right.at c.args.right.value))

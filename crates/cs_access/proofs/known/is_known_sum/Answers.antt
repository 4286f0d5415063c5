use Rattle.std.proofs.Common.{◌≡◌, to_z, of_z, refl, arith, rules}
use Rattle.std.proofs.lemmas.Int.{ints}
use Rattle.std.specs.Int.{w128}
use Rattle.cs_access.proofs.known.is_known_sum.Goals as goal

pub returns : goal.returns
returns c = λ yes.
    let first : to_z w128 (of_z w128 c.args.sum.first.value) ≡ c.args.sum.first.value = search rules in
    let second : to_z w128 (of_z w128 c.args.sum.second.value) ≡ c.args.sum.second.value = search rules in
    let inside = c.is_sum_inside.ensures yes in
    record {
      first_number = c.if-not-is_number.ensures refl;
      second_number = c.if-not-is_number-2.ensures refl;
      inside = (omega (arith, ints, inside.0, first, second), omega (arith, ints, inside.1, first, second));
    }

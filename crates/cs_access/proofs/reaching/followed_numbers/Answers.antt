use Rattle.std.proofs.Common.{◌≡◌, to_z, of_z, rules}
use Rattle.std.specs.Int.{w128}
use Rattle.cs_access.proofs.FaultyValues.{if_ok_map}
use Rattle.cs_access.proofs.Ascending.{followed_are}
use Rattle.cs_access.proofs.reaching.followed_numbers.Goals as goal

pub returns : goal.returns
returns c =
    let least : to_z w128 (of_z w128 c.in-Some.least) ≡ c.in-Some.least = search rules in
    let nearest : to_z w128 (of_z w128 c.in-Some-least_abs.nearest) ≡ c.in-Some-least_abs.nearest = search rules in
    let greatest : to_z w128 (of_z w128 c.in-Some-greatest.greatest) ≡ c.in-Some-greatest.greatest = search rules in
    if_ok_map c.each_once.result c.each_once.ensures (λ numbers each.
    followed_are c.args.set.now c.in-Some.least c.in-Some-least_abs.nearest c.in-Some-greatest.greatest numbers.items c.in-Some.ensures.least
    c.in-Some-least_abs.ensures c.in-Some-greatest.ensures.greatest (rw (least, nearest, greatest) at each))

use Rattle.std.proofs.Common.{FitsSigned}
use Rattle.std.specs.Int.{w128}
use Rattle.std.proofs.lemmas.Int.{to_z-of_z}
use Rattle.cs_witness.proofs.neighbours.with_number.Goals as goal

pub returns : goal.returns
returns c =
    let fits : FitsSigned w128 c.args.number = c.ranges.number in
    let plain = to_z-of_z w128 c.args.number fits in
    rw (plain, c.in_ok-copied.ensures, c.in_ok-made.ensures) at c.in_ok-set.ensures.ok

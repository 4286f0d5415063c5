use Rattle.std.proofs.Common.{[], ◌∷◌}
use Rattle.std.specs.Int.{w128}
use Rattle.std.proofs.lemmas.Int.{to_z-of_z}
use Rattle.cs_findings.specs.Runs.{run_of}
use Rattle.cs_witness.proofs.CornerLemmas.{corner_more}
use Rattle.cs_witness.proofs.corners.both_of.Goals as goal

pub returns : goal.returns
returns c =
    let first = to_z-of_z w128 c.args.first c.ranges.first in
    let second = to_z-of_z w128 c.args.second c.ranges.second in
    corner_more ((c.args.left.now.symbol, c.args.first) ∷ []) c.args.right.now.symbol c.args.second c.args.event (run_of c.args.run.now)
    (run_of c.in_ok-corner.corner) (run_of c.put.new.run) (rw first at c.in_ok-corner.ensures) (rw second at c.in_ok-put.ensures)

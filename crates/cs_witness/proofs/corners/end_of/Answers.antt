use Rattle.std.proofs.Common.{[]}
use Rattle.std.specs.Int.{w128}
use Rattle.std.proofs.lemmas.Int.{to_z-of_z}
use Rattle.cs_findings.specs.Runs.{run_of}
use Rattle.cs_witness.proofs.CornerLemmas.{corner_more}
use Rattle.cs_witness.proofs.corners.end_of.Goals as goal

pub returns : goal.returns
returns c =
    let plain = to_z-of_z w128 c.args.number c.ranges.number in
    corner_more [] c.args.symbol.now c.args.number c.args.event (run_of c.args.run.now) (run_of c.in_ok-corner.corner) (run_of c.put.new.run)
    c.in_ok-corner.ensures (rw plain at c.in_ok-put.ensures)

use Rattle.std.specs.Int.{w128}
use Rattle.std.proofs.lemmas.Int.{to_z-of_z}
use Rattle.cs_findings.specs.Runs.{run_of}
use Rattle.cs_witness.proofs.CornerLemmas.{path_put}
use Rattle.cs_witness.proofs.corners.put.Goals as goal

pub returns-in_ok-put_input-in-Input : goal.returns-in_ok-put_input-in-Input
returns-in_ok-put_input-in-Input c =
    let plain = to_z-of_z w128 c.args.number c.ranges.number in
    path_put c.args.symbol.now c.in-Input.path c.args.number (run_of c.args.run.now) c.put_input.new.inputs c.in-Input.is
    (rw plain at c.in_ok-put_input-in-Input.ensures)

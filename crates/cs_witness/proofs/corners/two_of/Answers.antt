use Rattle.std.proofs.Common.{FitsSigned, rules}
use Rattle.std.specs.Int.{w128}
use Rattle.std.proofs.lemmas.Int.{to_z-of_z}
use Rattle.cs_findings.specs.Runs.{run_of}
use Rattle.cs_witness.proofs.CornerLemmas.{pushed_two, two_runs}
use Rattle.cs_witness.proofs.corners.two_of.Goals as goal

pub returns : goal.returns
returns c =
    let range = c.args.range.now in
    let low : FitsSigned w128 range.least = search rules in
    let high : FitsSigned w128 range.greatest = search rules in
    let one = to_z-of_z w128 range.least low in
    let other = to_z-of_z w128 range.greatest high in
    let least = c.in_ok-end_of.field-0 in
    let greatest = c.in_ok-end_of-2.field-0 in
    let pushed = pushed_two c.new-corners.result.items c.push.new.self.items c.push-2.new.self.items least greatest c.new-corners.ensures.items
    c.in_ok-push.ensures.items c.in_ok-push-2.ensures.items in
    two_runs c.args.event (run_of c.args.run.now) range c.push-2.new.self.items least greatest pushed (rw one at c.in_ok-end_of.ensures)
    (rw other at c.in_ok-end_of-2.ensures)

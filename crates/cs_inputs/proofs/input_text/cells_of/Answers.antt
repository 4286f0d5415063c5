use Rattle.std.proofs.Common.{◌<◌, length, arith}
use Rattle.std.proofs.lemmas.Bool.Decides.{nat_tests}
use Rattle.cs_inputs.proofs.CellCuts.{one_more, not_read}
use Rattle.cs_inputs.proofs.input_text.cells_of.Goals as goal

pub loop-rest-preserved : goal.loop-rest-preserved
loop-rest-preserved c =
    rw c.in_ok-push.ensures.ok (one_more c.args.text.now c.loop-rest.cells c.loop-rest.rest.now c.in-Some.offset c.in-Some.following.now c.loop-rest.invariant
    c.in-Some.ensures)

pub returns-in_default : goal.returns-in_default
returns-in_default c =
    let some : 0 < length c.loop-rest.rest.now = grind (arith, nat_tests) in
    not_read c.args.text.now c.loop-rest.cells c.loop-rest.rest.now c.loop-rest.invariant some c.in_default.ensures

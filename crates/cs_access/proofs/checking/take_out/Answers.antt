use Rattle.std.proofs.Common.{inr, refl}
use Rattle.cs_access.specs.declared.checking.FaultyPart.{FaultyPart}
use Rattle.cs_access.proofs.Splits.{part_of}
use Rattle.cs_access.proofs.checking.take_out.Goals as goal

pub returns-in_ok-push-in-Some : goal.returns-in_ok-push-in-Some
returns-in_ok-push-in-Some c =
    let kept = rw c.in-Some.is at c.in_ok-state.ensures in
    let part : FaultyPart = record { kind = c.args.kind; state = c.in-Some.state } in
    let is = part_of c.args.state.now c.args.term c.args.bad.now c.in-Some.state kept.0 kept.1 kept.2 in
    inr (part, refl, is, c.in_ok-push-in-Some.ensures.items)

use Rattle.std.proofs.Common.{rules, sym}
use Rattle.std.specs.Int.{w128}
use Rattle.std.proofs.lemmas.Int.{to_z-of_z}
use Rattle.std.proofs.lemmas.Result.{on_ok_weaker}
use Rattle.cs_terms.specs.Term.{IsTerm}
use Rattle.cs_eval.proofs.CheckedTerms.{over_symbol}
use Rattle.cs_eval.proofs.checked.check_between.Goals as goal

pub returns : goal.returns
returns c =
    let low = to_z-of_z w128 c.args.low c.ranges.low in
    let high = to_z-of_z w128 c.args.high c.ranges.high in
    let is_term : IsTerm c.args.term = search rules in
    on_ok_weaker c.check_over.result
    (λ h.
    over_symbol c.args.constraints.now c.args.low c.args.high c.args.term c.in-Some.sym c.in-Some-range_of.range.now c.in-Some.is
    (sym c.in-Some-range_of.ensures.set) is_term (rw (low, high) at h))
    c.check_over.ensures

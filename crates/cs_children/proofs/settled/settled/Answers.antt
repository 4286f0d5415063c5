use Rattle.std.proofs.Common.{◌≡◌, to_z, of_z, sym, ap, subst, rules}
use Rattle.std.proofs.lemmas.Result.{IfOk-weaker}
use Rattle.std.specs.Int.{w128}
use Rattle.std.specs.Prelude.{IfOk}
use Rattle.cs_pieces.specs.Settled.{IsSettled, IsConstantAt}
use Rattle.cs_children.proofs.SettledAnswers.{constant_settled, term_settled}
use Rattle.cs_children.proofs.settled.settled.Goals as goal

pub returns-in-Some-is_single : goal.returns-in-Some-is_single
returns-in-Some-is_single c =
    let only = c.in-Some-is_single.only in
    let same : to_z w128 (of_z w128 only) ≡ only = search rules in
    IfOk-weaker c.settled_at.result (IsConstantAt c.args.answer only) (IsSettled c.args.before.now c.args.guess c.args.answer)
    (λ made at. constant_settled c.args.before.now c.args.guess c.args.answer c.in-Some.sym c.in-Some.is c.in-Some-range_of.range.now
    (sym c.in-Some-range_of.ensures.set) only c.in-Some-is_single.ensures made at)
    (subst (λ number. IfOk c.settled_at.result (IsConstantAt c.args.answer number)) same c.settled_at.ensures)

pub returns-in-None : goal.returns-in-None
returns-in-None c =
    term_settled c.args.before.now c.args.guess c.args.answer c.in-Some.sym c.in-Some.is c.in-Some-range_of.range.now
    (sym c.in-Some-range_of.ensures.set) (λ level. c.if-answer-eq0.false (ap (of_z w128) level)) c.in-Some-range_of.ensures.inhabited c.in-None.ensures

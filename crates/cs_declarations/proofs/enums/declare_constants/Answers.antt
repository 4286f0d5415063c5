use Rattle.std.proofs.Common.{◌≡◌, rules, Err, refl, sym, subst, ◌∙◌, pos, FitsSigned, to_z}
use Rattle.std.specs.Int.{w128}
use Rattle.std.proofs.lemmas.Int.{to_z-of_z}
use Rattle.cs_declarations.specs.Answered.{AnswersWith}
use Rattle.cs_declarations.specs.Bodies.{constant_declared, constants_declared}
use Rattle.cs_declarations.specs.View.{counting}
use Rattle.cs_declarations.proofs.FoldedSoFar.{GoesOver, part_taken, part_stops}
use Rattle.cs_declarations.proofs.enums.declare_constants.Goals as goal

constants_over : GoesOver constants_declared constant_declared
constants_over = (λ es e so_far. refl, λ so_far. refl)

pub returns-in_err-next-clause-reported : goal.returns-in_err-next-clause-reported
returns-in_err-next-clause-reported c =
    let whole = constants_declared c.args.constants.now (counting (pos 0) c.args.known.now) in
    let e : c.from_residual.result ≡ Err c.in_err-next.field-0.0 = search rules in
    subst (λ r. AnswersWith counting whole r c.declare_constant.new.known) (sym e)
    (part_stops constants_declared constant_declared constants_over c.args.constants.now c.loop-constant.constant-index c.constant-item.result whole
    (counting (to_z w128 c.loop-constant.next-bits) c.loop-constant.known) c.in_err-next.field-0.0 c.loop-constant-test.true c.constant-item.is
    c.loop-constant.invariant.reported c.in_err-next.ensures.reported)

pub loop-constant-preserved : goal.loop-constant-preserved
loop-constant-preserved c =
    let whole = constants_declared c.args.constants.now (counting (pos 0) c.args.known.now) in
    let fits : FitsSigned w128 c.in_ok-next.next = search rules in
    record {
      reported =
          simp to_z-of_z (part_taken constants_declared constant_declared constants_over c.args.constants.now c.loop-constant.constant-index
          c.constant-item.result whole (counting (to_z w128 c.loop-constant.next-bits) c.loop-constant.known)
          (counting c.in_ok-next.next c.declare_constant.new.known) c.loop-constant-test.true c.constant-item.is c.loop-constant.invariant.reported
          c.in_ok-next.ensures.reported);
      tags = c.in_ok-next.ensures.tags ∙ c.loop-constant.invariant.tags;
      reading = c.in_ok-next.ensures.reading ∙ c.loop-constant.invariant.reading;
    }

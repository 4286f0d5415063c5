use Rattle.std.proofs.Common.{◌≡◌, rules, Err, refl, sym, subst}
use Rattle.cs_types.specs.Shape.{Shape, shape_of}
use Rattle.cs_scopes.specs.declared.context.Context.{Context}
use Rattle.cs_scopes.specs.Verdicts.{Answers}
use Rattle.cs_declarations.specs.Bodies.{member_declared, members_declared}
use Rattle.cs_declarations.specs.View.{laying}
use Rattle.cs_declarations.proofs.FoldedSoFar.{GoesOver, part_taken, part_stops}
use Rattle.cs_declarations.proofs.laying.add_members.Goals as goal

members_over : (c : Context) (base : Shape) → GoesOver (members_declared c base) (member_declared c base)
members_over c base = (λ ds d before. refl, λ before. refl)

pub returns-in_err-add_member : goal.returns-in_err-add_member
returns-in_err-add_member c =
    let context = c.args.context.now in
    let base = shape_of c.args.base.now in
    let whole = members_declared context base c.args.declarators.now (laying c.args.before) in
    let e : c.from_residual.result ≡ Err c.in_err-add_member.field-0.0 = search rules in
    subst (Answers laying whole) (sym e)
    (part_stops (members_declared context base) (member_declared context base) (members_over context base) c.args.declarators.now
    c.loop-declarator.declarator-index c.declarator-item.result whole (laying c.loop-declarator.so_far) c.in_err-add_member.field-0.0
    c.loop-declarator-test.true c.declarator-item.is c.loop-declarator.invariant c.in_err-add_member.ensures)

pub loop-declarator-preserved : goal.loop-declarator-preserved
loop-declarator-preserved c =
    let context = c.args.context.now in
    let base = shape_of c.args.base.now in
    let whole = members_declared context base c.args.declarators.now (laying c.args.before) in
    part_taken (members_declared context base) (member_declared context base) (members_over context base) c.args.declarators.now
    c.loop-declarator.declarator-index c.declarator-item.result whole (laying c.loop-declarator.so_far) (laying c.add_member.new.so_far)
    c.loop-declarator-test.true c.declarator-item.is c.loop-declarator.invariant c.in_ok-add_member.ensures

use Rattle.std.proofs.Common.{◌≡◌, rules, Err, refl, sym, subst}
use Rattle.cs_types.specs.Shape.{Shape, shape_of}
use Rattle.cs_declarations.specs.Answered.{Leaves}
use Rattle.cs_declarations.specs.Bodies.{typedef_added, typedefs_added}
use Rattle.cs_declarations.specs.View.{environment_of}
use Rattle.cs_declarations.proofs.FoldedSoFar.{GoesOver, part_taken, part_stops, parts_end}
use Rattle.cs_declarations.proofs.SoundParameters.{typedefs_laid}
use Rattle.cs_declarations.proofs.environment.Environment.declare_typedefs.Goals as goal

typedefs_over : (base : Shape) → GoesOver (typedefs_added base) (typedef_added base)
typedefs_over base = (λ ds d k. refl, λ k. refl)

pub returns-in_err-declare_typedef-clause-reported : goal.returns-in_err-declare_typedef-clause-reported
returns-in_err-declare_typedef-clause-reported c =
    let base = shape_of c.args.base.now in
    let whole = typedefs_added base c.args.declarators.now (environment_of c.args.self.now) in
    let e : c.from_residual.result ≡ Err c.in_err-declare_typedef.field-0.0 = search rules in
    subst (λ r. Leaves whole r (environment_of c.declare_typedef.new.self)) (sym e)
    (part_stops (typedefs_added base) (typedef_added base) (typedefs_over base) c.args.declarators.now c.loop-declarator.declarator-index
    c.declarator-item.result whole (environment_of c.loop-declarator.self) c.in_err-declare_typedef.field-0.0 c.loop-declarator-test.true
    c.declarator-item.is c.loop-declarator.invariant c.in_err-declare_typedef.ensures)

pub loop-declarator-preserved : goal.loop-declarator-preserved
loop-declarator-preserved c =
    let base = shape_of c.args.base.now in
    let whole = typedefs_added base c.args.declarators.now (environment_of c.args.self.now) in
    part_taken (typedefs_added base) (typedef_added base) (typedefs_over base) c.args.declarators.now c.loop-declarator.declarator-index
    c.declarator-item.result whole (environment_of c.loop-declarator.self) (environment_of c.declare_typedef.new.self) c.loop-declarator-test.true
    c.declarator-item.is c.loop-declarator.invariant c.in_ok-declare_typedef.ensures

pub returns-clause-laid_out : goal.returns-clause-laid_out
returns-clause-laid_out c =
    let base = shape_of c.args.base.now in
    let whole = typedefs_added base c.args.declarators.now (environment_of c.args.self.now) in
    let reported = parts_end (typedefs_added base) (typedef_added base) (typedefs_over base) c.args.declarators.now c.loop-declarator.declarator-index whole
    (environment_of c.loop-declarator.self) c.loop-declarator-test.false c.loop-declarator.invariant in
    λ sound. typedefs_laid (environment_of c.args.self.now) (environment_of c.loop-declarator.self) base c.args.declarators.now reported sound

use Rattle.std.proofs.Common.{◌≡◌, rules, Err, refl, sym, subst}
use Rattle.cs_types.specs.Shape.{Shape, shape_of}
use Rattle.cs_ast.specs.declared.raw.declaration.RawSpecs.{RawSpecs}
use Rattle.cs_declarations.specs.Answered.{Leaves}
use Rattle.cs_declarations.proofs.FoldedSoFar.{GoesOver, part_taken, part_stops}
use Rattle.cs_file_scope.specs.Objects.{object_added, objects_added}
use Rattle.cs_file_scope.specs.View.{filed_of}
use Rattle.cs_file_scope.proofs.filed.Filed.declare_objects.Goals as goal

objects_over : (specs : RawSpecs) (base : Shape) → GoesOver (objects_added specs base) (object_added specs base)
objects_over specs base = (λ ds d f. refl, λ f. refl)

pub returns-in_err-declare_object : goal.returns-in_err-declare_object
returns-in_err-declare_object c =
    let specs = c.args.specs.now in
    let base = shape_of c.args.base.now in
    let whole = objects_added specs base c.args.objects.now (filed_of c.args.self.now) in
    let e : c.from_residual.result ≡ Err c.in_err-declare_object.field-0.0 = search rules in
    subst (λ r. Leaves whole r (filed_of c.declare_object.new.self)) (sym e)
    (part_stops (objects_added specs base) (object_added specs base) (objects_over specs base) c.args.objects.now c.loop-declared.declared-index
    c.declared-item.result whole (filed_of c.loop-declared.self) c.in_err-declare_object.field-0.0 c.loop-declared-test.true c.declared-item.is
    c.loop-declared.invariant c.in_err-declare_object.ensures)

pub loop-declared-preserved : goal.loop-declared-preserved
loop-declared-preserved c =
    let specs = c.args.specs.now in
    let base = shape_of c.args.base.now in
    let whole = objects_added specs base c.args.objects.now (filed_of c.args.self.now) in
    part_taken (objects_added specs base) (object_added specs base) (objects_over specs base) c.args.objects.now c.loop-declared.declared-index
    c.declared-item.result whole (filed_of c.loop-declared.self) (filed_of c.declare_object.new.self) c.loop-declared-test.true c.declared-item.is
    c.loop-declared.invariant c.in_ok-declare_object.ensures

use Rattle.std.proofs.Common.{◌≡◌, drop}
use Rattle.cs_types.specs.Shape.{shape_of}
use Rattle.cs_statements.specs.Locals.{locals_added}
use Rattle.cs_statements.specs.View.{typed_statements_of}
use Rattle.cs_statements.proofs.inside.Inside.declare_locals.Given as goal

abbrev pub invariant-loop-declared : goal.invariant-loop-declared
invariant-loop-declared l = locals_added (shape_of l.base) l.objects (typed_statements_of l.initial.statements.items l.initial.self)
    ≡ locals_added (shape_of l.base) (drop l.declared-index l.objects) (typed_statements_of l.statements.items l.self)

use Rattle.std.proofs.Common.{◌≡◌, drop}
use Rattle.cs_types.specs.Shape.{shape_of}
use Rattle.cs_declarations.specs.Bodies.{typedefs_added}
use Rattle.cs_declarations.specs.View.{environment_of}
use Rattle.cs_declarations.proofs.environment.Environment.declare_typedefs.Given as goal

abbrev pub invariant-loop-declarator : goal.invariant-loop-declarator
invariant-loop-declarator l = typedefs_added (shape_of l.base) l.declarators (environment_of l.initial.self)
    ≡ typedefs_added (shape_of l.base) (drop l.declarator-index l.declarators) (environment_of l.self)

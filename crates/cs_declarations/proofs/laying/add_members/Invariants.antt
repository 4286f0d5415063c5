use Rattle.std.proofs.Common.{◌≡◌, drop}
use Rattle.cs_types.specs.Shape.{shape_of}
use Rattle.cs_declarations.specs.Bodies.{members_declared}
use Rattle.cs_declarations.specs.View.{laying}
use Rattle.cs_declarations.proofs.laying.add_members.Given as goal

abbrev pub invariant-loop-declarator : goal.invariant-loop-declarator
invariant-loop-declarator l = members_declared l.context (shape_of l.base) l.declarators (laying l.initial.so_far)
    ≡ members_declared l.context (shape_of l.base) (drop l.declarator-index l.declarators) (laying l.so_far)

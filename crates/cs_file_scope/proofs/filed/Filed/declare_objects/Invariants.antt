use Rattle.std.proofs.Common.{◌≡◌, drop}
use Rattle.cs_types.specs.Shape.{shape_of}
use Rattle.cs_file_scope.specs.Objects.{objects_added}
use Rattle.cs_file_scope.specs.View.{filed_of}
use Rattle.cs_file_scope.proofs.filed.Filed.declare_objects.Given as goal

abbrev pub invariant-loop-declared : goal.invariant-loop-declared
invariant-loop-declared l = objects_added l.specs (shape_of l.base) l.objects (filed_of l.initial.self)
    ≡ objects_added l.specs (shape_of l.base) (drop l.declared-index l.objects) (filed_of l.self)

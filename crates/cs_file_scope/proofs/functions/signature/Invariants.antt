use Rattle.std.proofs.Common.{◌≡◌, map, take}
use Rattle.cs_types.specs.declared.ctype.CType.{CType}
use Rattle.cs_types.specs.Shape.{shape_of}
use Rattle.cs_ast.specs.declared.typed.program.Local.{Local}
use Rattle.cs_file_scope.proofs.functions.signature.Given as goal

abbrev pub invariant-loop-parameter : goal.invariant-loop-parameter
invariant-loop-parameter l = map (λ (ty : CType). shape_of ty) l.types.items ≡ map (λ (p : Local). shape_of p.ty) (take l.parameter-index l.parameters)

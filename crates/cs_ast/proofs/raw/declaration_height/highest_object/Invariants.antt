use Rattle.std.proofs.Common.{◌≡◌, max, drop, map}
use Rattle.cs_ast.specs.RawDeclarationView.{declared}
use Rattle.cs_ast.specs.RawFileHeight.{highest_by, declared_height}
use Rattle.cs_ast.proofs.raw.declaration_height.highest_object.Given as goal

abbrev pub invariant-loop-object : goal.invariant-loop-object
invariant-loop-object l =
    max l.best (highest_by declared_height (map declared (drop l.object-index l.objects))) ≡ highest_by declared_height (map declared l.objects)

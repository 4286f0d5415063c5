use Rattle.std.proofs.Common.{◌≡◌, max, drop, map}
use Rattle.cs_ast.specs.RawDeclarationView.{constant}
use Rattle.cs_ast.specs.RawFileHeight.{highest_by, constant_height}
use Rattle.cs_ast.proofs.raw.declaration_height.highest_constant.Given as goal

abbrev pub invariant-loop-constant : goal.invariant-loop-constant
invariant-loop-constant l =
    max l.best (highest_by constant_height (map constant (drop l.constant-index l.constants))) ≡ highest_by constant_height (map constant l.constants)

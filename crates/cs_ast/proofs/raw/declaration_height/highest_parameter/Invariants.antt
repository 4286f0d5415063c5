use Rattle.std.proofs.Common.{◌≡◌, max, drop, map}
use Rattle.cs_ast.specs.RawDeclarationView.{parameter}
use Rattle.cs_ast.specs.RawFileHeight.{highest_by, parameter_height}
use Rattle.cs_ast.proofs.raw.declaration_height.highest_parameter.Given as goal

abbrev pub invariant-loop-parameter : goal.invariant-loop-parameter
invariant-loop-parameter l =
    max l.best (highest_by parameter_height (map parameter (drop l.parameter-index l.parameters))) ≡ highest_by parameter_height (map parameter l.parameters)

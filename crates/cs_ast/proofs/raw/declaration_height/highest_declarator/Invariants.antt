use Rattle.std.proofs.Common.{◌≡◌, max, drop, map}
use Rattle.cs_ast.specs.RawDeclarationView.{declarator}
use Rattle.cs_ast.specs.RawFileHeight.{highest_by, declarator_height}
use Rattle.cs_ast.proofs.raw.declaration_height.highest_declarator.Given as goal

abbrev pub invariant-loop-declarator : goal.invariant-loop-declarator
invariant-loop-declarator l =
    max l.best (highest_by declarator_height (map declarator (drop l.declarator-index l.declarators)))
    ≡ highest_by declarator_height (map declarator l.declarators)

use Rattle.std.proofs.Common.{◌≡◌, max, drop}
use Rattle.cs_ast.specs.RawDeclarationView.{bounds_of}
use Rattle.cs_ast.specs.RawFileHeight.{highest_by, height_of_some}
use Rattle.cs_ast.proofs.raw.height.highest_bound.Given as goal

abbrev pub invariant-loop-bound : goal.invariant-loop-bound
invariant-loop-bound l =
    max l.best (highest_by height_of_some (bounds_of (drop l.bound-index l.bounds))) ≡ highest_by height_of_some (bounds_of l.bounds)

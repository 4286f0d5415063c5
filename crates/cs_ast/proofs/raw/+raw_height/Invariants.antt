use Rattle.std.proofs.Common.{◌≡◌, max, drop}
use Rattle.cs_ast.specs.RawView.{written_list}
use Rattle.cs_ast.specs.RawHeight.{highest}
use Rattle.cs_ast.proofs.raw.+raw_height.Given as goal

abbrev pub invariant-height::highest-loop-expression :
    goal.invariant-height::highest-loop-expression
invariant-height::highest-loop-expression l =
    max l.best (highest (written_list (drop l.expression-index l.list))) ≡ highest (written_list l.list)

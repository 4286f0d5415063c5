-- What the loop over arguments has typed so far, before the remaining ones.
use Rattle.std.specs.Prelude.{List, [], ◌∷◌}
use Rattle.cs_ast.specs.declared.typed.expression.Expr.{Expr}
use Rattle.cs_ast.specs.TypedTree.{TypedList, Further}
use Rattle.cs_ast.specs.TypedView.{typed}
use Rattle.cs_scopes.specs.Verdicts.{Verdict, Fine}

-- typed expressions of the code, before the rest
abbrev pub put_before : List Expr → TypedList → TypedList
put_before [] rest = rest
put_before (e ∷ es) rest = Further (typed e) (put_before es rest)

abbrev pub expressions_before : List Expr → TypedList → Verdict TypedList
expressions_before made rest = Fine (put_before made rest)

-- A list of statements as the list type of typed trees: for the bodies of functions.
use Rattle.std.proofs.Common.{◌≡◌, List, [], ◌∷◌, map, refl, ap, ◌∙◌, Vec, Global}
use Rattle.cs_ast.specs.declared.place.Place.{Place}
use Rattle.cs_ast.specs.declared.typed.statement.Stmt.{Stmt}
use Rattle.cs_ast.specs.declared.typed.statement.StmtKind.TheVariants as kind
use Rattle.cs_ast.specs.TypedTree.{Then, Block}
use Rattle.cs_ast.specs.TypedView.{statement, statement_at, statement_list}
use Rattle.cs_ast.proofs.TypedRows.{statement_at-Block}
use Rattle.cs_statements.specs.Statements.{in_a_row}

in_a_row-list : (list : List Stmt) → statement_list list ≡ in_a_row (map statement list)
in_a_row-list [] = refl
in_a_row-list (first ∷ others) = ap (Then (statement first)) (in_a_row-list others)

pub block-in_a_row : (at : Place) (body : Vec Stmt Global) → statement_at at (kind.Block body) ≡ Block at (in_a_row (map statement body.items))
block-in_a_row at body = statement_at-Block at body ∙ ap (Block at) (in_a_row-list body.items)

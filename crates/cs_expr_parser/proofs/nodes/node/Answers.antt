use Rattle.std.proofs.Common.{ap, sym, subst}
use Rattle.cs_ast.specs.declared.raw.expression.RawExprKind.{RawExprKind}
use Rattle.cs_ast.specs.RawView.{written_kind}
use Rattle.cs_grammar.specs.Places.{IsPlaced}
use Rattle.cs_expr_parser.proofs.nodes.node.Goals as goal

pub returns-clause-tree : goal.returns-clause-tree
returns-clause-tree c = ap written_kind c.in_ok-kind.ensures.ok

pub returns-clause-placed : goal.returns-clause-placed
returns-clause-placed c =
    λ tokens placed. subst (λ (k : RawExprKind). IsPlaced c.args.place k tokens) (sym c.in_ok-kind.ensures.ok) placed

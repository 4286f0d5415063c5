use Rattle.std.proofs.Common.{ap, ◌∙◌}
use Rattle.cs_types.specs.Shape.{shape_of}
use Rattle.cs_ast.specs.TypedTree.{Of}
use Rattle.cs_ast.specs.TypedView.{form}
use Rattle.cs_ast.proofs.TypedRows.{form-Call}
use Rattle.cs_expressions.proofs.nodes.call.Goals as goal

pub returns : goal.returns
returns c =
    ap (λ k. Of c.args.place (shape_of c.args.ty) (form k)) c.in_ok-new.ensures.ok
    ∙ ap (Of c.args.place (shape_of c.args.ty)) (form-Call c.args.function c.args.arguments)

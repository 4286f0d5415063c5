use Rattle.std.proofs.Common.{Option, Bor, sym, subst}
use Rattle.std.specs.Prelude.{option_map, option_copied}
use Rattle.cs_ast.specs.declared.typed.expression.Expr.{Expr}
use Rattle.cs_ast.specs.TypedProgram.{typed_program, routine}
use Rattle.cs_ast.specs.TypedView.{typed}
use Rattle.cs_lower.specs.Building.{built_of, point_of}
use Rattle.cs_lower.specs.Statements.{Returns}
use Rattle.cs_lower.proofs.Forms.{if_made}
use Rattle.cs_lower.proofs.LoopParts.{returns_nothing, returns_value}
use Rattle.cs_lower.proofs.context.Lowering.lower_return.Goals as goal

pub returns-in-None : goal.returns-in-None
returns-in-None c =
    let built = built_of c.args.graph.now in
    if_made c.prepend-in-None.result
    (λ made is.
    subst (λ (o : Option (Bor Expr)).
    Returns (typed_program c.args.self.now.program.now) (routine c.args.self.now.function.now) c.args.place (option_map typed (option_copied o)) built built
    (point_of made)) (sym c.in-None.is)
    (returns_nothing c.ending-leaving.ensures c.in_ok-leaving.ensures is))
    c.prepend-in-None.ensures

pub returns-in-Some : goal.returns-in-Some
returns-in-Some c =
    if_made c.lower_used.result
    (λ made h.
    subst (λ (o : Option (Bor Expr)).
    Returns (typed_program c.args.self.now.program.now) (routine c.args.self.now.function.now) c.args.place (option_map typed (option_copied o))
    (built_of c.args.graph.now) (built_of c.lower_used.new.graph) (point_of made)) (sym c.in-Some.is)
    (returns_value c.ending-leaving.ensures c.in_ok-leaving.ensures h))
    c.lower_used.ensures

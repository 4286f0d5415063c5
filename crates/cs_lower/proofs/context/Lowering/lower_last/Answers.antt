use Rattle.std.proofs.Common.{Option, Bor, sym, ap, subst, ◌∙◌}
use Rattle.std.specs.Prelude.{option_map, option_copied}
use Rattle.cs_ast.specs.declared.typed.expression.Expr.{Expr}
use Rattle.cs_ast.specs.TypedProgram.{typed_program}
use Rattle.cs_ast.specs.TypedView.{typed}
use Rattle.cs_cfg.specs.Graph as graph
use Rattle.cs_cfg.specs.Placing.{does}
use Rattle.cs_lower.specs.Building.{built_of}
use Rattle.cs_lower.specs.Statements.{EndsFor}
use Rattle.cs_lower.proofs.Forms.{if_made}
use Rattle.cs_lower.proofs.LoopParts.{no_last, ends_for}
use Rattle.cs_lower.proofs.context.Lowering.lower_last.Goals as goal

pub returns-in-None : goal.returns-in-None
returns-in-None c =
    let built = built_of c.args.graph.now in
    subst (λ (o : Option (Bor Expr)).
    EndsFor (typed_program c.args.self.now.program.now) (option_map typed (option_copied o)) built built c.args.head c.args.head) (sym c.in-None.is) no_last

pub returns-in_ok-made-in-Some : goal.returns-in_ok-made-in-Some
returns-in_ok-made-in-Some c =
    if_made c.seal.result
    (λ block seals.
    subst (λ (o : Option (Bor Expr)).
    EndsFor (typed_program c.args.self.now.program.now) (option_map typed (option_copied o)) (built_of c.args.graph.now) (built_of c.seal.new.self) block
    c.args.head) (sym c.in-Some.is)
    (ends_for (c.in_ok-following-in-Some.ensures ∙ ap (does c.args.place 0 graph.Drop) c.jump.ensures) c.in_ok-made-in-Some.ensures seals))
    c.seal.ensures

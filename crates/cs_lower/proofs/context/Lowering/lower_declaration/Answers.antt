use Rattle.std.proofs.Common.{Option, Bor, sym, ap, subst, ◌∙◌}
use Rattle.std.specs.Prelude.{option_map, option_copied}
use Rattle.cs_ast.specs.declared.typed.statement.Initial.{Initial}
use Rattle.cs_ast.specs.TypedProgram.{typed_program, routine}
use Rattle.cs_ast.specs.TypedView.{initial}
use Rattle.cs_cfg.specs.Graph as graph
use Rattle.cs_cfg.specs.Placing.{does}
use Rattle.cs_lower.specs.Building.{built_of, point_of}
use Rattle.cs_lower.specs.Statements.{Declares}
use Rattle.cs_lower.proofs.Declaring.{declared_unset}
use Rattle.cs_lower.proofs.Forms.{if_made}
use Rattle.cs_lower.proofs.context.Lowering.lower_declaration.Goals as goal

pub returns-in-None : goal.returns-in-None
returns-in-None c =
    let built = built_of c.args.graph.now in
    let q = point_of c.args.following in
    if_made c.prepend.result
    (λ made is.
    subst (λ (o : Option (Bor Initial)).
    Declares (typed_program c.args.self.now.program.now) (routine c.args.self.now.function.now) c.args.place c.args.declaration
    (option_map initial (option_copied o)) built built (point_of made) q) (sym c.in-None.is)
    (declared_unset (is ∙ ap (λ scalar. does c.args.place 0 (graph.Clear c.args.declaration scalar) q) c.is_scalar_local-scalar.ensures)))
    c.prepend.ensures

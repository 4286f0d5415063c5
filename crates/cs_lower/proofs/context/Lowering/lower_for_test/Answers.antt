use Rattle.std.proofs.Common.{Option, Bor, sym, subst}
use Rattle.std.specs.Prelude.{option_map, option_copied}
use Rattle.cs_ast.specs.declared.typed.expression.Expr.{Expr}
use Rattle.cs_ast.specs.TypedProgram.{typed_program}
use Rattle.cs_ast.specs.TypedView.{typed}
use Rattle.cs_lower.specs.Building.{built_of, point_of}
use Rattle.cs_lower.specs.Statements.{TestsFor}
use Rattle.cs_lower.proofs.Forms.{if_made}
use Rattle.cs_lower.proofs.LoopParts.{no_test, tests_for}
use Rattle.cs_lower.proofs.context.Lowering.lower_for_test.Goals as goal

pub returns-in-None : goal.returns-in-None
returns-in-None c =
    let built = built_of c.args.graph.now in
    let body = point_of c.args.body in
    subst (λ (o : Option (Bor Expr)).
    TestsFor (typed_program c.args.self.now.program.now) c.args.place (option_map typed (option_copied o)) built built body body c.args.end)
    (sym c.in-None.is) no_test

pub returns-in_ok-one-in-Some : goal.returns-in_ok-one-in-Some
returns-in_ok-one-in-Some c =
    if_made c.lower_test.result
    (λ made tests.
    subst (λ (o : Option (Bor Expr)).
    TestsFor (typed_program c.args.self.now.program.now) c.args.place (option_map typed (option_copied o)) (built_of c.args.graph.now)
    (built_of c.lower_test.new.graph) (point_of made) (point_of c.args.body) c.args.end) (sym c.in-Some.is)
    (tests_for c.in_ok-one-in-Some.ensures tests))
    c.lower_test.ensures

use Rattle.std.proofs.Common.{Some, sym, ap, subst, ◌∙◌}
use Rattle.cs_ast.specs.TypedProgram.{typed_program, routine}
use Rattle.cs_ast.specs.TypedView.{initial}
use Rattle.cs_ast.proofs.TypedRows.{initial-List}
use Rattle.cs_lower.specs.Building.{built_of, point_of}
use Rattle.cs_lower.specs.Statements.{Declares}
use Rattle.cs_lower.proofs.Declaring.{declared_value, declared_parts, declared_text}
use Rattle.cs_lower.proofs.Forms.{if_made}
use Rattle.cs_lower.proofs.context.Lowering.lower_initial.Goals as goal

pub returns-in_ok-made-in-Value : goal.returns-in_ok-made-in-Value
returns-in_ok-made-in-Value c =
    subst (λ i.
    Declares (typed_program c.args.self.now.program.now) (routine c.args.self.now.function.now) c.args.place c.args.declaration (Some (initial i))
    (built_of c.args.graph.now) (built_of c.lower_store.new.graph) (point_of c.in_ok-made-in-Value.made) (point_of c.args.following))
    (sym c.in-Value.is) (declared_value c.in_ok-made-in-Value.ensures)

pub returns-in_ok-stored-in-List : goal.returns-in_ok-stored-in-List
returns-in_ok-stored-in-List c =
    if_made c.prepend.result (λ made zeroed. declared_parts (ap initial c.in-List.is ∙ initial-List c.in-List.field-0) zeroed c.in_ok-stored-in-List.ensures)
    c.prepend.ensures

pub returns-in_ok-stored-in-Text : goal.returns-in_ok-stored-in-Text
returns-in_ok-stored-in-Text c =
    if_made c.prepend-in-Text.result (λ made zeroed. declared_text (ap initial c.in-Text.is) zeroed c.in_ok-stored-in-Text.ensures) c.prepend-in-Text.ensures

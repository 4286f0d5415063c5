-- A function with its body, as contracts describe it: for the function that sets bodies.
use Rattle.std.proofs.Common.{◌≡◌, List, Some, map, sym, ap, ◌∙◌, Box, Vec, Global}
use Rattle.cs_types.specs.Shape.{shape_of}
use Rattle.cs_ast.specs.declared.raw.declaration.RawFunction.{RawFunction}
use Rattle.cs_ast.specs.declared.raw.external.RawBody.{RawBody}
use Rattle.cs_ast.specs.declared.typed.program.Function.{Function}
use Rattle.cs_ast.specs.declared.typed.program.Local.{Local}
use Rattle.cs_ast.specs.declared.typed.statement.Stmt.{Stmt}
use Rattle.cs_ast.specs.declared.typed.statement.StmtKind.{StmtKind}
use Rattle.cs_ast.specs.declared.typed.statement.StmtKind.TheVariants as kind
use Rattle.cs_ast.specs.TypedTree.{Statement, Block}
use Rattle.cs_ast.specs.TypedProgram.{Variable, Routine, variable, routine}
use Rattle.cs_ast.specs.TypedView.{statement, statement_at}
use Rattle.cs_statements.specs.Locals.{TypedStatements}
use Rattle.cs_statements.specs.Statements.{in_a_row}
use Rattle.cs_typing.specs.Functions.{bodied}
use Rattle.cs_statements.proofs.StatementsInARow.{block-in_a_row}

-- a function with these variables and this body
abbrev made : Function → RawFunction → RawBody → List Variable → Statement → Routine
made function head body variables block = record {
  name = function.name;
  at = head.place;
  returns = shape_of function.result;
  parameters = function.parameters;
  variables = variables;
  body = Some block;
  closes = body.closing;
  written = function.written.items;
}

-- the function in the program
abbrev pub with_parts : Function → RawFunction → RawBody → Vec Local Global → Box StmtKind Global → Function
with_parts function head body locals held = record {
  name = function.name;
  place = head.place;
  result = function.result;
  parameters = function.parameters;
  locals = locals;
  body = Some (record { place = body.opening; kind = held });
  end = body.closing;
  written = function.written;
}

pub routine-bodied : (function : Function) (head : RawFunction) (body : RawBody) (locals : Vec Local Global) (statements : Vec Stmt Global)
    (held : Box StmtKind Global) (reported : TypedStatements) → held.value ≡ kind.Block statements
    → reported.inside.variables ≡ map variable locals.items → reported.statements ≡ map statement statements.items
    → routine (with_parts function head body locals held) ≡ bodied head body reported (routine function)
routine-bodied function head body locals statements held reported is variables row =
    let block : statement_at body.opening held.value ≡ Block body.opening (in_a_row reported.statements) = ap (statement_at body.opening) is
    ∙ block-in_a_row body.opening statements ∙ ap (λ (ss : List Statement). Block body.opening (in_a_row ss)) (sym row) in
    ap (made function head body (map variable locals.items)) block
    ∙ ap (λ (vs : List Variable). made function head body vs (Block body.opening (in_a_row reported.statements))) (sym variables)

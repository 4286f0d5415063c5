-- Functions, with the scope of their parameters and their bodies (C11 6.9.1).
use Rattle.std.specs.Prelude.{ℕ, false, if◌then◌else◌, List, ◌++◌, length, drop}
use Rattle.std.specs.Prelude.{Option, Some, None, is_some}
use Rattle.cs_types.specs.Shape.{Shape}
use Rattle.cs_ast.specs.declared.raw.declaration.RawFunction.{RawFunction}
use Rattle.cs_ast.specs.declared.raw.external.RawBody.{RawBody}
use Rattle.cs_ast.specs.TypedTree.{Block}
use Rattle.cs_ast.specs.TypedProgram.{Variable, Routine}
use Rattle.cs_scopes.specs.declared.refusal.TypeCode.TheVariants.{DeclaredTwice, IncompleteType}
use Rattle.cs_scopes.specs.declared.scope.Callee.{Callee}
use Rattle.cs_scopes.specs.declared.scope.Callee.TheVariants.{Numbered}
use Rattle.cs_scopes.specs.Verdicts.{Verdict, Fine, Fault, lift}
use Rattle.cs_scopes.specs.Meanings.{Declaration}
use Rattle.cs_scopes.specs.TypeNames.{starred}
use Rattle.cs_declarations.specs.Environment.{Environment, declarations_of, with_declarations, meaning_here, entered, left}
use Rattle.cs_declarations.specs.Parameters.{Head, parameters_typed}
use Rattle.cs_statements.specs.Locals.{Inside, TypedStatements}
use Rattle.cs_statements.specs.Statements.{Where, in_a_row, no_statements, body_typed, labels_of_items}
use Rattle.cs_file_scope.specs.Objects.{Filed, changed, with_known}
use Rattle.cs_file_scope.specs.Functions.{is_result, may_be_function, Routed, function_of, declared_once}

-- the declarations of the scope of parameters, after those around it
abbrev pub declared_inside : Environment → Environment → List Declaration
declared_inside around inside = drop (length (declarations_of around)) (declarations_of inside)

-- the scope of a body: that of its parameters, in a scope in which the function itself is known (C11 6.2.1, paragraphs 4 and 7)
abbrev pub body_scope : Environment → List Declaration → Environment
body_scope around inner = with_declarations (declarations_of around ++ inner) (length (declarations_of around)) around

-- a function with its body
abbrev pub bodied : RawFunction → RawBody → TypedStatements → Routine → Routine
bodied d body reported r = record {
  name = r.name;
  at = d.place;
  returns = r.returns;
  parameters = r.parameters;
  variables = reported.inside.variables;
  body = Some (Block body.opening (in_a_row reported.statements));
  closes = body.closing;
  written = r.written;
}

abbrev pub with_body : RawFunction → RawBody → ℕ → Filed → TypedStatements → Verdict Filed
with_body d body number f reported = Fine (record {
  known = left f.known reported.inside.known;
  globals = f.globals;
  order = f.order;
  routines = changed number (bodied d body reported) f.routines;
})

-- the inside of a body at its beginning
abbrev pub at_beginning : Filed → List Variable → List Declaration → Inside
at_beginning f parameters inner = record { known = body_scope f.known inner; variables = parameters; met = 0 }

abbrev pub where_in : Shape → RawBody → Where
where_in result body = record { returns = result; labels = labels_of_items body.items.items; breaks = false; continues = false }

-- after the body of a function with these parameters, whose scope has the declarations `inner`
abbrev pub body_added : RawFunction → RawBody → Shape → List Variable → List Declaration → Callee → Filed → Verdict Filed
body_added d body result parameters inner (Numbered number) f =
    lift (with_body d body number f) (body_typed (where_in result body) body.items.items (no_statements (at_beginning f parameters inner)))
body_added d body result parameters inner other f = Fine f

-- after the body, if there is one
abbrev pub completed : RawFunction → Option RawBody → Shape → List Variable → List Declaration → Routed → Verdict Filed
completed d None result parameters inner r = Fine r.1
completed d (Some body) result parameters inner r = body_added d body result parameters inner r.0 r.1

-- the file after the scope of parameters
abbrev pub outside_of : Filed → Head → Filed
outside_of f head = with_known (left f.known head.known) f

-- after a function with these parameters
abbrev pub headed : RawFunction → Option RawBody → Filed → Shape → Head → Verdict Filed
headed d body f result head =
    lift (completed d body result head.variables (declared_inside f.known head.known))
    (lift (declared_once head.twice)
    (function_of (outside_of f head) d result head.variables head.written (meaning_here d.name (outside_of f head).known)))

-- after a function whose result has to be of a supported type
abbrev pub resulted : RawFunction → Option RawBody → Filed → Shape → Verdict Filed
resulted d body f result =
    if is_result result then lift (headed d body f result) (parameters_typed (entered f.known) d.parameters) else Fault IncompleteType d.place

-- after a function whose result has this type
abbrev pub function_typed : RawFunction → Option RawBody → Filed → Shape → Verdict Filed
function_typed d body f result =
    if may_be_function f (is_some body) result (meaning_here d.name f.known) then resulted d body f result else Fault DeclaredTwice d.place

-- after the declaration of a function; `ty` is the type of its specifiers
abbrev pub function_added : RawFunction → Option RawBody → Filed → Shape → Verdict Filed
function_added d body f ty = function_typed d body f (starred d.pointers.items ty)

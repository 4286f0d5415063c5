-- The failing positions of functions and of files (C11 6.9).
use Rattle.std.specs.Prelude.{Bool, ◌&&◌, is_some, if◌then◌else◌, [], ◌∷◌, ◌++◌, List, Option, Some, None}
use Rattle.cs_types.specs.Shape.{Shape}
use Rattle.cs_ast.specs.declared.place.Place.{Place}
use Rattle.cs_ast.specs.declared.raw.declaration.RawFunction.{RawFunction}
use Rattle.cs_ast.specs.declared.raw.external.RawBody.{RawBody}
use Rattle.cs_ast.specs.declared.raw.external.RawExternal.{RawExternal}
use Rattle.cs_ast.specs.declared.raw.external.RawExternalKind.{RawExternalKind}
use Rattle.cs_ast.specs.declared.raw.external.RawExternalKind.TheVariants as external
use Rattle.cs_scopes.specs.declared.refusal.TypeCode.{TypeCode}
use Rattle.cs_scopes.specs.declared.refusal.TypeCode.TheVariants.{DeclaredTwice, IncompleteType}
use Rattle.cs_scopes.specs.declared.scope.Callee.TheVariants as callee
use Rattle.cs_scopes.specs.TypeNames.{starred}
use Rattle.cs_scopes.specs.Verdicts.{Verdict, lift}
use Rattle.cs_declarations.specs.Bodies.{Typing, specs_type}
use Rattle.cs_declarations.specs.Environment.{meaning_here, entered}
use Rattle.cs_declarations.specs.Parameters.{Head, parameters_typed}
use Rattle.cs_statements.specs.Statements.{no_statements}
use Rattle.cs_file_scope.specs.Functions.{is_result, may_be_function, Routed, function_of, declared_once}
use Rattle.cs_file_scope.specs.Objects.{Filed, with_known}
use Rattle.cs_typing.specs.Files.{specs_of, external_typed}
use Rattle.cs_typing.specs.Functions.{declared_inside, at_beginning, where_in, outside_of}
use Rattle.cs_first_faults.specs.Failures.{FailingPlace, failing_at, unless, codes_of, if_typed}
use Rattle.cs_first_faults.specs.Objects.{parameter_list_failures, objects_failures}
use Rattle.cs_first_faults.specs.Statements.{items_in_body_failures}
use Rattle.cs_first_faults.specs.Types.{specs_failures, typedefs_failures}

-- the function that a declaration with these parameters declares
abbrev pub declared_function : RawFunction → Filed → Shape → Head → Verdict Routed
declared_function d f result head =
    function_of (outside_of f head) d result head.variables head.written (meaning_here d.name (outside_of f head).known)

-- the parameters have the types of an earlier declaration (2)
abbrev pub head_codes : Bool → RawFunction → Filed → Shape → Verdict Head → List TypeCode
head_codes admitted d f result head = if admitted then if_typed (λ (h : Head). codes_of (declared_function d f result h)) head else []

-- at a function's name: a name that isn't declared yet, or as a function with this result and these parameters, which has at most one body
-- (2); the result is neither an array nor a struct (6)
abbrev pub function_codes : RawFunction → Option RawBody → Filed → Shape → List TypeCode
function_codes d body f result =
    let may_be = may_be_function f (is_some body) result (meaning_here d.name f.known) in
    unless may_be DeclaredTwice ++ unless (is_result result) IncompleteType
    ++ head_codes (may_be && is_result result) d f result (parameters_typed (entered f.known) d.parameters)

-- the body of a function with these parameters, if it has one and is one of the file's
abbrev pub routed_failures : RawFunction → Option RawBody → Shape → Filed → Head → Routed → List FailingPlace
routed_failures d None result f head r = []
routed_failures d (Some body) result f head (callee.Numbered number, filed) =
    items_in_body_failures (where_in result body) body.items.items
    (no_statements (at_beginning filed head.variables (declared_inside f.known head.known)))
routed_failures d (Some body) result f head (other, filed) = []

-- the body, if the function is declared
abbrev pub headed_failures : RawFunction → Option RawBody → Filed → Shape → Head → List FailingPlace
headed_failures d body f result head =
    if_typed (λ (r : Routed). routed_failures d body result f head r) (lift (declared_once head.twice) (declared_function d f result head))

-- a declared function whose result has this type
abbrev pub function_failures : RawFunction → Option RawBody → Filed → Shape → List FailingPlace
function_failures d body f result =
    failing_at d.place (function_codes d body f result)
    ++ parameter_list_failures (entered f.known) d.parameters
    ++ if_typed (λ (head : Head). headed_failures d body f result head) (parameters_typed (entered f.known) d.parameters)

-- what a part of a file declares; `base` is the type of its specifiers
abbrev pub declared_failures : RawExternalKind → Filed → Shape → List FailingPlace
declared_failures (external.Type s) f base = []
declared_failures (external.Typedef s names) f base = typedefs_failures base names.items f.known
declared_failures (external.Objects s objects) f base = objects_failures s base objects.items f
declared_failures (external.Function s d) f base = function_failures d None f (starred d.pointers.items base)
declared_failures (external.Definition s d body) f base = function_failures d (Some body) f (starred d.pointers.items base)

-- a part of a file at a position, after others
abbrev pub external_failures : Place → RawExternalKind → Filed → List FailingPlace
external_failures at kind f =
    specs_failures f.known at (specs_of kind)
    ++ if_typed (λ (ty : Typing). declared_failures kind (with_known ty.1 f) ty.0) (specs_type f.known at (specs_of kind))

-- the parts of a file, one after another
abbrev pub file_failures : List RawExternal → Filed → List FailingPlace
file_failures [] f = []
file_failures (e ∷ es) f =
    external_failures e.place e.kind f ++ if_typed (λ (next : Filed). file_failures es next) (external_typed e.place e.kind f)

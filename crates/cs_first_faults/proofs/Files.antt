-- Functions and files are refused at their first failing position.
use Rattle.std.proofs.Common.{refl, ap, Bool, true, false, if◌then◌else◌, ◌&&◌, List, [], ◌∷◌, ◌++◌, Option, Some, None}
use Rattle.std.specs.Prelude.{is_some}
use Rattle.cs_types.specs.Shape.{Shape}
use Rattle.cs_ast.specs.declared.place.Place.{Place}
use Rattle.cs_ast.specs.declared.raw.declaration.RawFunction.{RawFunction}
use Rattle.cs_ast.specs.declared.raw.external.RawBody.{RawBody}
use Rattle.cs_ast.specs.declared.raw.external.RawExternal.{RawExternal}
use Rattle.cs_ast.specs.declared.raw.external.RawExternalKind.{RawExternalKind}
use Rattle.cs_ast.specs.declared.raw.external.RawExternalKind.TheVariants as external
use Rattle.cs_ast.specs.TypedProgram.{Variable}
use Rattle.cs_scopes.specs.declared.refusal.TypeCode.TheVariants as codes
use Rattle.cs_scopes.specs.declared.scope.Callee.TheVariants as callee
use Rattle.cs_scopes.specs.Meanings.{Meaning, Typedef, Constant, Global, Local, Function}
use Rattle.cs_scopes.specs.TypeNames.{starred}
use Rattle.cs_scopes.specs.Verdicts.{Verdict, Fine, Fault, lift}
use Rattle.cs_declarations.specs.Bodies.{Typing, specs_type, typedefs_added}
use Rattle.cs_declarations.specs.Environment.{meaning_here, entered}
use Rattle.cs_declarations.specs.Parameters.{Head, parameters_typed}
use Rattle.cs_statements.specs.Statements.{no_statements, body_typed}
use Rattle.cs_file_scope.specs.Functions.{is_result, same_types, types_of, may_be_function, Routed, function_of, declared_once}
use Rattle.cs_file_scope.specs.Objects.{Filed, with_known}
use Rattle.cs_typing.specs.Files.{specs_of, external_declared, external_typed, file_typed}
use Rattle.cs_typing.specs.Functions.{declared_inside, at_beginning, where_in, completed, outside_of, headed, function_typed}
use Rattle.cs_first_faults.specs.Failures.{FailingPlace, failing_at, unless, codes_of, if_typed, IsFirst}
use Rattle.cs_first_faults.specs.Files.{declared_function, head_codes, routed_failures, headed_failures, function_failures}
use Rattle.cs_first_faults.specs.Files.{declared_failures, external_failures, file_failures}
use Rattle.cs_first_faults.specs.Objects.{parameter_list_failures}
use Rattle.cs_first_faults.specs.Types.{specs_failures}
use Rattle.cs_first_faults.proofs.Firsts.{no_some, no_none, IsAt, first-then}
use Rattle.cs_first_faults.proofs.Names.{first-made}
use Rattle.cs_first_faults.proofs.Objects.{unless_twice, once, parameter_list-first, objects-first}
use Rattle.cs_first_faults.proofs.Statements.{body-first}
use Rattle.cs_first_faults.proofs.Types.{specs-first, typedefs-first}

-- ---- functions

function_of-at : (f : Filed) (d : RawFunction) (result : Shape) (parameters : List Variable) (written : List Bool) (before : Option Meaning)
    → IsAt d.place (function_of f d result parameters written before)
function_of-at f d result parameters written (Some (Function before)) = by_test (same_types before.parameters (types_of parameters)) where
  by_test : (test : Bool) → IsAt {A = Routed} d.place (if test then Fine (before.callee, f) else Fault codes.DeclaredTwice d.place)
  by_test true = tt
  by_test false = refl
function_of-at f d result parameters written (Some (Typedef ty)) = tt
function_of-at f d result parameters written (Some (Constant value)) = tt
function_of-at f d result parameters written (Some (Global number ty)) = tt
function_of-at f d result parameters written (Some (Local number ty)) = tt
function_of-at f d result parameters written None = tt

completed-first : (d : RawFunction) (body : Option RawBody) (result : Shape) (f : Filed) (head : Head) (r : Routed)
    → IsFirst (completed d body result head.variables (declared_inside f.known head.known) r) (routed_failures d body result f head r)
completed-first d None result f head r = refl
completed-first d (Some body) result f head (callee.Numbered number, filed) =
    let start = no_statements (at_beginning filed head.variables (declared_inside f.known head.known)) in
    first-made _ (body_typed (where_in result body) body.items.items start) _ (body-first (where_in result body) body.items.items start)
completed-first d (Some body) result f head (callee.Malloc, filed) = refl
completed-first d (Some body) result f head (callee.Calloc, filed) = refl
completed-first d (Some body) result f head (callee.Free, filed) = refl

-- a function whose head is typed, but may have a parameter name twice
routed-first : (d : RawFunction) (body : Option RawBody) (result : Shape) (f : Filed) (head : Head) (twice : Option Place) (v : Verdict Routed)
    (failures : List FailingPlace) → IsAt d.place v → IsFirst (unless_twice twice head) failures
    → IsFirst (lift (completed d body result head.variables (declared_inside f.known head.known)) (lift (declared_once twice) v))
    (failing_at d.place (codes_of v) ++ failures ++ if_typed (λ (r : Routed). routed_failures d body result f head r) (lift (declared_once twice) v))
unfolding lift
routed-first d body result f head twice (Fault code place) failures at h = ap (λ p. Some (code, p)) at
routed-first d body result f head None (Fine r) [] at h = completed-first d body result f head r
routed-first d body result f head None (Fine r) (x ∷ xs) at h = no_some _ h
routed-first d body result f head (Some place) (Fine r) [] at h = no_none _ h
routed-first d body result f head (Some place) (Fine r) (x ∷ xs) at h = h

headed-first : (d : RawFunction) (body : Option RawBody) (f : Filed) (result : Shape) (v : Verdict Head) (failures : List FailingPlace)
    → IsFirst (lift once v) failures
    → IsFirst (lift (headed d body f result) v)
    (failing_at d.place ([] ++ [] ++ head_codes true d f result v) ++ failures ++ if_typed (λ (head : Head). headed_failures d body f result head) v)
unfolding lift
headed-first d body f result (Fine head) failures h =
    routed-first d body result f head head.twice (declared_function d f result head) failures
    (function_of-at (outside_of f head) d result head.variables head.written (meaning_here d.name (outside_of f head).known)) h
headed-first d body f result (Fault code place) [] h = no_none _ h
headed-first d body f result (Fault code place) (x ∷ xs) h = h

pub function-first : (d : RawFunction) (body : Option RawBody) (f : Filed) (result : Shape)
    → IsFirst (function_typed d body f result) (function_failures d body f result)
function-first d body f result =
    by_tests (may_be_function f (is_some body) result (meaning_here d.name f.known)) (is_result result)
    (parameters_typed (entered f.known) d.parameters) (parameter_list_failures (entered f.known) d.parameters)
    (parameter_list-first (entered f.known) d.parameters)
  where
    by_tests : (may_be fits : Bool) (v : Verdict Head) (failures : List FailingPlace) → IsFirst (lift once v) failures
        → IsFirst
        (if may_be then (if fits then lift (headed d body f result) v else Fault codes.IncompleteType d.place) else Fault codes.DeclaredTwice d.place)
        (failing_at d.place
        (unless may_be codes.DeclaredTwice ++ unless fits codes.IncompleteType ++ head_codes (may_be && fits) d f result v)
        ++ failures ++ if_typed (λ (head : Head). headed_failures d body f result head) v)
    by_tests true true v failures h = headed-first d body f result v failures h
    by_tests true false v failures h = refl
    by_tests false true v failures h = refl
    by_tests false false v failures h = refl

-- ---- files

declared-first : (kind : RawExternalKind) (f : Filed) (base : Shape) → IsFirst (external_declared kind f base) (declared_failures kind f base)
declared-first (external.Type s) f base = refl
declared-first (external.Typedef s names) f base = first-made _ (typedefs_added base names.items f.known) _ (typedefs-first base names.items f.known)
declared-first (external.Objects s objects) f base = objects-first s base objects.items f
declared-first (external.Function s d) f base = function-first d None f (starred d.pointers.items base)
declared-first (external.Definition s d body) f base = function-first d (Some body) f (starred d.pointers.items base)

external-first : (at : Place) (kind : RawExternalKind) (f : Filed) → IsFirst (external_typed at kind f) (external_failures at kind f)
external-first at kind f =
    first-then _ (specs_type f.known at (specs_of kind)) (specs_failures f.known at (specs_of kind))
    (λ (ty : Typing). declared_failures kind (with_known ty.1 f) ty.0) (specs-first f.known at (specs_of kind))
    (λ ty. declared-first kind (with_known ty.1 f) ty.0)

pub file-first : (es : List RawExternal) (f : Filed) → IsFirst (file_typed es f) (file_failures es f)
file-first [] f = refl
file-first (e ∷ es) f =
    first-then (file_typed es) (external_typed e.place e.kind f) (external_failures e.place e.kind f) (λ (next : Filed). file_failures es next)
    (external-first e.place e.kind f) (λ next. file-first es next)

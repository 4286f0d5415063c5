-- Files with the same parts at the same positions are one typed program, or have the same first type error: for
-- `typing_sees_parts_and_places`.
use Rattle.std.proofs.Common.{◌≡◌, ℕ, false, ◌||◌, if◌then◌else◌, List, [], ◌++◌, length, Bool, Option, Some, None, option_to_list}
use Rattle.std.proofs.Common.{refl, ap, ◌∙◌}
use Rattle.std.specs.Prelude.{nat_eq}
use Rattle.std.specs.Cmp.Lexicographic.{pointwise}
use Rattle.indexmap.specs.IndexSet.{insert_all}
use Rattle.cs_types.specs.Shape.{Shape}
use Rattle.cs_types.specs.declared.data_model.DataModel.{DataModel}
use Rattle.cs_ast.specs.declared.token.Token.{Token}
use Rattle.cs_ast.specs.declared.raw.declaration.RawFunction.{RawFunction}
use Rattle.cs_ast.specs.declared.raw.external.RawBody.{RawBody}
use Rattle.cs_ast.specs.declared.raw.external.RawExternalKind.{RawExternalKind}
use Rattle.cs_ast.specs.declared.raw.external.RawExternal.{RawExternal}
use Rattle.cs_ast.specs.TypedTree.{Block}
use Rattle.cs_ast.specs.TypedProgram.{Variable, Routine}
use Rattle.cs_scopes.specs.declared.refusal.TypeCode.TheVariants.{DeclaredTwice, IncompleteType}
use Rattle.cs_scopes.specs.declared.scope.Callee.{Callee}
use Rattle.cs_scopes.specs.declared.scope.Callee.TheVariants.{Numbered}
use Rattle.cs_scopes.specs.Meanings.{Meaning, Function, Declaration}
use Rattle.cs_scopes.specs.TypeNames.{starred}
use Rattle.cs_scopes.specs.Verdicts.{Fine, Fault, lift}
use Rattle.cs_declarations.specs.Environment.{declaring, meaning_here, entered, left}
use Rattle.cs_declarations.specs.Bodies.{Typing}
use Rattle.cs_declarations.specs.Parameters.{Head}
use Rattle.cs_statements.specs.Locals.{TypedStatements}
use Rattle.cs_statements.specs.Statements.{in_a_row, no_statements, body_typed}
use Rattle.cs_file_scope.specs.Objects.{Filed, changed, with_known}
use Rattle.cs_file_scope.specs.Functions.{is_result, same_types, types_of, may_be_function, numbered, number_in, Routed, function_of, declared_once}
use Rattle.cs_file_scope.specs.Order.{is_of_library, defines, is_defined, placed, all_placed, order_of}
use Rattle.cs_file_scope.specs.Beginning.{beginning, begun}
use Rattle.cs_file_scope.specs.Tags.{tags_declared}
use Rattle.cs_typing.specs.Functions.{declared_inside, at_beginning}
use Rattle.cs_typing.specs.Functions.{where_in, body_added, completed, outside_of, headed, resulted, function_typed, function_added}
use Rattle.cs_typing.specs.Files.{specs_of, external_declared, external_typed, file_typed}
use Rattle.cs_typing.specs.Programs.{program_of, typed}
use Rattle.cs_one_program.specs.SameExpressions.{none, more, IfBoth, absent, present}
use Rattle.cs_one_program.specs.SameDeclarations.{SameBefore, SameFunction}
use Rattle.cs_one_program.specs.SameTrees.{SameBody, SameExternalKind, TypeAlone, Typedef, Objects, Function as Declared, Definition, SameExternal, SameTree}
use Rattle.cs_one_program.proofs.TypedDeclarations.{specs_same, typedefs_same, parameters_same}
use Rattle.cs_one_program.proofs.TypedStatements.{some_same, objects_same, labels_list_same, body_same}

-- ---- functions

new_function_same : (f : Filed) (result : Shape) (parameters : List Variable) (written : List Bool) {d d' : RawFunction} → SameFunction d d'
    → function_of f d result parameters written None ≡ function_of f d' result parameters written None
new_function_same f result parameters written h = λ i. Fine (
  Numbered (number_in f.order (h.name i)),
  record {
    known = declaring (h.name i) (Function (numbered (number_in f.order (h.name i)) result parameters)) f.known;
    globals = f.globals;
    order = f.order;
    routines = changed (number_in f.order (h.name i)) (λ blank. record {
      name = h.name i;
      at = h.at i;
      returns = result;
      parameters = length parameters;
      variables = parameters;
      body = None;
      closes = h.at i;
      written = written;
    }) f.routines;
  },
)

function_of_same : (f : Filed) (result : Shape) (parameters : List Variable) (written : List Bool) {d d' : RawFunction} (meaning : Option Meaning)
    → SameFunction d d' → function_of f d result parameters written meaning ≡ function_of f d' result parameters written meaning
function_of_same f result parameters written (Some (Function before)) h = λ i.
    if same_types before.parameters (types_of parameters) then Fine (before.callee, f) else Fault DeclaredTwice (h.at i)
function_of_same f result parameters written None h = new_function_same f result parameters written h
function_of_same f result parameters written (Some _) h = new_function_same f result parameters written h

body_added_same : (result : Shape) (parameters : List Variable) (inner : List Declaration) (callee : Callee) (f : Filed) {d d' : RawFunction}
    {body body' : RawBody} → SameFunction d d' → SameBody body body'
    → body_added d body result parameters inner callee f ≡ body_added d' body' result parameters inner callee f
body_added_same result parameters inner (Numbered number) f {body = body} {body' = body'} h b =
    let begins = no_statements (at_beginning f parameters inner) in
    let inside : body_typed (where_in result body) body.items.items begins ≡ body_typed (where_in result body') body'.items.items begins =
    (λ i. body_typed (record { returns = result; labels = labels_list_same b.inside i; breaks = false; continues = false }) body.items.items begins)
    ∙ body_same (where_in result body') begins b.inside in λ i.
    lift (λ (reported : TypedStatements). Fine (record {
      known = left f.known reported.inside.known;
      globals = f.globals;
      order = f.order;
      routines = changed number (λ (r : Routine). record {
        name = r.name;
        at = h.at i;
        returns = r.returns;
        parameters = r.parameters;
        variables = reported.inside.variables;
        body = Some (Block (b.opening i) (in_a_row reported.statements));
        closes = b.closing i;
        written = r.written;
      }) f.routines;
    })) (inside i)
body_added_same result parameters inner _ f h b = refl

completed_same : (result : Shape) (parameters : List Variable) (inner : List Declaration) (r : Routed) {d d' : RawFunction} {b b' : Option RawBody}
    → SameFunction d d' → IfBoth SameBody b b' → completed d b result parameters inner r ≡ completed d' b' result parameters inner r
completed_same result parameters inner r h absent = refl
completed_same result parameters inner r h (present b) = body_added_same result parameters inner r.0 r.1 h b

headed_same : (f : Filed) (result : Shape) (head : Head) {d d' : RawFunction} {b b' : Option RawBody} → SameFunction d d' → IfBoth SameBody b b'
    → headed d b f result head ≡ headed d' b' f result head
headed_same f result head {d = d} {d' = d'} h b =
    let around = outside_of f head in
    let found : function_of around d result head.variables head.written (meaning_here d.name around.known)
    ≡ function_of around d' result head.variables head.written (meaning_here d'.name around.known) =
    function_of_same around result head.variables head.written (meaning_here d.name around.known) h
    ∙ ap (λ name. function_of around d' result head.variables head.written (meaning_here name around.known)) h.name in λ i.
    lift (λ r. completed_same result head.variables (declared_inside f.known head.known) r h b i) (lift (declared_once head.twice) (found i))

resulted_same : (f : Filed) (result : Shape) {d d' : RawFunction} {b b' : Option RawBody} → SameFunction d d' → IfBoth SameBody b b'
    → resulted d b f result ≡ resulted d' b' f result
resulted_same f result h b = λ i.
    if is_result result then lift (λ head. headed_same f result head h b i) (parameters_same (entered f.known) h.parameters i)
    else Fault IncompleteType (h.at i)

function_typed_same : (f : Filed) (result : Shape) {d d' : RawFunction} {b b' : Option RawBody} → SameFunction d d' → IfBoth SameBody b b'
    → function_typed d b f result ≡ function_typed d' b' f result
function_typed_same f result h b = λ i.
    if may_be_function f (some_same b i) result (meaning_here (h.name i) f.known) then resulted_same f result h b i else Fault DeclaredTwice (h.at i)

function_same : (f : Filed) (ty : Shape) {d d' : RawFunction} {b b' : Option RawBody} → SameFunction d d' → IfBoth SameBody b b'
    → function_added d b f ty ≡ function_added d' b' f ty
function_same f ty {d = d} {d' = d'} {b' = b'} h b =
    function_typed_same f (starred d.pointers.items ty) h b ∙ ap (λ pointers. function_typed d' b' f (starred pointers ty)) h.pointers

-- ---- the order of a file's functions

defines_same : (name : List ℕ) {k k' : RawExternalKind} → SameExternalKind k k' → defines name k ≡ defines name k'
defines_same name (Definition s f body) = ap (λ said. pointwise nat_eq said name) f.name
defines_same name (TypeAlone s) = refl
defines_same name (Typedef s all) = refl
defines_same name (Objects s all) = refl
defines_same name (Declared s f) = refl

defined_same : (name : List ℕ) {file other : List RawExternal} → SameTree file other → is_defined name file ≡ is_defined name other
defined_same name none = refl
defined_same name (more h all) = λ i. defines_same name h.is i || defined_same name all i

placed_same : (defined : List ℕ → Bool) {k k' : RawExternalKind} → SameExternalKind k k' → placed defined k ≡ placed defined k'
placed_same defined (Definition s f body) = ap Some f.name
placed_same defined (Declared s f) = λ i. if is_of_library (f.name i) || defined (f.name i) then None else Some (f.name i)
placed_same defined (TypeAlone s) = refl
placed_same defined (Typedef s all) = refl
placed_same defined (Objects s all) = refl

all_placed_same : (defined : List ℕ → Bool) {file other : List RawExternal} → SameTree file other → all_placed defined file ≡ all_placed defined other
all_placed_same defined none = refl
all_placed_same defined (more h all) = λ i. option_to_list (placed_same defined h.is i) ++ all_placed_same defined all i

order_same : {file other : List RawExternal} → SameTree file other → order_of file ≡ order_of other
order_same {file = file} {other = other} h =
    ap (insert_all (pointwise nat_eq) [])
    ((λ i. all_placed (λ name. defined_same name h i) file) ∙ all_placed_same (λ name. is_defined name other) h)

-- ---- files

declared_same : (f : Filed) (base : Shape) {k k' : RawExternalKind} → SameExternalKind k k' → external_declared k f base ≡ external_declared k' f base
declared_same f base (TypeAlone s) = refl
declared_same f base (Typedef s all) = λ i. lift (λ k. Fine (with_known k f)) (typedefs_same base f.known all i)
declared_same f base (Objects s all) = objects_same base f s all
declared_same f base (Declared s d) = function_same f base d absent
declared_same f base (Definition s d body) = function_same f base d (present body)

before_same : {k k' : RawExternalKind} → SameExternalKind k k' → SameBefore (specs_of k) (specs_of k')
before_same (TypeAlone s) = s
before_same (Typedef s all) = s
before_same (Objects s all) = s
before_same (Declared s d) = s
before_same (Definition s d body) = s

external_same : (f : Filed) {e e' : RawExternal} → SameExternal e e' → external_typed e.place e.kind f ≡ external_typed e'.place e'.kind f
external_same f h = λ i. lift (λ (ty : Typing). declared_same (with_known ty.1 f) ty.0 h.is i) (specs_same f.known h.at (before_same h.is) i)

file_same : (f : Filed) {file other : List RawExternal} → SameTree file other → file_typed file f ≡ file_typed other f
file_same f none = refl
file_same f (more h all) = λ i. lift (λ after. file_same after all i) (external_same f h i)

pub typed_same : (model : DataModel) (files : List (List ℕ)) (tokens : List Token) (file other : List RawExternal) → SameTree file other
    → typed model files tokens file ≡ typed model files tokens other
typed_same model files tokens file other h =
    ap (lift (λ (f : Filed). Fine (program_of model files tokens f)))
    ((λ i. file_typed file (before (order_same h i))) ∙ file_same (begun model tokens other) h)
  where
    before : List (List ℕ) → Filed
    before order = with_known (tags_declared tokens (beginning model order).known) (beginning model order)

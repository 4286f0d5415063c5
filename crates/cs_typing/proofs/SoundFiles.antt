-- The structs of a typed file have layouts: for the contract of `typed`.
use Rattle.std.proofs.Common.{Bool, List, [], ◌∷◌, refl}
use Rattle.std.specs.Prelude.{Option, Some, None, is_some}
use Rattle.cs_types.specs.declared.data_model.DataModel.{DataModel}
use Rattle.cs_types.specs.Shape.{Shape, same_shape}
use Rattle.cs_ast.specs.declared.place.Place.{Place}
use Rattle.cs_ast.specs.declared.token.Token.{Token}
use Rattle.cs_ast.specs.declared.raw.declaration.RawSpecs.{RawSpecs}
use Rattle.cs_ast.specs.declared.raw.declaration.RawDeclarator.{RawDeclarator}
use Rattle.cs_ast.specs.declared.raw.declaration.RawFirstValue.{RawFirstValue}
use Rattle.cs_ast.specs.declared.raw.declaration.RawInit.{RawInit}
use Rattle.cs_ast.specs.declared.raw.declaration.RawFunction.{RawFunction}
use Rattle.cs_ast.specs.declared.raw.external.RawBody.{RawBody}
use Rattle.cs_ast.specs.declared.raw.external.RawExternal.{RawExternal}
use Rattle.cs_ast.specs.declared.raw.external.RawExternalKind.{RawExternalKind}
use Rattle.cs_ast.specs.declared.raw.external.RawExternalKind.TheVariants as external
use Rattle.cs_ast.specs.TypedProgram.{Variable}
use Rattle.cs_scopes.specs.declared.refusal.TypeCode.TheVariants.{DeclaredTwice, IncompleteType}
use Rattle.cs_scopes.specs.declared.scope.Callee.{Callee}
use Rattle.cs_scopes.specs.declared.scope.Callee.TheVariants.{Numbered}
use Rattle.cs_scopes.specs.Meanings.{Meaning, Function, Global, Declaration}
use Rattle.cs_scopes.specs.Verdicts.{Verdict, Fine, Fault, lift}
use Rattle.cs_scopes.specs.TypeNames.{starred}
use Rattle.cs_declarations.specs.Environment.{entered, meaning_here}
use Rattle.cs_declarations.specs.Bodies.{specs_type, typedefs_added}
use Rattle.cs_declarations.specs.Initializers.{InFile, initial_typed}
use Rattle.cs_declarations.specs.Objects.{object_type}
use Rattle.cs_declarations.specs.Parameters.{Head, parameters_typed}
use Rattle.cs_declarations.proofs.FineVerdicts.{IfFine, IfFine-lift, IfFine-lift_any, IfFine-cond}
use Rattle.cs_declarations.proofs.SoundBodies.{TypeGoesOn, specs_type-GoesOn}
use Rattle.cs_declarations.proofs.SoundParameters.{HeadGoesOn, typedefs_added-GoesOn, parameters_typed-GoesOn}
use Rattle.cs_declarations.proofs.SoundStructs.{GoesOn, none-AreSound}
use Rattle.cs_statements.specs.Statements.{body_typed, no_statements}
use Rattle.cs_file_scope.specs.Objects.{Filed, Object, with_known, is_completed, may_be_object, object_of, object_initialized, marked, object_added}
use Rattle.cs_file_scope.specs.Objects.{objects_added}
use Rattle.cs_file_scope.specs.Functions.{Routed, same_types, types_of, function_of, may_be_function, is_result, declared_once}
use Rattle.cs_file_scope.specs.Order.{order_of}
use Rattle.cs_file_scope.specs.Beginning.{beginning, begun}
use Rattle.cs_typing.specs.Functions.{where_in, at_beginning, declared_inside, body_added, completed, outside_of, headed, resulted, function_added}
use Rattle.cs_typing.specs.Files.{external_declared, external_typed, specs_of, file_typed, typed_file}
use Rattle.cs_statements.proofs.SoundStatements.{IsLaidUnder, following, ReportedIsSound, body_typed-sound}
use Rattle.cs_typing.proofs.DeclaredTags.{tags-sound}
use Rattle.cs_typing.proofs.RepeatedNames.{once-fine}

module _ (m : DataModel) where
  -- the structs that are known after parts of a file
  abbrev pub FiledIsSound : Filed → Type 0
  FiledIsSound f = IsLaidUnder m f.known

  abbrev ObjectIsSound : Object → Type 0
  ObjectIsSound o = IsLaidUnder m o.filed.known

  abbrev RoutedIsSound : Routed → Type 0
  RoutedIsSound r = IsLaidUnder m r.1.known

  -- ---- objects

  object_of-sound : (f : Filed) (d : RawDeclarator) (before : Option Meaning) (ty : Shape) → FiledIsSound f → IfFine (object_of f d before ty) ObjectIsSound
  object_of-sound f d (Some (Global number ty')) ty h =
      IfFine-cond (same_shape ty' ty) (Fine (record { number = number; filed = f })) (Fault DeclaredTwice d.place) ObjectIsSound (λ same. h) (λ other. tt)
  object_of-sound f d other ty h = h

  object_initialized-sound : (ty : Shape) (first : Option RawFirstValue) (o : Object) → ObjectIsSound o
      → IfFine (object_initialized ty first o) FiledIsSound
  object_initialized-sound ty None o h = h
  object_initialized-sound ty (Some value) o h =
      IfFine-lift_any _ (initial_typed o.filed.known.context o.filed.known.literals InFile value.place ty value.initial) FiledIsSound (λ r. h)

  object_added-sound : (s : RawSpecs) (base : Shape) (d : RawInit) (f : Filed) → FiledIsSound f → IfFine (object_added s base d f) FiledIsSound
  object_added-sound s base d f h =
      let found = object_of f d.declarator (meaning_here d.declarator.name f.known) in
      let added : Shape → Verdict Filed = λ ty. lift (object_initialized ty d.initial) (lift (marked s d.declarator) (found ty)) in
      IfFine-cond (may_be_object f.globals (is_completed f base d.declarator) (is_some d.initial) (meaning_here d.declarator.name f.known))
      (lift added (object_type f.known.context base d))
      (Fault DeclaredTwice d.declarator.place) FiledIsSound
      (λ may. IfFine-lift_any added (object_type f.known.context base d) FiledIsSound
      (λ ty. IfFine-lift (object_initialized ty d.initial) (lift (marked s d.declarator) (found ty)) ObjectIsSound FiledIsSound
      (IfFine-lift (marked s d.declarator) (found ty) ObjectIsSound ObjectIsSound
      (object_of-sound f d.declarator (meaning_here d.declarator.name f.known) ty h) (λ o g. g))
      (λ o g. object_initialized-sound ty d.initial o g)))
      (λ may_not. tt)

  objects_added-sound : (s : RawSpecs) (base : Shape) (ds : List RawInit) (f : Filed) → FiledIsSound f → IfFine (objects_added s base ds f) FiledIsSound
  objects_added-sound s base [] f h = h
  objects_added-sound s base (d ∷ ds) f h =
      IfFine-lift (objects_added s base ds) (object_added s base d f) FiledIsSound FiledIsSound (object_added-sound s base d f h)
      (λ g i. objects_added-sound s base ds g i)

  -- ---- functions

  function_of-sound : (f : Filed) (d : RawFunction) (result : Shape) (parameters : List Variable) (written : List Bool) (before : Option Meaning)
      → FiledIsSound f → IfFine (function_of f d result parameters written before) RoutedIsSound
  function_of-sound f d result parameters written (Some (Function before)) h =
      IfFine-cond (same_types before.parameters (types_of parameters)) (Fine (before.callee, f)) (Fault DeclaredTwice d.place) RoutedIsSound (λ same. h)
      (λ other. tt)
  function_of-sound f d result parameters written other h = h

  body_added-sound : (d : RawFunction) (body : RawBody) (result : Shape) (parameters : List Variable) (inner : List Declaration) (callee : Callee) (f : Filed)
      → FiledIsSound f → IfFine (body_added d body result parameters inner callee f) FiledIsSound
  body_added-sound d body result parameters inner (Numbered number) f h =
      IfFine-lift _ (body_typed (where_in result body) body.items.items (no_statements (at_beginning f parameters inner))) (ReportedIsSound m) FiledIsSound
      (body_typed-sound m (where_in result body) body.items.items (no_statements (at_beginning f parameters inner)) h) (λ reported g. g)
  body_added-sound d body result parameters inner other f h = h

  completed-sound : (d : RawFunction) (body : Option RawBody) (result : Shape) (parameters : List Variable) (inner : List Declaration) (r : Routed)
      → RoutedIsSound r → IfFine (completed d body result parameters inner r) FiledIsSound
  completed-sound d None result parameters inner r h = h
  completed-sound d (Some body) result parameters inner r h = body_added-sound d body result parameters inner r.0 r.1 h

  headed-sound : (d : RawFunction) (body : Option RawBody) (f : Filed) (result : Shape) (head : Head) → IsLaidUnder m head.known
      → IfFine (headed d body f result head) FiledIsSound
  headed-sound d body f result head h =
      IfFine-lift (completed d body result head.variables (declared_inside f.known head.known)) _ RoutedIsSound FiledIsSound
      (IfFine-lift (declared_once head.twice) _ RoutedIsSound RoutedIsSound
      (function_of-sound (outside_of f head) d result head.variables head.written (meaning_here d.name (outside_of f head).known) h)
      (λ r g. once-fine RoutedIsSound head.twice r g))
      (λ r g. completed-sound d body result head.variables (declared_inside f.known head.known) r g)

  function_added-sound : (d : RawFunction) (body : Option RawBody) (f : Filed) (ty : Shape) → FiledIsSound f
      → IfFine (function_added d body f ty) FiledIsSound
  function_added-sound d body f ty h =
      let result = starred d.pointers.items ty in
      IfFine-cond (may_be_function f (is_some body) result (meaning_here d.name f.known)) (resulted d body f result) (Fault DeclaredTwice d.place) FiledIsSound
      (λ may.
      IfFine-cond (is_result result) (lift (headed d body f result) (parameters_typed (entered f.known) d.parameters)) (Fault IncompleteType d.place)
      FiledIsSound
      (λ fits. IfFine-lift (headed d body f result) (parameters_typed (entered f.known) d.parameters) (HeadGoesOn (entered f.known)) FiledIsSound
      (parameters_typed-GoesOn (entered f.known) d.parameters h.0)
      (λ head g. headed-sound d body f result head (following m (entered f.known) head.known h g)))
      (λ none. tt))
      (λ may_not. tt)

  -- ---- files

  external_declared-sound : (kind : RawExternalKind) (f : Filed) (base : Shape) → FiledIsSound f → IfFine (external_declared kind f base) FiledIsSound
  external_declared-sound (external.Type s) f base h = h
  external_declared-sound (external.Typedef s names) f base h =
      IfFine-lift _ (typedefs_added base names.items f.known) (GoesOn f.known) FiledIsSound (typedefs_added-GoesOn f.known base names.items h.0)
      (λ k g. following m f.known k h g)
  external_declared-sound (external.Objects s objects) f base h = objects_added-sound s base objects.items f h
  external_declared-sound (external.Function s d) f base h = function_added-sound d None f base h
  external_declared-sound (external.Definition s d body) f base h = function_added-sound d (Some body) f base h

  external_typed-sound : (at : Place) (kind : RawExternalKind) (f : Filed) → FiledIsSound f → IfFine (external_typed at kind f) FiledIsSound
  external_typed-sound at kind f h =
      IfFine-lift _ (specs_type f.known at (specs_of kind)) (TypeGoesOn f.known) FiledIsSound (specs_type-GoesOn f.known at (specs_of kind) h.0)
      (λ ty g. external_declared-sound kind (with_known ty.1 f) ty.0 (following m f.known ty.1 h g))

  file_typed-sound : (file : List RawExternal) (f : Filed) → FiledIsSound f → IfFine (file_typed file f) FiledIsSound
  file_typed-sound [] f h = h
  file_typed-sound (e ∷ es) f h =
      IfFine-lift (file_typed es) (external_typed e.place e.kind f) FiledIsSound FiledIsSound (external_typed-sound e.place e.kind f h)
      (λ g i. file_typed-sound es g i)

pub typed_file-sound : (model : DataModel) (tokens : List Token) (file : List RawExternal) → IfFine (typed_file model tokens file) (FiledIsSound model)
typed_file-sound model tokens file =
    file_typed-sound model file (begun model tokens file)
    (tags-sound model tokens (beginning model (order_of file)).known (none-AreSound model, refl))

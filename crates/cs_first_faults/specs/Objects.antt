-- The failing positions of declared objects and parameters (C11 6.7, 6.7.6.3, 6.9.2).
use Rattle.std.specs.Prelude.{not, is_some, [], ◌∷◌, ◌++◌, List, Option, Some, None}
use Rattle.cs_types.specs.Shape.{Shape}
use Rattle.cs_ast.specs.declared.raw.declaration.RawFirstValue.{RawFirstValue}
use Rattle.cs_ast.specs.declared.raw.declaration.RawInit.{RawInit}
use Rattle.cs_ast.specs.declared.raw.declaration.RawParameter.{RawParameter}
use Rattle.cs_ast.specs.declared.raw.declaration.RawParameters.{RawParameters}
use Rattle.cs_ast.specs.declared.raw.declaration.RawParameters.TheVariants as parameter_lists
use Rattle.cs_ast.specs.declared.raw.declaration.RawSpecs.{RawSpecs}
use Rattle.cs_scopes.specs.declared.refusal.TypeCode.TheVariants.{DeclaredTwice}
use Rattle.cs_scopes.specs.TypeNames.{starred}
use Rattle.cs_scopes.specs.Verdicts.{Verdict, Fine, lift}
use Rattle.cs_declarations.specs.Bodies.{Typing, specs_type}
use Rattle.cs_declarations.specs.Environment.{Environment, is_declared_here, meaning_here}
use Rattle.cs_declarations.specs.Initializers.{InFile, InFunction}
use Rattle.cs_declarations.specs.Objects.{object_type}
use Rattle.cs_declarations.specs.Parameters.{Head, place_of, is_free_name, parameter_typed, no_parameter}
use Rattle.cs_statements.specs.Locals.{Inside, with_local, local_added, TypedStatements, after_local}
use Rattle.cs_file_scope.specs.Objects.{Filed, Object, may_be_object, is_completed, object_of, marked, object_added}
use Rattle.cs_first_faults.specs.Failures.{FailingPlace, failing_at, unless, codes_of, if_typed}
use Rattle.cs_first_faults.specs.Declarators.{bounds_failures, object_codes, parameter_codes}
use Rattle.cs_first_faults.specs.Initials.{initial_failures}
use Rattle.cs_first_faults.specs.Types.{specs_failures}

-- a parameter: at its name, or its first token if it has none, a name that is new among the parameters (2)
abbrev pub parameter_failures : RawParameter → Environment → List FailingPlace
parameter_failures p k =
    specs_failures k p.place p.specs
    ++ if_typed (λ (found : Typing).
    failing_at (place_of p.place p.name)
    (unless (is_free_name p.name found.1) DeclaredTwice ++ parameter_codes found.1.context p (starred p.pointers.items found.0))
    ++ bounds_failures found.1.context p.bounds.items)
    (specs_type k p.place p.specs)

abbrev pub parameters_failures : List RawParameter → Head → List FailingPlace
parameters_failures [] before = []
parameters_failures (p ∷ ps) before =
    parameter_failures p before.known ++ if_typed (λ (head : Head). parameters_failures ps head) (parameter_typed p before)

abbrev pub parameter_list_failures : Environment → RawParameters → List FailingPlace
parameter_list_failures k parameter_lists.Empty = []
parameter_list_failures k parameter_lists.Void = []
parameter_list_failures k (parameter_lists.List list) = parameters_failures list.items (no_parameter k)

-- the initializer of a file-scope object, if there is one
abbrev pub file_initial_failures : Shape → Option RawFirstValue → Object → List FailingPlace
file_initial_failures ty None o = []
file_initial_failures ty (Some value) o =
    initial_failures o.filed.known.context o.filed.known.literals InFile value.place ty value.initial

-- a file-scope object and its type
abbrev pub typed_object : RawSpecs → Shape → RawInit → Filed → Verdict (Shape × Object)
typed_object s base d f =
    lift (λ ty.
    lift (λ o. Fine (ty, o)) (lift (marked s d.declarator) (object_of f d.declarator (meaning_here d.declarator.name f.known) ty)))
    (object_type f.known.context base d)

-- a declared object of a file: at its name, a name that isn't declared yet, or as an object of this type that isn't initialized twice (2)
abbrev pub object_failures : RawSpecs → Shape → RawInit → Filed → List FailingPlace
object_failures s base d f =
    let before = meaning_here d.declarator.name f.known in
    failing_at d.declarator.place
    (unless (may_be_object f.globals (is_completed f base d.declarator) (is_some d.initial) before) DeclaredTwice
    ++ (object_codes f.known.context base d
    ++ if_typed (λ ty. codes_of (object_of f d.declarator before ty)) (object_type f.known.context base d)))
    ++ bounds_failures f.known.context d.declarator.bounds.items
    ++ if_typed (λ (o : Shape × Object). file_initial_failures o.0 d.initial o.1) (typed_object s base d f)

abbrev pub objects_failures : RawSpecs → Shape → List RawInit → Filed → List FailingPlace
objects_failures s base [] f = []
objects_failures s base (d ∷ ds) f = object_failures s base d f ++ if_typed (λ (next : Filed). objects_failures s base ds next) (object_added s base d f)

-- the initializer of a local, if there is one
abbrev pub local_initial_failures : Shape → Option RawFirstValue → Inside → List FailingPlace
local_initial_failures ty None i = []
local_initial_failures ty (Some value) i = initial_failures i.known.context i.known.literals InFunction value.place ty value.initial

-- a declared object of a block: at its name, a name that is new in its scope (2)
abbrev pub local_failures : Shape → RawInit → Inside → List FailingPlace
local_failures base d i =
    failing_at d.declarator.place
    (unless (not (is_declared_here d.declarator.name i.known)) DeclaredTwice ++ object_codes i.known.context base d)
    ++ bounds_failures i.known.context d.declarator.bounds.items
    ++ if_typed (λ ty. local_initial_failures ty d.initial (with_local d.declarator.name ty i)) (object_type i.known.context base d)

abbrev pub locals_failures : Shape → List RawInit → TypedStatements → List FailingPlace
locals_failures base [] so_far = []
locals_failures base (d ∷ ds) so_far =
    local_failures base d so_far.inside
    ++ if_typed (λ (next : TypedStatements). locals_failures base ds next) (lift (after_local so_far.statements) (local_added base d so_far.inside))

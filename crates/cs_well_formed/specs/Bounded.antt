-- Typed trees have positions of the written ones, and no more nodes than the size of their texts allows.
use Rattle.std.specs.Prelude.{◌≡◌, ℕ, ◌+◌, ◌*◌, ◌≤◌, List, length, Option}
use Rattle.cs_types.specs.Shape.{Shape}
use Rattle.cs_ast.specs.declared.place.Place.{Place}
use Rattle.cs_ast.specs.declared.raw.expression.RawExpr.{RawExpr}
use Rattle.cs_ast.specs.declared.raw.expression.RawExprKind.{RawExprKind}
use Rattle.cs_ast.specs.declared.raw.declaration.RawInitial.{RawInitial}
use Rattle.cs_ast.specs.declared.raw.declaration.RawSpecs.{RawSpecs}
use Rattle.cs_ast.specs.declared.raw.declaration.RawDeclarator.{RawDeclarator}
use Rattle.cs_ast.specs.declared.raw.declaration.RawParameters.{RawParameters}
use Rattle.cs_ast.specs.RawView.{written_kind, written}
use Rattle.cs_ast.specs.RawDeclarationView.{initial, specs, parameters}
use Rattle.cs_ast.specs.TypedTree.{Typed, Initial}
use Rattle.cs_grammar.specs.Text.{text}
use Rattle.cs_grammar.specs.FileText.{initial_text, specs_text, parameters_text}
use Rattle.cs_scopes.specs.declared.context.Context.{Context}
use Rattle.cs_consts.specs.declared.purpose.Purpose.{Purpose}
use Rattle.cs_scopes.specs.Verdicts.{Fine}
use Rattle.cs_expressions.specs.Primary.{Literals}
use Rattle.cs_consts.specs.Typing.{literals_after, formed}
use Rattle.cs_consts.specs.Roles.{operand_of, assigned_value, test_of, selector_of, discarded_value}
use Rattle.cs_declarations.specs.Environment.{Environment, table_of}
use Rattle.cs_declarations.specs.Initializers.{Storage, initial_typed}
use Rattle.cs_declarations.specs.Bodies.{specs_type, typedefs_added}
use Rattle.cs_declarations.specs.Parameters.{Head, parameters_typed}
use Rattle.cs_well_formed.specs.Nodes.{expression_nodes, initial_nodes, all_nodes, literal_nodes, struct_nodes}
use Rattle.cs_well_formed.specs.Places.{StandsAmong, InitialStandsAmong}
use Rattle.cs_well_formed.specs.WrittenPlaces.{WrittenAmong, ExpressionAmong, ValuesAmong}
use Rattle.cs_well_formed.specs.Sizes.{size_of}

-- the nodes of string literals
abbrev pub texts_nodes : Literals → ℕ
texts_nodes literals = all_nodes literal_nodes literals

-- an expression of a text of some size, with the literals before it and after it
pub record IsBounded (Is : Place → Type 0) (literals following : Literals) (size : ℕ) (e : Typed) : Type 0 where
  pub stands : StandsAmong Is e
  pub nodes : expression_nodes e ≤ 16 * size
  pub with_texts : expression_nodes e + texts_nodes following ≤ texts_nodes literals + 16 * size

-- the same for an initializer
pub record IsBoundedInitial (Is : Place → Type 0) (literals following : Literals) (size : ℕ) (i : Initial) : Type 0 where
  pub stands : InitialStandsAmong Is i
  pub nodes : initial_nodes i ≤ 16 * size
  pub with_texts : initial_nodes i + texts_nodes following ≤ texts_nodes literals + 16 * size

-- an expression of this tree
abbrev pub IsBoundedBy : (Place → Type 0) → Literals → RawExpr → Typed → Type 0
IsBoundedBy Is literals e v = IsBounded Is literals (literals_after literals e.kind.value) (size_of (text (written e))) v

-- an expression, for any purpose and any target
abbrev pub FormedAreBounded : (Place → Type 0) → Type 0
FormedAreBounded Is =
    (c : Context) (purpose : Purpose) (literals : Literals) (target : Option Shape) (at : Place) (k : RawExprKind) (e : Typed) →
    WrittenAmong Is at k → formed c purpose literals target at k ≡ Fine e
    → IsBounded Is literals (literals_after literals k) (size_of (text (written_kind k))) e

-- an expression that must have a value
abbrev pub OperandsAreBounded : (Place → Type 0) → Type 0
OperandsAreBounded Is = (c : Context) (literals : Literals) (target : Option Shape) (e : RawExpr) (v : Typed) →
    ExpressionAmong Is e → operand_of c literals target e ≡ Fine v → IsBoundedBy Is literals e v

-- an expression whose value is converted to a type as if by assignment
abbrev pub AssignedAreBounded : (Place → Type 0) → Type 0
AssignedAreBounded Is = (c : Context) (literals : Literals) (at : Place) (target : Shape) (e : RawExpr) (v : Typed) →
    Is at → ExpressionAmong Is e → assigned_value c literals at target e ≡ Fine v → IsBoundedBy Is literals e v

-- an expression that is tested
abbrev pub TestsAreBounded : (Place → Type 0) → Type 0
TestsAreBounded Is = (c : Context) (literals : Literals) (at : Place) (e : RawExpr) (v : Typed) →
    ExpressionAmong Is e → test_of c literals at e ≡ Fine v → IsBoundedBy Is literals e v

-- an expression that controls a `switch`
abbrev pub SelectorsAreBounded : (Place → Type 0) → Type 0
SelectorsAreBounded Is = (c : Context) (literals : Literals) (at : Place) (e : RawExpr) (v : Typed) →
    Is at → ExpressionAmong Is e → selector_of c literals at e ≡ Fine v → IsBoundedBy Is literals e v

-- an expression whose value is discarded
abbrev pub DiscardedAreBounded : (Place → Type 0) → Type 0
DiscardedAreBounded Is = (c : Context) (literals : Literals) (e : RawExpr) (v : Typed) →
    ExpressionAmong Is e → discarded_value c literals e ≡ Fine v → IsBoundedBy Is literals e v

-- the literals after an expression are those before it and those of its text
pub record TextsGrow (literals following : Literals) (size : ℕ) : Type 0 where
  pub no_fewer : texts_nodes literals ≤ texts_nodes following
  pub no_more : texts_nodes following ≤ texts_nodes literals + size

abbrev pub LiteralsAreBounded : Type 0
LiteralsAreBounded = (literals : Literals) (k : RawExprKind) → TextsGrow literals (literals_after literals k) (size_of (text (written_kind k)))

-- the initializer of an object
abbrev pub InitialsAreBounded : (Place → Type 0) → Type 0
InitialsAreBounded Is =
    (c : Context) (literals following : Literals) (storage : Storage) (at : Place) (ty : Shape) (raw : RawInitial) (found : Initial) →
    Is at → ValuesAmong Is raw → initial_typed c literals storage at ty raw ≡ Fine (found, following)
    → IsBoundedInitial Is literals following (size_of (initial_text (initial raw))) found

-- the nodes of the structs that are known
abbrev pub known_nodes : Environment → ℕ
known_nodes k = all_nodes struct_nodes (table_of k)

-- what is known after a text of some size: the same literals, and at most so many more structs and members
pub record Grows (k m : Environment) (size : ℕ) : Type 0 where
  pub literals : m.literals ≡ k.literals
  pub structs : known_nodes m ≤ known_nodes k + 16 * size

-- specifiers, with the bodies of structs and enums
abbrev pub WordsAreBounded : Type 0
WordsAreBounded = (k m : Environment) (at : Place) (raw : RawSpecs) (ty : Shape) → specs_type k at raw ≡ Fine (ty, m)
    → Grows k m (size_of (specs_text (specs raw)))

-- typedefs declare no structs
abbrev pub TypedefsAreBounded : Type 0
TypedefsAreBounded = (k m : Environment) (base : Shape) (names : List RawDeclarator) → typedefs_added base names k ≡ Fine m → Grows k m 0

-- the parameters of a function, with their marks whether they may be written through; a parameter may have no token of its own
pub record IsBoundedHead (k : Environment) (head : Head) (size : ℕ) : Type 0 where
  pub literals : head.known.literals ≡ k.literals
  pub nodes : length head.variables + length head.written + known_nodes head.known ≤ known_nodes k + 16 * size + 16

abbrev pub ParametersAreBounded : Type 0
ParametersAreBounded = (k : Environment) (raw : RawParameters) (head : Head) → parameters_typed k raw ≡ Fine head
    → IsBoundedHead k head (size_of (parameters_text (parameters raw)))

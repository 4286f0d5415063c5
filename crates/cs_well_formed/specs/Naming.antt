-- Types name structs of the table: those of all well-formed nodes, if the declared types do, and those that declarations make known.
use Rattle.std.specs.Prelude.{◌≡◌, List}
use Rattle.cs_types.specs.Shape.{Shape}
use Rattle.cs_ast.specs.declared.place.Place.{Place}
use Rattle.cs_ast.specs.declared.raw.declaration.RawSpecs.{RawSpecs}
use Rattle.cs_ast.specs.declared.raw.declaration.RawDeclarator.{RawDeclarator}
use Rattle.cs_ast.specs.declared.raw.declaration.RawInit.{RawInit}
use Rattle.cs_ast.specs.declared.raw.declaration.RawParameters.{RawParameters}
use Rattle.cs_ast.specs.TypedTree.{Typed, Initial, Statement}
use Rattle.cs_scopes.specs.declared.context.Context.{Context}
use Rattle.cs_scopes.specs.Verdicts.{Fine}
use Rattle.cs_declarations.specs.Environment.{Environment, table_of}
use Rattle.cs_declarations.specs.Bodies.{specs_type, typedefs_added}
use Rattle.cs_declarations.specs.Objects.{object_type}
use Rattle.cs_declarations.specs.Parameters.{Head, parameters_typed}
use Rattle.cs_well_formed.specs.Structs.{NamesStructs, VariablesName, ExpressionNames, InitialNames, StatementNames}
use Rattle.cs_well_formed.specs.Expressions.{Setting, TypesAroundAreNamed, IsWell}
use Rattle.cs_well_formed.specs.Initials.{IsWellInitial}
use Rattle.cs_well_formed.specs.Statements.{IsWellStatement}
use Rattle.cs_well_formed.specs.Agreement.{KnownTypesAreNamed}

-- all nodes of what is well formed
abbrev pub ExpressionsAreNamed : Type 0
ExpressionsAreNamed = (s : Setting) (e : Typed) → TypesAroundAreNamed s → IsWell s e → ExpressionNames s.program.table e

abbrev pub InitialsAreNamed : Type 0
InitialsAreNamed = (s : Setting) (ty : Shape) (i : Initial) → TypesAroundAreNamed s → IsWellInitial s ty i → InitialNames s.program.table i

abbrev pub StatementsAreNamed : Type 0
StatementsAreNamed = (s : Setting) (b : Statement) → TypesAroundAreNamed s → IsWellStatement s b → StatementNames s.program.table b

-- the type that specifiers name, and all that is known after them
abbrev pub WordsAreNamed : Type 0
WordsAreNamed = (k m : Environment) (at : Place) (words : RawSpecs) (ty : Shape) → KnownTypesAreNamed k.context → specs_type k at words ≡ Fine (ty, m)
    → NamesStructs (table_of m) ty × KnownTypesAreNamed m.context

-- typedefs
abbrev pub TypedefsAreNamed : Type 0
TypedefsAreNamed = (k m : Environment) (base : Shape) (names : List RawDeclarator) → NamesStructs (table_of k) base → KnownTypesAreNamed k.context
    → typedefs_added base names k ≡ Fine m → KnownTypesAreNamed m.context

-- the parameters of a function
abbrev pub ParametersAreNamed : Type 0
ParametersAreNamed = (k : Environment) (raw : RawParameters) (head : Head) → KnownTypesAreNamed k.context → parameters_typed k raw ≡ Fine head
    → VariablesName (table_of head.known) head.variables × KnownTypesAreNamed head.known.context

-- the type of a declared object
abbrev pub ObjectsAreNamed : Type 0
ObjectsAreNamed = (c : Context) (base : Shape) (d : RawInit) (ty : Shape) → NamesStructs c.table.list base → object_type c base d ≡ Fine ty
    → NamesStructs c.table.list ty

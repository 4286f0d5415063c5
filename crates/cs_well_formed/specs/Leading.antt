-- What declarations make known: structs get their members and keep them, and what is declared exists.
use Rattle.std.specs.Prelude.{◌≡◌, ℕ, List, Some, slice_get}
use Rattle.std.specs.List.{All}
use Rattle.cs_types.specs.Shape.{Shape}
use Rattle.cs_ast.specs.declared.place.Place.{Place}
use Rattle.cs_ast.specs.declared.raw.declaration.RawSpecs.{RawSpecs}
use Rattle.cs_ast.specs.declared.raw.declaration.RawDeclarator.{RawDeclarator}
use Rattle.cs_ast.specs.declared.raw.declaration.RawInit.{RawInit}
use Rattle.cs_ast.specs.declared.raw.declaration.RawParameters.{RawParameters}
use Rattle.cs_ast.specs.TypedProgram.{Variable}
use Rattle.cs_scopes.specs.declared.context.Context.{Context}
use Rattle.cs_scopes.specs.Meanings.{Declaration}
use Rattle.cs_scopes.specs.Verdicts.{Fine}
use Rattle.cs_declarations.specs.Environment.{Environment, table_of, declarations_of}
use Rattle.cs_declarations.specs.Bodies.{specs_type, typedefs_added}
use Rattle.cs_declarations.specs.Objects.{object_type}
use Rattle.cs_declarations.specs.Parameters.{Head, parameters_typed}
use Rattle.cs_well_formed.specs.Expressions.{Setting, IsWhole}
use Rattle.cs_well_formed.specs.Agreement.{Keeps, IsThere, Agrees}

-- what is known at a point of a file, and what is known after a part of it
pub record Leads (s : Setting) (k m : Environment) : Type 0 where
  pub model : m.context.model ≡ k.context.model
  pub literals : m.literals ≡ k.literals
  pub table : Keeps (table_of k) (table_of m)
  pub declarations : All (λ (d : Declaration). IsThere s d.meaning) (declarations_of k) → All (λ (d : Declaration). IsThere s d.meaning) (declarations_of m)

-- the variables are the first ones of the function
abbrev pub AreVariables : Setting → List Variable → Type 0
AreVariables s variables = (number : ℕ) (v : Variable) → slice_get variables number ≡ Some v
    → (w : Variable) × (slice_get s.variables number ≡ Some w) × (w.ty ≡ v.ty)

-- specifiers, with the bodies of structs and enums
abbrev pub WordsLead : Type 0
WordsLead = (s : Setting) (k m : Environment) (at : Place) (words : RawSpecs) (ty : Shape) → k.context.model ≡ s.program.model
    → specs_type k at words ≡ Fine (ty, m) → Leads s k m

-- typedefs
abbrev pub TypedefsLead : Type 0
TypedefsLead = (s : Setting) (k m : Environment) (base : Shape) (names : List RawDeclarator) → typedefs_added base names k ≡ Fine m → Leads s k m

-- the parameters of a function
abbrev pub ParametersLead : Type 0
ParametersLead = (s : Setting) (k : Environment) (raw : RawParameters) (head : Head) → k.context.model ≡ s.program.model → AreVariables s head.variables
    → parameters_typed k raw ≡ Fine head → Leads s k head.known

-- the type of a declared object is complete
abbrev pub ObjectsAreWhole : Type 0
ObjectsAreWhole = (s : Setting) (c : Context) (base : Shape) (d : RawInit) (ty : Shape) → Agrees s c → object_type c base d ≡ Fine ty
    → IsWhole s.program ty

-- A program that grows: what it has, it still has after each further part of a file.
use Rattle.std.specs.Prelude.{◌≡◌, ℕ, ◌≤◌, List, Some, slice_get}
use Rattle.cs_types.specs.Shape.{Shape}
use Rattle.cs_ast.specs.TypedTree.{Typed, Initial, Statement}
use Rattle.cs_ast.specs.TypedProgram.{TypedProgram, Variable, FileObject, Routine}
use Rattle.cs_scopes.specs.declared.context.Context.{Context}
use Rattle.cs_well_formed.specs.Expressions.{Setting, TypesAroundAreNamed, IsWell, parameter_types}
use Rattle.cs_well_formed.specs.Initials.{IsWellInitial}
use Rattle.cs_well_formed.specs.Statements.{IsWellStatement}
use Rattle.cs_well_formed.specs.Programs.{IsWellGlobal, IsWellRoutine}
use Rattle.cs_well_formed.specs.Agreement.{Keeps, Agrees}

-- what the first program has, the second one has too, with the same types
pub record Extends (p q : TypedProgram) : Type 0 where
  pub model : p.model ≡ q.model
  pub table : Keeps p.table q.table
  pub literals : (number : ℕ) (bytes : List ℕ) → slice_get p.literals number ≡ Some bytes → slice_get q.literals number ≡ Some bytes
  pub globals : (number : ℕ) (g : FileObject) → slice_get p.globals number ≡ Some g
      → (h : FileObject) × (slice_get q.globals number ≡ Some h) × (h.ty ≡ g.ty)
  pub routines : (number : ℕ) (r : Routine) → slice_get p.routines number ≡ Some r
      → (o : Routine) × (slice_get q.routines number ≡ Some o) × (o.returns ≡ r.returns) × (parameter_types o ≡ parameter_types r)

-- the same for the context of expressions
pub record Grows (s t : Setting) : Type 0 where
  pub program : Extends s.program t.program
  pub variables : (number : ℕ) (v : Variable) → slice_get s.variables number ≡ Some v
      → (w : Variable) × (slice_get t.variables number ≡ Some w) × (w.ty ≡ v.ty)
  pub labels : s.labels ≤ t.labels
  pub returns : s.returns ≡ t.returns

-- what is well formed stays so, and what agrees still agrees, if the types that are declared then name structs too
abbrev pub ExpressionsStay : Type 0
ExpressionsStay = (s t : Setting) (e : Typed) → Grows s t → IsWell s e → IsWell t e

abbrev pub InitialsStay : Type 0
InitialsStay = (s t : Setting) (ty : Shape) (i : Initial) → Grows s t → IsWellInitial s ty i → IsWellInitial t ty i

abbrev pub StatementsStay : Type 0
StatementsStay = (s t : Setting) (b : Statement) → Grows s t → IsWellStatement s b → IsWellStatement t b

abbrev pub AgreementStays : Type 0
AgreementStays = (s t : Setting) (c : Context) → Grows s t → TypesAroundAreNamed t → Agrees s c → Agrees t c

abbrev pub GlobalsStay : Type 0
GlobalsStay = (p q : TypedProgram) (g : FileObject) → Extends p q → IsWellGlobal p g → IsWellGlobal q g

abbrev pub RoutinesStay : Type 0
RoutinesStay = (p q : TypedProgram) (r : Routine) → Extends p q → IsWellRoutine p r → IsWellRoutine q r

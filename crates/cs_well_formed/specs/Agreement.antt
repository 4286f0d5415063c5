-- What is known where an expression is typed, and what exists in the program of which it becomes a part.
use Rattle.std.specs.Prelude.{◌≡◌, ℕ, ◌≤◌, List, [], ◌∷◌, ◌++◌, length, Some, slice_get}
use Rattle.std.specs.List.{All}
use Rattle.cs_types.specs.declared.int_type.IntType.TheVariants.{Int}
use Rattle.cs_types.specs.declared.structs.StructType.{StructType}
use Rattle.cs_types.specs.IntType.{InRange}
use Rattle.cs_types.specs.Members.{Member}
use Rattle.cs_types.specs.Layout.{members_of}
use Rattle.cs_types.specs.Shape.{void, pointer}
use Rattle.cs_ast.specs.declared.typed.operator.Allocator.{Allocator}
use Rattle.cs_ast.specs.declared.typed.operator.Allocator.TheVariants as allocator
use Rattle.cs_ast.specs.TypedProgram.{TypedProgram, Variable, FileObject, Routine}
use Rattle.cs_scopes.specs.declared.context.Context.{Context}
use Rattle.cs_scopes.specs.declared.scope.Tag.{Tag}
use Rattle.cs_scopes.specs.declared.scope.Callee.{Callee}
use Rattle.cs_scopes.specs.declared.scope.Callee.TheVariants.{Malloc, Calloc, Free, Numbered}
use Rattle.cs_scopes.specs.Meanings.{Signature, Meaning, Typedef, Constant, Global, Local, Function, Declaration}
use Rattle.cs_expressions.specs.Primary.{Literals}
use Rattle.cs_declarations.specs.LaidOut.{IsOfTable}
use Rattle.cs_well_formed.specs.Structs.{NamesStructs, StructsName}
use Rattle.cs_well_formed.specs.Expressions.{Setting, TypesAroundAreNamed, parameter_types, sizes_of}

-- structs that have their members in one table keep them in the other, which has no fewer structs
pub record Keeps (one other : List StructType) : Type 0 where
  pub members : (number : ℕ) (members : List Member) → members_of one number ≡ Some members → members_of other number ≡ Some members
  pub longer : length one ≤ length other

-- the type of a typedef names structs of the table
abbrev pub IsNamed : List StructType → Meaning → Type 0
IsNamed table (Typedef ty) = NamesStructs table ty
IsNamed table other = Unit {0}

-- the types that can be written here name structs of the table: those of typedefs, tags, and members of structs
pub record KnownTypesAreNamed (c : Context) : Type 0 where
  pub declarations : All (λ (d : Declaration). IsNamed c.table.list d.meaning) c.scope.declarations
  pub tags : All (λ (t : Tag). IsOfTable c.table.list t.meaning) c.scope.tags
  pub members : StructsName c.table.list c.table.list

-- a function that allocates memory, with the types that C11 7.22.3 requires
abbrev pub IsAllocator : TypedProgram → Allocator → Signature → Type 0
IsAllocator p a f = (f.result ≡ pointer void) × (f.parameters ≡ sizes_of p.model a)

-- a function of the program with these types
abbrev pub IsRoutine : TypedProgram → ℕ → Signature → Type 0
IsRoutine p number f = (r : Routine) × (slice_get p.routines number ≡ Some r) × (r.returns ≡ f.result) × (parameter_types r ≡ f.parameters)

-- the function that is called
abbrev pub IsFunction : TypedProgram → Callee → Signature → Type 0
IsFunction p Malloc f = IsAllocator p allocator.Malloc f
IsFunction p Calloc f = IsAllocator p allocator.Calloc f
IsFunction p Free f = (f.result ≡ void) × (f.parameters ≡ pointer void ∷ [])
IsFunction p (Numbered number) f = IsRoutine p number f

-- what a name denotes exists, with its type
abbrev pub IsThere : Setting → Meaning → Type 0
IsThere s (Typedef ty) = Unit {0}
IsThere s (Constant value) = InRange s.program.model Int value
IsThere s (Global number ty) = (g : FileObject) × (slice_get s.program.globals number ≡ Some g) × (g.ty ≡ ty)
IsThere s (Local number ty) = (v : Variable) × (slice_get s.variables number ≡ Some v) × (v.ty ≡ ty)
IsThere s (Function f) = IsFunction s.program f.callee f

-- what is known where an expression is typed holds in the program: its data model, the structs that have their members already,
-- and the declarations in scope; types that are written there, or declared around it, name structs
pub record Agrees (s : Setting) (c : Context) : Type 0 where
  pub model : c.model ≡ s.program.model
  pub table : Keeps c.table.list s.program.table
  pub declarations : All (λ (d : Declaration). IsThere s d.meaning) c.scope.declarations
  pub named : KnownTypesAreNamed c
  pub types : TypesAroundAreNamed s

-- these literals are the first ones of the program
abbrev pub AreFirst : TypedProgram → Literals → Type 0
AreFirst p literals = (rest : Literals) × (p.literals ≡ literals ++ rest)

-- Well-formed programs: each node has the type and the parts that its form requires, and each number names something that exists. Their
-- number is limited.
use Rattle.std.specs.Prelude.{◌≡◌, ◌<◌, ◌≤◌, ◌^◌, ◌⊎◌, false, [], length, IfSome}
use Rattle.std.specs.List.{All}
use Rattle.cs_types.specs.Layout.{IsLaidOut}
use Rattle.cs_types.specs.Shape.{Shape, void}
use Rattle.cs_ast.specs.TypedTree.{Statement}
use Rattle.cs_ast.specs.TypedProgram.{TypedProgram, Variable, FileObject, Routine}
use Rattle.cs_well_formed.specs.Structs.{NamesStructs, HasNamedTypes, AllTypesAreNamed}
use Rattle.cs_well_formed.specs.Expressions.{Setting, IsScalar, IsWhole, parameter_types}
use Rattle.cs_well_formed.specs.Initials.{IsWellInitial, HasConstantValues}
use Rattle.cs_well_formed.specs.Places.{IsOfFiles, ProgramStandsAmong}
use Rattle.cs_well_formed.specs.Nodes.{program_nodes}
use Rattle.cs_well_formed.specs.Statements.{IsWellStatement, label_count, AreNumbered, JumpsLead}

-- the context of the body of a function
abbrev pub setting_of : TypedProgram → Routine → Statement → Setting
setting_of p r body = record { program = p; variables = r.variables; labels = label_count body; returns = r.returns }

-- a function returns a scalar or nothing (C11 6.9.1, paragraph 3, without structs)
abbrev pub IsResult : Shape → Type 0
IsResult ty = (ty ≡ void) ⊎ IsScalar ty

-- the body of a function: its labels are numbered in their order, and its jumps have targets
pub record IsWellBody (p : TypedProgram) (r : Routine) (body : Statement) : Type 0 where
  pub statement : IsWellStatement (setting_of p r body) body
  pub labels : AreNumbered 0 body
  pub jumps : JumpsLead false false body

-- a function: the first of its variables are its parameters, which are scalars, each with a mark whether it may be written through; its
-- declared types name structs
pub record IsWellRoutine (p : TypedProgram) (r : Routine) : Type 0 where
  pub returns : IsResult r.returns
  pub parameters : r.parameters ≤ length r.variables
  pub passed : All IsScalar (parameter_types r)
  pub variables : All (λ (v : Variable). IsWhole p v.ty) r.variables
  pub written : length r.written ≡ r.parameters
  pub named : HasNamedTypes p.table r
  pub body : IfSome r.body (IsWellBody p r)

-- the context of the initializers of file-scope objects
abbrev pub outside : TypedProgram → Setting
outside p = record { program = p; variables = []; labels = 0; returns = void }

-- a file-scope object, whose declared type names structs
abbrev pub IsWellGlobal : TypedProgram → FileObject → Type 0
IsWellGlobal p g = IsWhole p g.ty × IfSome g.initial (λ i. IsWellInitial (outside p) g.ty i × HasConstantValues p.model i) × NamesStructs p.table g.ty

pub record IsWellFormed (p : TypedProgram) : Type 0 where
  pub laid_out : IsLaidOut p.model p.table
  pub globals : All (IsWellGlobal p) p.globals
  pub routines : All (IsWellRoutine p) p.routines
  pub structs : AllTypesAreNamed p
  pub placed : ProgramStandsAmong (IsOfFiles (length p.files)) p
  pub few : program_nodes p < 2 ^ 28

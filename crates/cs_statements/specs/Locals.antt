-- Objects of blocks (C11 6.7).
use Rattle.std.specs.Prelude.{ℕ, if◌then◌else◌, List, [], ◌∷◌, ◌++◌, length, Option}
use Rattle.std.specs.Prelude.{Some, None}
use Rattle.cs_types.specs.Shape.{Shape}
use Rattle.cs_ast.specs.declared.place.Place.{Place}
use Rattle.cs_ast.specs.declared.raw.declaration.RawFirstValue.{RawFirstValue}
use Rattle.cs_ast.specs.declared.raw.declaration.RawInit.{RawInit}
use Rattle.cs_ast.specs.TypedTree.{Statement, Declare}
use Rattle.cs_ast.specs.TypedProgram.{Variable}
use Rattle.cs_scopes.specs.declared.refusal.TypeCode.TheVariants.{DeclaredTwice}
use Rattle.cs_scopes.specs.Verdicts.{Verdict, Fine, Fault, lift}
use Rattle.cs_scopes.specs.Meanings.{Local}
use Rattle.cs_declarations.specs.Environment.{Environment, with_literals, declaring, is_declared_here}
use Rattle.cs_declarations.specs.Initializers.{InFunction, Reading, initial_typed}
use Rattle.cs_declarations.specs.Objects.{object_type}

-- the inside of a function at a point: what is known, its parameters and locals, and how many of its labels were met
pub record Inside : Type 0 where
  pub known : Environment
  pub variables : List Variable
  pub met : ℕ

abbrev pub knowing : Environment → Inside → Inside
knowing k i = record { known = k; variables = i.variables; met = i.met }

-- a local and the statement that declares it
pub record LocalDeclared : Type 0 where
  pub statement : Statement
  pub inside : Inside

-- after the name of a local
abbrev pub with_local : List ℕ → Shape → Inside → Inside
with_local name ty i = record {
  known = declaring name (Local (length i.variables) ty) i.known;
  variables = i.variables ++ record { name = name; ty = ty; block = None } ∷ [];
  met = i.met;
}

abbrev pub local_held : ℕ → Place → Inside → Reading → Verdict LocalDeclared
local_held number at i r = Fine (record { statement = Declare at number (Some r.0); inside = knowing (with_literals r.1 i.known) i })

-- a local is declared at its `=`, or at its name if it has none; its name is known after its declarator
abbrev pub local_initialized : ℕ → Shape → Place → Option RawFirstValue → Inside → Verdict LocalDeclared
local_initialized number ty at None i = Fine (record { statement = Declare at number None; inside = i })
local_initialized number ty at (Some value) i =
    lift (local_held number value.place i) (initial_typed i.known.context i.known.literals InFunction value.place ty value.initial)

-- a declared object of a block
abbrev pub local_added : Shape → RawInit → Inside → Verdict LocalDeclared
local_added base d i =
    if is_declared_here d.declarator.name i.known then Fault DeclaredTwice d.declarator.place
    else lift (λ ty. local_initialized (length i.variables) ty d.declarator.place d.initial (with_local d.declarator.name ty i))
    (object_type i.known.context base d)

-- statements, and what is known after them
pub record TypedStatements : Type 0 where
  pub statements : List Statement
  pub inside : Inside

abbrev pub after_local : List Statement → LocalDeclared → Verdict TypedStatements
after_local before one = Fine (record { statements = before ++ one.statement ∷ []; inside = one.inside })

abbrev pub locals_added : Shape → List RawInit → TypedStatements → Verdict TypedStatements
locals_added base [] so_far = Fine so_far
locals_added base (d ∷ ds) so_far = lift (locals_added base ds) (lift (after_local so_far.statements) (local_added base d so_far.inside))

-- In a well-formed program each allocation has the arguments that its function requires: for the lowering of typed programs.
use Rattle.std.proofs.Common.{◌≡◌, ℕ, zero, suc, List, [], ◌∷◌, Option, Some, None, refl, subst}
use Rattle.std.specs.Prelude.{IfSome, slice_get, unwrap_or}
use Rattle.std.specs.List.{AllByRecursion}
use Rattle.std.proofs.lemmas.List.Elements.{recursion_from_All}
use Rattle.cs_types.specs.declared.data_model.DataModel.{DataModel}
use Rattle.cs_types.specs.Shape.{Shape}
use Rattle.cs_ast.specs.declared.typed.operator.Allocator.{Allocator}
use Rattle.cs_ast.specs.declared.typed.operator.Allocator.TheVariants.{Malloc, Calloc}
use Rattle.cs_ast.specs.TypedTree.{Typed, Of, Form, Number, Null, Text, Local, Global, Through, Index, Member, Arrow, Load, Address, Decay, Convert, Unary, Not}
use Rattle.cs_ast.specs.TypedTree.{Binary, Compare, Sum, Difference, And, Or, Choice, Comma, Assign, Update, Move, Call, Allocate, Free, TypedList, NoMore}
use Rattle.cs_ast.specs.TypedTree.{Further, Initial, Value, Parts, Bytes, Initials, NoPart, Part, Statement, Block, Declare, Run, If, IfElse, While, Do, For}
use Rattle.cs_ast.specs.TypedTree.{Switch, Goto, Label, Break, Continue, Return, Statements, Empty, Then}
use Rattle.cs_ast.specs.TypedProgram.{TypedProgram, Routine}
use Rattle.cs_meaning.specs.Expressions.{count_all}
use Rattle.cs_meaning.specs.Machine.{NOWHERE, no_routine}
use Rattle.cs_cfg.specs.Working.{allocator_takes}
use Rattle.cs_lower.specs.Allocations.{HasArguments, FormHasArguments, AllHaveArguments, OptionHasArguments, InitialHasArguments, InitialsHaveArguments}
use Rattle.cs_lower.specs.Allocations.{OptionInitialHasArguments, StatementHasArguments, StatementsHaveArguments, AllocationsHaveArguments}
use Rattle.cs_well_formed.specs.Expressions.{Setting, IsWell, IsWellForm, AreWell, AreValuesOf, sizes_of}
use Rattle.cs_well_formed.specs.Initials.{IsWellInitial, AreWellParts}
use Rattle.cs_well_formed.specs.Statements.{IsDroppedIfAny, IsTestIfAny, IsReturned, IsWellStatement, AreWellStatements}
use Rattle.cs_well_formed.specs.Programs.{setting_of, IsWellBody, IsWellRoutine, IsWellFormed}

-- as many values as an allocation has sizes
sizes-counted : (model : DataModel) (allocator : Allocator) (arguments : TypedList) → AreValuesOf arguments (sizes_of model allocator)
    → count_all arguments ≡ allocator_takes allocator
sizes-counted model Malloc (Further one NoMore) h = refl
sizes-counted model Malloc NoMore h = absurd h
sizes-counted model Malloc (Further one (Further two others)) h = absurd h.1
sizes-counted model Calloc (Further one (Further two NoMore)) h = refl
sizes-counted model Calloc NoMore h = absurd h
sizes-counted model Calloc (Further one NoMore) h = absurd h.1
sizes-counted model Calloc (Further one (Further two (Further three others))) h = absurd h.1.1

mutual
  pub well-allocates : (s : Setting) (e : Typed) → IsWell s e → HasArguments e
  well-allocates s (Of at ty form) h = form-allocates s ty form h

  form-allocates : (s : Setting) (ty : Shape) (form : Form) → IsWellForm s ty form → FormHasArguments form
  form-allocates s ty (Number n) h = tt
  form-allocates s ty Null h = tt
  form-allocates s ty (Text number) h = tt
  form-allocates s ty (Local number) h = tt
  form-allocates s ty (Global number) h = tt
  form-allocates s ty (Through a) h = well-allocates s a h.0
  form-allocates s ty (Index a i order) h = (well-allocates s a h.0, well-allocates s i h.1)
  form-allocates s ty (Member a offset) h = well-allocates s a h.0
  form-allocates s ty (Arrow a offset) h = well-allocates s a h.0
  form-allocates s ty (Load a) h = well-allocates s a h.0
  form-allocates s ty (Address a) h = well-allocates s a h.0
  form-allocates s ty (Decay a) h = well-allocates s a h.0
  form-allocates s ty (Convert a) h = well-allocates s a h.0
  form-allocates s ty (Unary op a) h = well-allocates s a h.0
  form-allocates s ty (Not a) h = well-allocates s a h.0
  form-allocates s ty (Binary op a b) h = (well-allocates s a h.0, well-allocates s b h.1)
  form-allocates s ty (Compare op a b) h = (well-allocates s a h.0, well-allocates s b h.1)
  form-allocates s ty (Sum a n direction order) h = (well-allocates s a h.0, well-allocates s n h.1)
  form-allocates s ty (Difference a b) h = (well-allocates s a h.0, well-allocates s b h.1)
  form-allocates s ty (And a b) h = (well-allocates s a h.0, well-allocates s b h.1)
  form-allocates s ty (Or a b) h = (well-allocates s a h.0, well-allocates s b h.1)
  form-allocates s ty (Choice a b c) h = (well-allocates s a h.0, well-allocates s b h.1, well-allocates s c h.2)
  form-allocates s ty (Comma a b) h = (well-allocates s a h.0, well-allocates s b h.1)
  form-allocates s ty (Assign a b) h = (well-allocates s a h.0, well-allocates s b h.1)
  form-allocates s ty (Update op a b works_in gives) h = (well-allocates s a h.0, well-allocates s b h.1)
  form-allocates s ty (Move a n direction gives) h = (well-allocates s a h.0, well-allocates s n h.1)
  form-allocates s ty (Call function arguments) h = all-allocate s arguments h.0
  form-allocates s ty (Allocate allocator arguments element) h = (sizes-counted s.program.model allocator arguments h.1, all-allocate s arguments h.0)
  form-allocates s ty (Free a) h = well-allocates s a h.0

  all-allocate : (s : Setting) (row : TypedList) → AreWell s row → AllHaveArguments row
  all-allocate s NoMore h = tt
  all-allocate s (Further e others) h = (well-allocates s e h.0, all-allocate s others h.1)

mutual
  initial-allocates : (s : Setting) (ty : Shape) (i : Initial) → IsWellInitial s ty i → InitialHasArguments i
  initial-allocates s ty (Value v) h = well-allocates s v h.0
  initial-allocates s ty (Bytes bytes) h = tt
  initial-allocates s ty (Parts parts) h = parts-allocate s h.0 parts h.2

  parts-allocate : (s : Setting) (types : List Shape) (parts : Initials) → AreWellParts s types parts → InitialsHaveArguments parts
  parts-allocate s types NoPart h = tt
  parts-allocate s [] (Part first others) h = absurd h
  parts-allocate s (ty ∷ types) (Part first others) h = (initial-allocates s ty first h.0, parts-allocate s types others h.1)

test-allocates : (s : Setting) (test : Option Typed) → IsTestIfAny s test → OptionHasArguments test
test-allocates s None h = tt
test-allocates s (Some e) h = well-allocates s e h.0

dropped-allocates : (s : Setting) (last : Option Typed) → IsDroppedIfAny s last → OptionHasArguments last
dropped-allocates s None h = tt
dropped-allocates s (Some e) h = well-allocates s e h.0

returned-allocates : (s : Setting) (value : Option Typed) → IsReturned s value → OptionHasArguments value
returned-allocates s None h = tt
returned-allocates s (Some e) h = well-allocates s e h.0

first-allocates : (s : Setting) (ty : Shape) (first : Option Initial) → IfSome first (λ i. IsWellInitial s ty i) → OptionInitialHasArguments first
first-allocates s ty None h = tt
first-allocates s ty (Some i) h = initial-allocates s ty i h

mutual
  statement-allocates : (s : Setting) (statement : Statement) → IsWellStatement s statement → StatementHasArguments statement
  statement-allocates s (Block at statements) h = statements-allocate s statements h
  statement-allocates s (Declare at number first) h = first-allocates s h.0.ty first h.2
  statement-allocates s (Run at e) h = well-allocates s e h.0
  statement-allocates s (If at test body) h = (well-allocates s test h.0, statement-allocates s body h.2)
  statement-allocates s (IfElse at test body other) h = (well-allocates s test h.0, statement-allocates s body h.2, statement-allocates s other h.3)
  statement-allocates s (While at test body) h = (well-allocates s test h.0, statement-allocates s body h.2)
  statement-allocates s (Do at body test) h = (statement-allocates s body h.2, well-allocates s test h.0)
  statement-allocates s (For at first test last body) h =
      (statements-allocate s first h.0, test-allocates s test h.1, dropped-allocates s last h.2, statement-allocates s body h.3)
  statement-allocates s (Switch at value cases statements) h = (well-allocates s value h.0, statements-allocate s statements h.3)
  statement-allocates s (Goto at label) h = tt
  statement-allocates s (Label at label body) h = statement-allocates s body h.1
  statement-allocates s (Break at) h = tt
  statement-allocates s (Continue at) h = tt
  statement-allocates s (Return at value) h = returned-allocates s value h

  statements-allocate : (s : Setting) (statements : Statements) → AreWellStatements s statements → StatementsHaveArguments statements
  statements-allocate s Empty h = tt
  statements-allocate s (Then first others) h = (statement-allocates s first h.0, statements-allocate s others h.1)

-- the function with a number in a list of well-formed functions
routine-allocates : (p : TypedProgram) (routines : List Routine) → AllByRecursion (IsWellRoutine p) routines → (function : ℕ) (body : Statement) →
    (unwrap_or (slice_get routines function) (no_routine NOWHERE)).body ≡ Some body → StatementHasArguments body
routine-allocates p [] h function body is = absurd cc
routine-allocates p (r ∷ routines) h zero body is =
    let well : IsWellBody p r body = subst (λ b. IfSome b (IsWellBody p r)) is h.0.body in
    statement-allocates (setting_of p r body) body well.statement
routine-allocates p (r ∷ routines) h (suc function) body is = routine-allocates p routines h.1 function body is

pub well_formed_allocates : (p : TypedProgram) → IsWellFormed p → AllocationsHaveArguments p
well_formed_allocates p h function body is = routine-allocates p p.routines (recursion_from_All (IsWellRoutine p) p.routines h.routines) function body is

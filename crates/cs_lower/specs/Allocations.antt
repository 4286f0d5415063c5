-- Each allocation has the arguments that its function takes (C11 7.22.3.2, 7.22.3.4): a recursion over the syntax. Type checking ensures
-- this.
use Rattle.std.specs.Prelude.{◌≡◌, ℕ, List, [], ◌∷◌, Option, Some, None}
use Rattle.cs_ast.specs.TypedTree.{Typed, Of, Form, Through, Index, Member, Arrow, Load, Address, Decay, Convert, Unary, Not, Binary, Compare, Sum, Difference}
use Rattle.cs_ast.specs.TypedTree.{And, Or, Choice, Comma, Assign, Update, Move, Call, Allocate, Free, TypedList, NoMore, Further, Initial, Value, Parts, Bytes}
use Rattle.cs_ast.specs.TypedTree.{Initials, NoPart, Part, Statement, Block, Declare, Run, If, IfElse, While, Do, For, Switch, Goto, Label, Break, Continue}
use Rattle.cs_ast.specs.TypedTree.{Return, Statements, Empty, Then}
use Rattle.cs_ast.specs.TypedProgram.{TypedProgram}
use Rattle.cs_meaning.specs.Initials.{Piece, Evaluated, Spelled}
use Rattle.cs_meaning.specs.Expressions.{count_all}
use Rattle.cs_meaning.specs.Machine.{routine_of}
use Rattle.cs_cfg.specs.Working.{allocator_takes}

abbrev mutual
  -- in an expression
  pub HasArguments : Typed → Type 0
  HasArguments (Of at ty form) = FormHasArguments form

  pub FormHasArguments : Form → Type 0
  FormHasArguments (Through a) = HasArguments a
  FormHasArguments (Index a i order) = HasArguments a × HasArguments i
  FormHasArguments (Member a offset) = HasArguments a
  FormHasArguments (Arrow a offset) = HasArguments a
  FormHasArguments (Load a) = HasArguments a
  FormHasArguments (Address a) = HasArguments a
  FormHasArguments (Decay a) = HasArguments a
  FormHasArguments (Convert a) = HasArguments a
  FormHasArguments (Unary op a) = HasArguments a
  FormHasArguments (Not a) = HasArguments a
  FormHasArguments (Binary op a b) = HasArguments a × HasArguments b
  FormHasArguments (Compare op a b) = HasArguments a × HasArguments b
  FormHasArguments (Sum a n direction order) = HasArguments a × HasArguments n
  FormHasArguments (Difference a b) = HasArguments a × HasArguments b
  FormHasArguments (And a b) = HasArguments a × HasArguments b
  FormHasArguments (Or a b) = HasArguments a × HasArguments b
  FormHasArguments (Choice a b c) = HasArguments a × HasArguments b × HasArguments c
  FormHasArguments (Comma a b) = HasArguments a × HasArguments b
  FormHasArguments (Assign a b) = HasArguments a × HasArguments b
  FormHasArguments (Update op a b works_in gives) = HasArguments a × HasArguments b
  FormHasArguments (Move a n direction gives) = HasArguments a × HasArguments n
  FormHasArguments (Call function arguments) = AllHaveArguments arguments
  FormHasArguments (Allocate allocator arguments element) = (count_all arguments ≡ allocator_takes allocator) × AllHaveArguments arguments
  FormHasArguments (Free a) = HasArguments a
  FormHasArguments other = Unit {0}

  -- in several expressions
  pub AllHaveArguments : TypedList → Type 0
  AllHaveArguments NoMore = Unit {0}
  AllHaveArguments (Further e others) = HasArguments e × AllHaveArguments others

-- in an optional expression
abbrev pub OptionHasArguments : Option Typed → Type 0
OptionHasArguments None = Unit {0}
OptionHasArguments (Some e) = HasArguments e

abbrev mutual
  -- in an initializer
  pub InitialHasArguments : Initial → Type 0
  InitialHasArguments (Value e) = HasArguments e
  InitialHasArguments (Parts parts) = InitialsHaveArguments parts
  InitialHasArguments (Bytes bytes) = Unit {0}

  pub InitialsHaveArguments : Initials → Type 0
  InitialsHaveArguments NoPart = Unit {0}
  InitialsHaveArguments (Part first others) = InitialHasArguments first × InitialsHaveArguments others

-- in the pieces of an initializer
abbrev pub PiecesHaveArguments : List Piece → Type 0
PiecesHaveArguments [] = Unit {0}
PiecesHaveArguments (Evaluated offset e ∷ others) = HasArguments e × PiecesHaveArguments others
PiecesHaveArguments (Spelled offset bytes ∷ others) = PiecesHaveArguments others

-- in an optional initializer
abbrev pub OptionInitialHasArguments : Option Initial → Type 0
OptionInitialHasArguments None = Unit {0}
OptionInitialHasArguments (Some initial) = InitialHasArguments initial

abbrev mutual
  -- in a statement
  pub StatementHasArguments : Statement → Type 0
  StatementHasArguments (Block at statements) = StatementsHaveArguments statements
  StatementHasArguments (Declare at declaration initial) = OptionInitialHasArguments initial
  StatementHasArguments (Run at e) = HasArguments e
  StatementHasArguments (If at test body) = HasArguments test × StatementHasArguments body
  StatementHasArguments (IfElse at test body other) = HasArguments test × StatementHasArguments body × StatementHasArguments other
  StatementHasArguments (While at test body) = HasArguments test × StatementHasArguments body
  StatementHasArguments (Do at body test) = StatementHasArguments body × HasArguments test
  StatementHasArguments (For at first test last body) =
      StatementsHaveArguments first × OptionHasArguments test × OptionHasArguments last × StatementHasArguments body
  StatementHasArguments (Switch at value cases statements) = HasArguments value × StatementsHaveArguments statements
  StatementHasArguments (Goto at label) = Unit {0}
  StatementHasArguments (Label at label body) = StatementHasArguments body
  StatementHasArguments (Break at) = Unit {0}
  StatementHasArguments (Continue at) = Unit {0}
  StatementHasArguments (Return at value) = OptionHasArguments value

  -- in consecutive statements
  pub StatementsHaveArguments : Statements → Type 0
  StatementsHaveArguments Empty = Unit {0}
  StatementsHaveArguments (Then first others) = StatementHasArguments first × StatementsHaveArguments others

-- in the bodies of a program's functions
abbrev pub AllocationsHaveArguments : TypedProgram → Type 0
AllocationsHaveArguments program = (function : ℕ) (body : Statement) → (routine_of program function).body ≡ Some body → StatementHasArguments body

-- Typed trees all of whose positions are in a set: that of the files of a program.
use Rattle.std.specs.Prelude.{ℕ, ◌<◌, IfSome}
use Rattle.std.specs.List.{All}
use Rattle.cs_ast.specs.declared.place.Place.{Place}
use Rattle.cs_ast.specs.TypedTree.{Typed, Of, Form, Number, Null, Text, Local, Global, Through, Index, Member, Arrow, Load, Address, Decay, Convert, Unary, Not}
use Rattle.cs_ast.specs.TypedTree.{Binary, Compare, Sum, Difference, And, Or, Choice, Comma, Assign, Update, Move, Call, Allocate, Free, TypedList, NoMore}
use Rattle.cs_ast.specs.TypedTree.{Further, Initial, Value, Parts, Bytes, Initials, NoPart, Part, Statement, Block, Declare, Run, If, IfElse, While, Do, For}
use Rattle.cs_ast.specs.TypedTree.{Switch, Goto, Label, Break, Continue, Return, Statements, Empty, Then}
use Rattle.cs_ast.specs.TypedProgram.{TypedProgram, FileObject, Routine}

-- a position in one of `count` files
abbrev pub IsOfFiles : ℕ → Place → Type 0
IsOfFiles count at = at.file < count

abbrev mutual
  -- the positions of an expression, and of all in it, are in this set
  pub StandsAmong : (Place → Type 0) → Typed → Type 0
  StandsAmong Is (Of at ty form) = Is at × PartsStandAmong Is form

  pub PartsStandAmong : (Place → Type 0) → Form → Type 0
  PartsStandAmong Is (Number value) = Unit {0}
  PartsStandAmong Is Null = Unit {0}
  PartsStandAmong Is (Text literal) = Unit {0}
  PartsStandAmong Is (Local declaration) = Unit {0}
  PartsStandAmong Is (Global global) = Unit {0}
  PartsStandAmong Is (Through e) = StandsAmong Is e
  PartsStandAmong Is (Index array number order) = StandsAmong Is array × StandsAmong Is number
  PartsStandAmong Is (Member object offset) = StandsAmong Is object
  PartsStandAmong Is (Arrow e offset) = StandsAmong Is e
  PartsStandAmong Is (Load object) = StandsAmong Is object
  PartsStandAmong Is (Address object) = StandsAmong Is object
  PartsStandAmong Is (Decay array) = StandsAmong Is array
  PartsStandAmong Is (Convert value) = StandsAmong Is value
  PartsStandAmong Is (Unary operator operand) = StandsAmong Is operand
  PartsStandAmong Is (Not operand) = StandsAmong Is operand
  PartsStandAmong Is (Binary operator left right) = StandsAmong Is left × StandsAmong Is right
  PartsStandAmong Is (Compare operator left right) = StandsAmong Is left × StandsAmong Is right
  PartsStandAmong Is (Sum e amount direction order) = StandsAmong Is e × StandsAmong Is amount
  PartsStandAmong Is (Difference left right) = StandsAmong Is left × StandsAmong Is right
  PartsStandAmong Is (And left right) = StandsAmong Is left × StandsAmong Is right
  PartsStandAmong Is (Or left right) = StandsAmong Is left × StandsAmong Is right
  PartsStandAmong Is (Choice test one other) = StandsAmong Is test × StandsAmong Is one × StandsAmong Is other
  PartsStandAmong Is (Comma first second) = StandsAmong Is first × StandsAmong Is second
  PartsStandAmong Is (Assign object value) = StandsAmong Is object × StandsAmong Is value
  PartsStandAmong Is (Update operator object value works_in gives) = StandsAmong Is object × StandsAmong Is value
  PartsStandAmong Is (Move object amount direction gives) = StandsAmong Is object × StandsAmong Is amount
  PartsStandAmong Is (Call function arguments) = RowStandsAmong Is arguments
  PartsStandAmong Is (Allocate allocator arguments element) = RowStandsAmong Is arguments
  PartsStandAmong Is (Free e) = StandsAmong Is e

  -- the same for a list of expressions
  pub RowStandsAmong : (Place → Type 0) → TypedList → Type 0
  RowStandsAmong Is NoMore = Unit {0}
  RowStandsAmong Is (Further first others) = StandsAmong Is first × RowStandsAmong Is others

abbrev mutual
  pub InitialStandsAmong : (Place → Type 0) → Initial → Type 0
  InitialStandsAmong Is (Value value) = StandsAmong Is value
  InitialStandsAmong Is (Parts parts) = InitialsStandAmong Is parts
  InitialStandsAmong Is (Bytes bytes) = Unit {0}

  pub InitialsStandAmong : (Place → Type 0) → Initials → Type 0
  InitialsStandAmong Is NoPart = Unit {0}
  InitialsStandAmong Is (Part first others) = InitialStandsAmong Is first × InitialsStandAmong Is others

abbrev mutual
  pub StatementStandsAmong : (Place → Type 0) → Statement → Type 0
  StatementStandsAmong Is (Block at statements) = Is at × StatementsStandAmong Is statements
  StatementStandsAmong Is (Declare at declaration initial) = Is at × IfSome initial (InitialStandsAmong Is)
  StatementStandsAmong Is (Run at e) = Is at × StandsAmong Is e
  StatementStandsAmong Is (If at test body) = Is at × StandsAmong Is test × StatementStandsAmong Is body
  StatementStandsAmong Is (IfElse at test body other) = Is at × StandsAmong Is test × StatementStandsAmong Is body × StatementStandsAmong Is other
  StatementStandsAmong Is (While at test body) = Is at × StandsAmong Is test × StatementStandsAmong Is body
  StatementStandsAmong Is (Do at body test) = Is at × StatementStandsAmong Is body × StandsAmong Is test
  StatementStandsAmong Is (For at first test last body) =
      Is at × StatementsStandAmong Is first × IfSome test (StandsAmong Is) × IfSome last (StandsAmong Is) × StatementStandsAmong Is body
  StatementStandsAmong Is (Switch at value cases statements) = Is at × StandsAmong Is value × StatementsStandAmong Is statements
  StatementStandsAmong Is (Goto at label) = Is at
  StatementStandsAmong Is (Label at label body) = Is at × StatementStandsAmong Is body
  StatementStandsAmong Is (Break at) = Is at
  StatementStandsAmong Is (Continue at) = Is at
  StatementStandsAmong Is (Return at value) = Is at × IfSome value (StandsAmong Is)

  -- the same for a list of statements
  pub StatementsStandAmong : (Place → Type 0) → Statements → Type 0
  StatementsStandAmong Is Empty = Unit {0}
  StatementsStandAmong Is (Then first others) = StatementStandsAmong Is first × StatementsStandAmong Is others

-- a file-scope object: the positions of its first declaration and of its initializer
pub record ObjectStandsAmong (Is : Place → Type 0) (g : FileObject) : Type 0 where
  pub at : Is g.at
  pub initial : IfSome g.initial (InitialStandsAmong Is)

-- a function: the positions of its name, of the end of its body, and in its body
pub record RoutineStandsAmong (Is : Place → Type 0) (r : Routine) : Type 0 where
  pub at : Is r.at
  pub closes : Is r.closes
  pub body : IfSome r.body (StatementStandsAmong Is)

-- all positions in a program
pub record ProgramStandsAmong (Is : Place → Type 0) (p : TypedProgram) : Type 0 where
  pub globals : All (ObjectStandsAmong Is) p.globals
  pub routines : All (RoutineStandsAmong Is) p.routines

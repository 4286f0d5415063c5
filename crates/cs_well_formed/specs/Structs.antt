-- The numbers of structs in types are those of structs of the table, also in the types of pointers.
use Rattle.std.specs.Prelude.{◌<◌, List, length, IfSome}
use Rattle.std.specs.List.{All}
use Rattle.cs_types.specs.declared.structs.StructType.{StructType}
use Rattle.cs_types.specs.Members.{Member}
use Rattle.cs_types.specs.Shape.{Shape, void, integer, pointer, array, struct}
use Rattle.cs_ast.specs.TypedTree.{Typed, Of, Form, Number, Null, Text, Local, Global, Through, Index, Member as MemberOf, Arrow, Load, Address, Decay, Convert}
use Rattle.cs_ast.specs.TypedTree.{Unary, Not, Binary, Compare, Sum, Difference, And, Or, Choice, Comma, Assign, Update, Move, Call, Allocate, Free, TypedList}
use Rattle.cs_ast.specs.TypedTree.{NoMore, Further, Initial, Value, Parts, Bytes, Initials, NoPart, Part, Statement, Block, Declare, Run, If, IfElse, While, Do}
use Rattle.cs_ast.specs.TypedTree.{For, Switch, Goto, Label, Break, Continue, Return, Statements, Empty, Then}
use Rattle.cs_ast.specs.TypedProgram.{TypedProgram, Variable, FileObject, Routine}

-- the structs in a type are structs of the table
abbrev pub NamesStructs : List StructType → Shape → Type 0
NamesStructs table void = Unit {0}
NamesStructs table (integer ty) = Unit {0}
NamesStructs table (pointer target) = NamesStructs table target
NamesStructs table (array element count) = NamesStructs table element
NamesStructs table (struct number) = number < length table

abbrev mutual
  -- the types of an expression, and of all in it, name structs of the table
  pub ExpressionNames : List StructType → Typed → Type 0
  ExpressionNames table (Of at ty form) = NamesStructs table ty × PartsName table form

  pub PartsName : List StructType → Form → Type 0
  PartsName table (Number value) = Unit {0}
  PartsName table Null = Unit {0}
  PartsName table (Text literal) = Unit {0}
  PartsName table (Local declaration) = Unit {0}
  PartsName table (Global global) = Unit {0}
  PartsName table (Through e) = ExpressionNames table e
  PartsName table (Index elements number order) = ExpressionNames table elements × ExpressionNames table number
  PartsName table (MemberOf object offset) = ExpressionNames table object
  PartsName table (Arrow e offset) = ExpressionNames table e
  PartsName table (Load object) = ExpressionNames table object
  PartsName table (Address object) = ExpressionNames table object
  PartsName table (Decay object) = ExpressionNames table object
  PartsName table (Convert value) = ExpressionNames table value
  PartsName table (Unary operator operand) = ExpressionNames table operand
  PartsName table (Not operand) = ExpressionNames table operand
  PartsName table (Binary operator left right) = ExpressionNames table left × ExpressionNames table right
  PartsName table (Compare operator left right) = ExpressionNames table left × ExpressionNames table right
  PartsName table (Sum e amount direction order) = ExpressionNames table e × ExpressionNames table amount
  PartsName table (Difference left right) = ExpressionNames table left × ExpressionNames table right
  PartsName table (And left right) = ExpressionNames table left × ExpressionNames table right
  PartsName table (Or left right) = ExpressionNames table left × ExpressionNames table right
  PartsName table (Choice test one other) = ExpressionNames table test × ExpressionNames table one × ExpressionNames table other
  PartsName table (Comma first second) = ExpressionNames table first × ExpressionNames table second
  PartsName table (Assign object value) = ExpressionNames table object × ExpressionNames table value
  PartsName table (Update operator object value works_in gives) = ExpressionNames table object × ExpressionNames table value
  PartsName table (Move object amount direction gives) = ExpressionNames table object × ExpressionNames table amount
  PartsName table (Call function arguments) = RowNames table arguments
  PartsName table (Allocate allocator arguments element) = RowNames table arguments × NamesStructs table element
  PartsName table (Free e) = ExpressionNames table e

  -- the same for a list of expressions
  pub RowNames : List StructType → TypedList → Type 0
  RowNames table NoMore = Unit {0}
  RowNames table (Further first others) = ExpressionNames table first × RowNames table others

abbrev mutual
  pub InitialNames : List StructType → Initial → Type 0
  InitialNames table (Value value) = ExpressionNames table value
  InitialNames table (Parts parts) = InitialsName table parts
  InitialNames table (Bytes bytes) = Unit {0}

  pub InitialsName : List StructType → Initials → Type 0
  InitialsName table NoPart = Unit {0}
  InitialsName table (Part first others) = InitialNames table first × InitialsName table others

abbrev mutual
  pub StatementNames : List StructType → Statement → Type 0
  StatementNames table (Block at statements) = StatementsName table statements
  StatementNames table (Declare at declaration initial) = IfSome initial (InitialNames table)
  StatementNames table (Run at e) = ExpressionNames table e
  StatementNames table (If at test body) = ExpressionNames table test × StatementNames table body
  StatementNames table (IfElse at test body other) = ExpressionNames table test × StatementNames table body × StatementNames table other
  StatementNames table (While at test body) = ExpressionNames table test × StatementNames table body
  StatementNames table (Do at body test) = ExpressionNames table test × StatementNames table body
  StatementNames table (For at first test last body) =
      StatementsName table first × IfSome test (ExpressionNames table) × IfSome last (ExpressionNames table) × StatementNames table body
  StatementNames table (Switch at value cases statements) = ExpressionNames table value × StatementsName table statements
  StatementNames table (Goto at label) = Unit {0}
  StatementNames table (Label at label body) = StatementNames table body
  StatementNames table (Break at) = Unit {0}
  StatementNames table (Continue at) = Unit {0}
  StatementNames table (Return at value) = IfSome value (ExpressionNames table)

  -- the same for a list of statements
  pub StatementsName : List StructType → Statements → Type 0
  StatementsName table Empty = Unit {0}
  StatementsName table (Then first others) = StatementNames table first × StatementsName table others

-- the types of members name structs of the table
abbrev pub MembersName : List StructType → List Member → Type 0
MembersName table members = All (λ (m : Member). NamesStructs table m.ty) members

-- the types of the members of these structs do, if they have members
abbrev pub StructsName : List StructType → List StructType → Type 0
StructsName table structs = All (λ (s : StructType). IfSome s.members (MembersName table)) structs

-- the types of variables do
abbrev pub VariablesName : List StructType → List Variable → Type 0
VariablesName table variables = All (λ (v : Variable). NamesStructs table v.ty) variables

-- the declared types of functions: of the result, of the parameters and of the locals
pub record HasNamedTypes (table : List StructType) (r : Routine) : Type 0 where
  pub returns : NamesStructs table r.returns
  pub variables : VariablesName table r.variables

-- the declared types of a program: of the members of its structs, of its objects and of its functions
pub record TypesAreNamed (p : TypedProgram) : Type 0 where
  pub members : StructsName p.table p.table
  pub globals : All (λ (g : FileObject). NamesStructs p.table g.ty) p.globals
  pub routines : All (HasNamedTypes p.table) p.routines

-- all types in a program: the declared ones, and those of all nodes of initializers and bodies
pub record AllTypesAreNamed (p : TypedProgram) : Type 0 where
  pub declared : TypesAreNamed p
  pub globals : All (λ (g : FileObject). IfSome g.initial (InitialNames p.table)) p.globals
  pub routines : All (λ (r : Routine). IfSome r.body (StatementNames p.table)) p.routines

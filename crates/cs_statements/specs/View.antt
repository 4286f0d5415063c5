-- Parts of statements, as contracts see the types in the code.
use Rattle.std.specs.Prelude.{List, map, Option}
use Rattle.cs_types.specs.Shape.{shape_of}
use Rattle.cs_ast.specs.declared.place.Place.{Place}
use Rattle.cs_ast.specs.declared.typed.expression.Expr.{Expr}
use Rattle.cs_ast.specs.declared.typed.statement.Stmt.{Stmt}
use Rattle.cs_ast.specs.declared.typed.statement.StmtKind.{StmtKind}
use Rattle.cs_ast.specs.TypedTree.{Typed, Statement}
use Rattle.cs_ast.specs.TypedView.{typed, some_typed, statement, statement_at}
use Rattle.cs_ast.specs.TypedProgram.{variable}
use Rattle.cs_declarations.specs.View.{environment_of}
use Rattle.cs_statements.specs.declared.inside.Inside.{Inside as HeldInside}
use Rattle.cs_statements.specs.declared.inside.Where.{Where as HeldWhere}
use Rattle.cs_statements.specs.declared.switches.Switched.{Switched}
use Rattle.cs_statements.specs.Locals.{Inside, LocalDeclared, TypedStatements}
use Rattle.cs_statements.specs.Statements.{Where, Part, Switching}

abbrev pub inside_of : HeldInside → Inside
inside_of i = record { known = environment_of i.known; variables = map variable i.locals.items; met = i.met }

-- parts of statements, with the inside of the function after them
abbrev pub typed_statements_of : List Stmt → HeldInside → TypedStatements
typed_statements_of statements i = record { statements = map statement statements; inside = inside_of i }

abbrev pub local_of : Stmt → HeldInside → LocalDeclared
local_of s i = record { statement = statement s; inside = inside_of i }

abbrev pub typed_part : Expr → HeldInside → Part Typed
typed_part e i = record { found = typed e; inside = inside_of i }

abbrev pub optional_part : Option Expr → HeldInside → Part (Option Typed)
optional_part e i = record { found = some_typed e; inside = inside_of i }

abbrev pub statement_part : Stmt → HeldInside → Part Statement
statement_part s i = record { found = statement s; inside = inside_of i }

-- the same for the kind of a statement at a position
abbrev pub kind_at : Place → StmtKind → Inside → Part Statement
kind_at at kind i = record { found = statement_at at kind; inside = i }

abbrev pub kind_part : Place → StmtKind → HeldInside → Part Statement
kind_part at kind i = kind_at at kind (inside_of i)

-- a `switch` so far
abbrev pub switching_of : Switched → HeldInside → Switching
switching_of s i = record { cases = s.cases; reported = typed_statements_of s.statements.items i }

abbrev pub where_of : HeldWhere → Where
where_of w = record { returns = shape_of w.returns.now; labels = w.labels.now; breaks = w.breaks; continues = w.continues }

-- Typed programs as plain data: the meaning of a program is stated over them.
use Rattle.std.specs.Prelude.{ℕ, ℤ, Bool, List, Option, map, option_map}
use Rattle.cs_types.specs.declared.data_model.DataModel.{DataModel}
use Rattle.cs_types.specs.declared.structs.StructType.{StructType}
use Rattle.cs_types.specs.Layout.{IsLaidOut}
use Rattle.cs_types.specs.Shape.{Shape, shape_of}
use Rattle.cs_ast.specs.declared.place.Place.{Place}
use Rattle.cs_ast.specs.declared.typed.program.Program.{Program}
use Rattle.cs_ast.specs.declared.typed.program.Global.{Global}
use Rattle.cs_ast.specs.declared.typed.program.Function.{Function}
use Rattle.cs_ast.specs.declared.typed.program.Local.{Local}
use Rattle.cs_ast.specs.TypedTree.{Initial, Statement}
use Rattle.cs_ast.specs.TypedView.{initial, statement}

-- a parameter or a local of a function; if a parameter is declared with an array bound, `block` is the number of elements that it
-- points to
pub record Variable : Type 0 where
  pub name : List ℕ
  pub ty : Shape
  pub block : Option ℕ

-- a file-scope object, with the position of its first declaration
pub record FileObject : Type 0 where
  pub name : List ℕ
  pub at : Place
  pub ty : Shape
  pub constant : Bool
  pub initial : Option Initial

-- a function, with or without a body; its first variables are its parameters, and it may write through those that are `written`
pub record Routine : Type 0 where
  pub name : List ℕ
  pub at : Place
  pub returns : Shape
  pub parameters : ℕ
  pub variables : List Variable
  pub body : Option Statement
  pub closes : Place
  pub written : List Bool

-- a program
pub record TypedProgram : Type 0 where
  pub model : DataModel
  pub files : List (List ℕ)
  pub table : List StructType
  pub globals : List FileObject
  pub literals : List (List ℕ)
  pub routines : List Routine
  pub constants : List ℤ

abbrev pub variable : Local → Variable
variable v = record { name = v.name; ty = shape_of v.ty; block = v.block }

abbrev pub file_object : Global → FileObject
file_object g = record { name = g.name; at = g.place; ty = shape_of g.ty; constant = g.constant; initial = option_map initial g.initial }

abbrev pub routine : Function → Routine
routine f = record {
  name = f.name;
  at = f.place;
  returns = shape_of f.result;
  parameters = f.parameters;
  variables = map variable f.locals.items;
  body = option_map statement f.body;
  closes = f.end;
  written = f.written.items;
}

-- the program's typed program as plain data
abbrev pub typed_program : Program → TypedProgram
typed_program p = record {
  model = p.model;
  files = p.files.items;
  table = p.table.list;
  globals = map file_object p.globals.items;
  literals = p.literals.items;
  routines = map routine p.functions.items;
  constants = p.constants.items;
}

-- the layouts of the program's structs are those of its data model
abbrev pub HasLayouts : Program → Type 0
HasLayouts p = IsLaidOut p.model p.table.list

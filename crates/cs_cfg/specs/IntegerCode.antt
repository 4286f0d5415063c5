-- Integer code: operations on integers, and accesses to whole integer locals.
use Rattle.std.specs.Prelude.{◌≡◌, ◌<◌, ℕ, true, Some, All, length}
use Rattle.cs_types.specs.declared.int_type.IntType.{IntType}
use Rattle.cs_types.specs.Shape.{integer}
use Rattle.cs_ast.specs.TypedProgram.{TypedProgram}
use Rattle.cs_meaning.specs.Access.{Access}
use Rattle.cs_meaning.specs.Machine.{routine_of}
use Rattle.cs_cfg.specs.Graph.{Work, Number, Local as LocalPlace, Nothing, Convert, Unary, Not, Binary, Compare, Judge, Load, Store, FetchNumber, Update}
use Rattle.cs_cfg.specs.Graph.{Drop, Clear, StoreLocal, Reach, Meet, Close, Operation, Point, Flow, Code, flow_of}

-- how many locals, including parameters, a function has
abbrev pub count_of_locals : TypedProgram → ℕ → ℕ
count_of_locals program function = length (routine_of program function).variables

-- an access to an integer variable
pub record IsOfInteger (access : Access) : Type 0 where
  pub direct : access.direct ≡ true
  pub ty : IntType
  pub of : access.ty ≡ integer ty

-- the work of integer code in a function with a number of locals: the numbers of the locals it accesses are less
abbrev pub IsIntegerWork : ℕ → Work → Type 0
IsIntegerWork count (Number n) = Unit {0}
IsIntegerWork count (LocalPlace declaration) = declaration < count
IsIntegerWork count Nothing = Unit {0}
IsIntegerWork count (Load access) = IsOfInteger access
IsIntegerWork count (Convert from to) = Unit {0}
IsIntegerWork count (Unary operator ty) = Unit {0}
IsIntegerWork count Not = Unit {0}
IsIntegerWork count (Binary operator ty) = Unit {0}
IsIntegerWork count (Compare operator) = Unit {0}
IsIntegerWork count Judge = Unit {0}
IsIntegerWork count (Store access) = IsOfInteger access
IsIntegerWork count (FetchNumber access ty) = IsOfInteger access
IsIntegerWork count (Update operator access ty gives) = IsOfInteger access
IsIntegerWork count Drop = Unit {0}
IsIntegerWork count (Clear declaration scalar) = declaration < count
IsIntegerWork count (StoreLocal declaration offset ty scalar) = declaration < count
IsIntegerWork count (Reach kind counted_point) = Unit {0}
IsIntegerWork count (Meet kind) = Unit {0}
IsIntegerWork count (Close nothing) = Unit {0}
IsIntegerWork count other = ⊥

abbrev pub IsIntegerOperation : ℕ → Operation → Type 0
IsIntegerOperation count operation = IsIntegerWork count operation.work

-- the same for all operations of a point
abbrev pub IsIntegerPoint : ℕ → Point → Type 0
IsIntegerPoint count p = All (IsIntegerOperation count) p.operations

-- a function whose graph is integer code
abbrev pub HasIntegerCode : Code → TypedProgram → ℕ → Type 0
HasIntegerCode code program function =
    (flow : Flow) → flow_of code function ≡ Some flow → All (IsIntegerPoint (count_of_locals program function)) flow.blocks

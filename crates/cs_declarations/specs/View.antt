-- What is known, and parts of declarations, as contracts see the types in the code.
use Rattle.std.specs.Prelude.{ℕ, ℤ, List, map}
use Rattle.cs_types.specs.declared.ctype.CType.{CType}
use Rattle.cs_types.specs.Shape.{Shape, shape_of}
use Rattle.cs_ast.specs.declared.typed.program.Local.{Local}
use Rattle.cs_ast.specs.TypedProgram.{Variable}
use Rattle.cs_declarations.specs.declared.environment.Environment.{Environment as Held}
use Rattle.cs_declarations.specs.declared.environment.ScopeSnapshot.{ScopeSnapshot as HeldSnapshot}
use Rattle.cs_declarations.specs.declared.sizes.Extent.{Extent as HeldExtent}
use Rattle.cs_declarations.specs.declared.sizes.Extent.TheVariants as held
use Rattle.cs_declarations.specs.declared.laying.Laying.{Laying as HeldLaying}
use Rattle.cs_declarations.specs.declared.parameters.Passed.{Passed as HeldPassed}
use Rattle.cs_declarations.specs.declared.parameters.Head.{Head as HeldHead}
use Rattle.cs_declarations.specs.Environment.{Environment, ScopeSnapshot}
use Rattle.cs_declarations.specs.Sizes.{Extent, Whole, Unsized}
use Rattle.cs_declarations.specs.Bodies.{Laying, Counting, Opening, Body}
use Rattle.cs_declarations.specs.Parameters.{Passed, Head}
use Rattle.cs_ast.specs.declared.typed.statement.Initial.{Initial as HeldInitial}
use Rattle.cs_ast.specs.TypedView.{initial, initial_list}
use Rattle.cs_declarations.specs.Initializers.{Storage, InFile, InFunction, Reading, Readings}
use Rattle.cs_declarations.specs.declared.storage.Storage.{Storage as HeldStorage}
use Rattle.cs_declarations.specs.declared.storage.Storage.TheVariants as stands

abbrev pub environment_of : Held → Environment
environment_of k = record { context = k.context; reading = k.reading.items; outer = k.outer; literals = k.literals.items }

abbrev pub snapshot : HeldSnapshot → ScopeSnapshot
snapshot m = record { declarations = m.declarations; outer = m.outer }

abbrev pub extent : HeldExtent → Extent
extent (held.Whole ty) = Whole (shape_of ty)
extent (held.Unsized element) = Unsized (shape_of element)

abbrev pub laying : HeldLaying → Laying
laying l = record { members = l.members; size = l.size; align = l.align }

abbrev pub passed_of : HeldPassed → Passed
passed_of p = record { ty = shape_of p.ty; block = p.block }

abbrev pub variable : Local → Variable
variable l = record { name = l.name; ty = shape_of l.ty; block = l.block }

-- the result of a function, and what is known after it
abbrev pub typing : CType → Held → Shape × Environment
typing ty k = (shape_of ty, environment_of k)

abbrev pub counting : ℤ → Held → Counting
counting next k = record { next = next; known = environment_of k }

abbrev pub opened_as : ℕ → Held → Opening
opened_as number k = record { number = number; known = environment_of k }

abbrev pub body : HeldLaying → Held → Body
body l k = record { laying = laying l; known = environment_of k }

abbrev pub head : HeldHead → Held → Head
head h k = record { variables = map variable h.parameters.items; written = h.written.items; twice = h.twice; known = environment_of k }

abbrev pub storage : HeldStorage → Storage
storage stands.File = InFile
storage stands.Function = InFunction

-- what is read, and the string literals after it
abbrev pub reading : HeldInitial → List (List ℕ) → Reading
reading i literals = (initial i, literals)

abbrev pub readings : List HeldInitial → List (List ℕ) → Readings
readings list literals = (initial_list list, literals)

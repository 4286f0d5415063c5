-- The types of declared objects (C11 6.7, 6.9.2).
use Rattle.std.specs.Prelude.{ℕ, Option}
use Rattle.std.specs.Option.{option_map}
use Rattle.cs_types.specs.Shape.{Shape}
use Rattle.cs_ast.specs.declared.raw.declaration.RawFirstValue.{RawFirstValue}
use Rattle.cs_ast.specs.declared.raw.declaration.RawInit.{RawInit}
use Rattle.cs_scopes.specs.declared.context.Context.{Context}
use Rattle.cs_scopes.specs.Verdicts.{Verdict, lift}
use Rattle.cs_scopes.specs.TypeNames.{complete_at}
use Rattle.cs_declarations.specs.Bodies.{declarator_type}
use Rattle.cs_declarations.specs.Initializers.{elements_given}

-- how many elements the initializer after an `=` gives
abbrev pub count_given : Option RawFirstValue → Option ℕ
count_given first = option_map (λ (value : RawFirstValue). elements_given value.initial) first

-- the type of an object, which has to be complete (C11 6.7, paragraph 7)
abbrev pub object_type : Context → Shape → RawInit → Verdict Shape
object_type c base d = lift (complete_at c.table.list d.declarator.place) (declarator_type c base (count_given d.initial) d.declarator)

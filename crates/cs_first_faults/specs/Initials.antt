-- The failing positions of initializers (C11 6.7.9): what the `=` requires of their form and of each value, and then those of the values.
use Rattle.std.specs.Prelude.{if◌then◌else◌, [], ◌∷◌, ◌++◌, List, Some, option_to_list}
use Rattle.cs_types.specs.Shape.{Shape, array}
use Rattle.cs_ast.specs.declared.place.Place.{Place}
use Rattle.cs_ast.specs.declared.raw.declaration.RawInitial as first_value
use Rattle.cs_ast.specs.declared.raw.declaration.RawInitial.{RawInitial}
use Rattle.cs_ast.specs.declared.raw.expression.RawExpr.{RawExpr}
use Rattle.cs_scopes.specs.declared.context.Context.{Context}
use Rattle.cs_scopes.specs.declared.refusal.TypeCode.{TypeCode}
use Rattle.cs_scopes.specs.declared.refusal.TypeCode.TheVariants.{Initializer}
use Rattle.cs_expressions.specs.Primary.{Literals}
use Rattle.cs_declarations.specs.Initializers.{Storage, has_form, Reading, expression_read, types_or_none, initial_read, part_judged}
use Rattle.cs_scopes.specs.Parts.{part_types}
use Rattle.cs_declarations.specs.Initializers.{initial_judged, literals_read, scalar_limit}
use Rattle.cs_first_faults.specs.Failures.{FailingPlace, failing_at, codes_of, if_typed}
use Rattle.cs_first_faults.specs.Roles.{value_asked_failures}

abbrev mutual
  -- an item of a list that has a type is converted to that of its element or member as if by assignment (4, 9); the values of a struct's
  -- members are in braces of their own, and a file-scope object is initialized with constants (13)
  pub item_codes : Context → Literals → Storage → Place → Shape → RawInitial → List TypeCode
  item_codes c literals storage at ty (first_value.TheVariants.Value e) =
      if_typed (λ (r : Reading). codes_of (part_judged c storage at ty r.0)) (expression_read c literals ty e)
  item_codes c literals storage at ty (first_value.TheVariants.List' shape row comma) =
      items_codes c literals storage at (types_or_none (part_types c.table.list ty)) row

  pub items_codes : {n : _} → Context → Literals → Storage → Place → List Shape → first_value.Row_of-RawInitial n → List TypeCode
  items_codes c literals storage at types first_value.end_of-RawInitial = []
  items_codes c literals storage at [] (first_value.more_of-RawInitial first others) = []
  items_codes c literals storage at (ty ∷ types) (first_value.more_of-RawInitial first others) =
      item_codes c literals storage at ty first
      ++ items_codes c (literals_read (initial_read c literals ty first)) storage at types others

abbrev pub list_codes : Context → Literals → Storage → Place → Shape → RawInitial → List TypeCode
list_codes c literals storage at ty (first_value.TheVariants.Value e) = []
list_codes c literals storage at ty (first_value.TheVariants.List' shape row comma) =
    items_codes c literals storage at (types_or_none (part_types c.table.list ty)) row

-- the same for an initializer of the right form: a single value that has a type is converted to the object's as if by assignment (4, 9),
-- and a file-scope object is initialized with constants (13)
abbrev pub whole_codes : Context → Literals → Storage → Place → Shape → RawInitial → List TypeCode
whole_codes c literals storage at ty (first_value.TheVariants.Value e) =
    if_typed (λ (r : Reading). codes_of (initial_judged c storage at ty r.0)) (expression_read c literals ty e)
whole_codes c literals storage at ty (first_value.TheVariants.List' shape row comma) =
    items_codes c literals storage at (types_or_none (part_types c.table.list ty)) row

-- a value by itself; a string literal for an array isn't one
abbrev pub expression_failures : Context → Literals → Shape → RawExpr → List FailingPlace
expression_failures c literals (array element count) e = []
expression_failures c literals ty e = value_asked_failures c literals (Some ty) e

abbrev mutual
  -- the values of an initializer in their order
  pub read_failures : Context → Literals → Shape → RawInitial → List FailingPlace
  read_failures c literals ty (first_value.TheVariants.Value e) = expression_failures c literals ty e
  read_failures c literals ty (first_value.TheVariants.List' shape row comma) =
      items_failures c literals (types_or_none (part_types c.table.list ty)) row

  pub items_failures : {n : _} → Context → Literals → List Shape → first_value.Row_of-RawInitial n → List FailingPlace
  items_failures c literals types first_value.end_of-RawInitial = []
  items_failures c literals [] (first_value.more_of-RawInitial first others) = []
  items_failures c literals (ty ∷ types) (first_value.more_of-RawInitial first others) =
      read_failures c literals ty first ++ items_failures c (literals_read (initial_read c literals ty first)) types others

-- the initializer after an `=`: it has the form that the type requires (13); otherwise only items of a list are checked, too. That of a
-- local stores at most 4,096 scalars, whatever its values are (18)
abbrev pub initial_failures : Context → Literals → Storage → Place → Shape → RawInitial → List FailingPlace
initial_failures c literals storage at ty written =
    if has_form c.table.list storage ty written
    then failing_at at (option_to_list (scalar_limit c.table.list storage ty written) ++ whole_codes c literals storage at ty written)
    ++ read_failures c literals ty written
    else failing_at at (Initializer ∷ list_codes c literals storage at ty written)

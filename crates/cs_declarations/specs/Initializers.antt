-- The initial values of objects (C11 6.7.9): the items of a list initialize the elements or members in order, each by its own braces.
use Rattle.std.specs.Prelude.{ℕ, suc, ◌+◌, nat_le, nat_lt, Bool, true, false, ◌&&◌, ◌||◌, if◌then◌else◌, List, []}
use Rattle.std.specs.Prelude.{◌∷◌, length, Option, Some, None, is_some}
use Rattle.cs_types.specs.declared.int_type.IntType.TheVariants.{Char, SChar, UChar}
use Rattle.cs_types.specs.Shape.{Shape, integer, array, struct}
use Rattle.cs_ast.specs.declared.place.Place.{Place}
use Rattle.cs_ast.specs.declared.raw.expression.RawExpr.{RawExpr}
use Rattle.cs_ast.specs.declared.raw.expression.RawExprKind.{RawExprKind}
use Rattle.cs_ast.specs.declared.raw.expression.RawExprKind.TheVariants as kind
use Rattle.cs_ast.specs.declared.raw.declaration.RawInitial as first_value
use Rattle.cs_ast.specs.declared.raw.declaration.RawInitial.{RawInitial}
use Rattle.cs_types.specs.declared.data_model.DataModel.{DataModel}
use Rattle.cs_ast.specs.TypedTree.{Typed, Initial, Value}
use Rattle.cs_ast.specs.TypedTree.{Parts, Bytes, Initials, NoPart, Part}
use Rattle.cs_types.specs.declared.structs.StructType.{StructType}
use Rattle.cs_scopes.specs.declared.context.Context.{Context}
use Rattle.cs_scopes.specs.declared.refusal.TypeCode.{TypeCode}
use Rattle.cs_scopes.specs.declared.refusal.TypeCode.TheVariants.{Initializer, TooManyScalars}
use Rattle.cs_scopes.specs.Verdicts.{Verdict, Fine, Fault, lift}
use Rattle.cs_folding.specs.TypedParts.{type_of}
use Rattle.cs_folding.specs.Addresses.{is_number, is_address}
use Rattle.cs_scopes.specs.Parts.{part_types}
use Rattle.cs_scopes.specs.Scalars.{few, scalars_in}
use Rattle.cs_expressions.specs.Conversions.{converted}
use Rattle.cs_scopes.specs.Faults.{lesser, least, least_code, code_in, unless_fault}
use Rattle.cs_expressions.specs.Primary.{Literals}
use Rattle.cs_consts.specs.Typing.{literals_after}
use Rattle.cs_consts.specs.Roles.{operand_of}

-- the storage of an object: a file-scope object is initialized with constants
pub data Storage : Type 0 where
  InFile : Storage
  InFunction : Storage

-- a character type, whose arrays string literals can initialize
abbrev pub is_character : Shape → Bool
is_character (integer Char) = true
is_character (integer SChar) = true
is_character (integer UChar) = true
is_character other = false

-- the bytes of an expression that is a string literal
abbrev pub text_of : RawExprKind → List ℕ
text_of (kind.Text bytes) = bytes
text_of other = []

-- the value may be the initializer of an object of this storage (paragraph 4)
abbrev pub is_admitted : DataModel → Storage → Typed → Bool
is_admitted model InFunction e = true
is_admitted model InFile e = is_number model e || is_address model e

-- the expression has the form that the type requires: a string literal for characters; for a struct only if no constant is required
abbrev pub takes_expression : Storage → Shape → RawExprKind → Bool
takes_expression storage (array element count) (kind.Text bytes) = is_character element && nat_le (length bytes) count
takes_expression storage (array element count) other = false
takes_expression InFile (struct number) e = false
takes_expression storage ty e = true

abbrev mutual
  -- the written initializer has the form that a type requires, as far as its braces and the number of its items show
  pub has_form : List StructType → Storage → Shape → RawInitial → Bool
  has_form table storage ty (first_value.TheVariants.Value e) = takes_expression storage ty e.kind.value
  has_form table storage ty (first_value.TheVariants.List' shape row comma) = have_forms table storage (part_types table ty) row

  pub have_forms : {n : _} → List StructType → Storage → Option (List Shape) → first_value.Row_of-RawInitial n → Bool
  have_forms table storage None row = false
  have_forms table storage (Some types) first_value.end_of-RawInitial = true
  have_forms table storage (Some []) (first_value.more_of-RawInitial first others) = false
  have_forms table storage (Some (ty ∷ types)) (first_value.more_of-RawInitial first others) =
      has_form table storage ty first && have_forms table storage (Some types) others

abbrev pub list_has_forms : List StructType → Storage → List Shape → List RawInitial → Bool
list_has_forms table storage types [] = true
list_has_forms table storage [] (first ∷ others) = false
list_has_forms table storage (ty ∷ types) (first ∷ others) = has_form table storage ty first && list_has_forms table storage types others

-- an initializer whose values aren't converted yet, and the string literals after it
abbrev pub Reading : Type 0
Reading = Initial × Literals

-- the same for the items of a list
abbrev pub Readings : Type 0
Readings = Initials × Literals

abbrev pub value_read : Literals → RawExprKind → Typed → Verdict Reading
value_read literals e v = Fine (Value v, literals_after literals e)

-- an expression that initializes something of a type: a string literal that initializes an array isn't one of the program's literals
abbrev pub expression_read : Context → Literals → Shape → RawExpr → Verdict Reading
expression_read c literals (array element count) e = Fine (Bytes (text_of e.kind.value), literals)
expression_read c literals ty e = lift (value_read literals e.kind.value) (operand_of c literals (Some ty) e)

-- the types of parts, an empty list if there are none
abbrev pub types_or_none : Option (List Shape) → List Shape
types_or_none (Some types) = types
types_or_none None = []

abbrev pub parts_read : Readings → Verdict Reading
parts_read r = Fine (Parts r.0, r.1)

abbrev pub one_more : Initial → Readings → Verdict Readings
one_more first r = Fine (Part first r.0, r.1)

abbrev mutual
  -- the values of an initializer of this form, in their order
  pub initial_read : Context → Literals → Shape → RawInitial → Verdict Reading
  initial_read c literals ty (first_value.TheVariants.Value e) = expression_read c literals ty e
  initial_read c literals ty (first_value.TheVariants.List' shape row comma) =
      lift parts_read (items_read c literals (types_or_none (part_types c.table.list ty)) row)

  pub items_read : {n : _} → Context → Literals → List Shape → first_value.Row_of-RawInitial n → Verdict Readings
  items_read c literals types first_value.end_of-RawInitial = Fine (NoPart, literals)
  items_read c literals [] (first_value.more_of-RawInitial first others) = Fine (NoPart, literals)
  items_read c literals (ty ∷ types) (first_value.more_of-RawInitial first others) =
      lift (λ (r : Reading). lift (one_more r.0) (items_read c r.1 types others)) (initial_read c literals ty first)

-- the items of a list of initializers
abbrev pub list_read : Context → Literals → List Shape → List RawInitial → Verdict Readings
list_read c literals types [] = Fine (NoPart, literals)
list_read c literals [] (first ∷ others) = Fine (NoPart, literals)
list_read c literals (ty ∷ types) (first ∷ others) =
    lift (λ (r : Reading). lift (one_more r.0) (list_read c r.1 types others)) (initial_read c literals ty first)

-- a value for an item of a list, not a struct itself, initializes the first member of a struct whose braces are omitted
abbrev pub is_braceless : Shape → Shape → Bool
is_braceless (struct n) (struct m) = false
is_braceless (struct n) other = true
is_braceless ty other = false

-- a converted value, if an object of this storage may hold it
abbrev pub value_held : DataModel → Storage → Place → Typed → Verdict Initial
value_held model storage at v = if is_admitted model storage v then Fine (Value v) else Fault Initializer at

abbrev pub value_judged : DataModel → Storage → Place → Shape → Typed → Verdict Initial
value_judged model storage at ty v = lift (value_held model storage at) (converted model at v ty (type_of v))

abbrev pub item_judged : DataModel → Storage → Place → Shape → Typed → Verdict Initial
item_judged model storage at ty v = if is_braceless ty (type_of v) then Fault Initializer at else value_judged model storage at ty v

-- an item before others: of two codes at the `=` the lesser is reported
abbrev pub before_others : Place → Verdict Initial → Verdict Initials → Verdict Initials
before_others at (Fine first) (Fine others) = Fine (Part first others)
before_others at (Fine first) (Fault code place) = Fault code at
before_others at (Fault code place) (Fine others) = Fault code at
before_others at (Fault code place) (Fault other there) = Fault (lesser code other) at

abbrev mutual
  -- an item of a list, checked at the `=`: its values are converted to their types as if by assignment (paragraph 11)
  pub part_judged : Context → Storage → Place → Shape → Initial → Verdict Initial
  part_judged c storage at ty (Value v) = item_judged c.model storage at ty v
  part_judged c storage at ty (Bytes bytes) = Fine (Bytes bytes)
  part_judged c storage at ty (Parts parts) =
      lift (λ all. Fine (Parts all)) (parts_judged c storage at (types_or_none (part_types c.table.list ty)) parts)

  pub parts_judged : Context → Storage → Place → List Shape → Initials → Verdict Initials
  parts_judged c storage at types NoPart = Fine NoPart
  parts_judged c storage at [] (Part first others) = Fine NoPart
  parts_judged c storage at (ty ∷ types) (Part first others) =
      before_others at (part_judged c storage at ty first) (parts_judged c storage at types others)

-- a whole initializer, converted and checked at the `=`
abbrev pub initial_judged : Context → Storage → Place → Shape → Initial → Verdict Initial
initial_judged c storage at ty (Value v) = value_judged c.model storage at ty v
initial_judged c storage at ty other = part_judged c storage at ty other

-- the literals after an item that is read; after one that is refused none, since the file is refused
abbrev pub literals_read : Verdict Reading → Literals
literals_read (Fine r) = r.1
literals_read (Fault code place) = []

-- the code at the `=` for a value or an item that has a type
abbrev pub reading_fault : (Initial → Verdict Initial) → Verdict Reading → Option TypeCode
reading_fault rule (Fine r) = code_in (rule r.0)
reading_fault rule (Fault code place) = None

abbrev mutual
  -- the least code at the `=` for the items of a list whose values have types
  pub item_fault : Context → Literals → Storage → Place → Shape → RawInitial → Option TypeCode
  item_fault c literals storage at ty (first_value.TheVariants.Value e) =
      reading_fault (part_judged c storage at ty) (expression_read c literals ty e)
  item_fault c literals storage at ty (first_value.TheVariants.List' shape row comma) =
      items_fault c literals storage at (types_or_none (part_types c.table.list ty)) row

  pub items_fault : {n : _} → Context → Literals → Storage → Place → List Shape → first_value.Row_of-RawInitial n → Option TypeCode
  items_fault c literals storage at types first_value.end_of-RawInitial = None
  items_fault c literals storage at [] (first_value.more_of-RawInitial first others) = None
  items_fault c literals storage at (ty ∷ types) (first_value.more_of-RawInitial first others) =
      least_code (item_fault c literals storage at ty first)
      (items_fault c (literals_read (initial_read c literals ty first)) storage at types others)

abbrev pub list_fault : Context → Literals → Storage → Place → List Shape → List RawInitial → Option TypeCode
list_fault c literals storage at types [] = None
list_fault c literals storage at [] (first ∷ others) = None
list_fault c literals storage at (ty ∷ types) (first ∷ others) =
    least_code (item_fault c literals storage at ty first) (list_fault c (literals_read (initial_read c literals ty first)) storage at types others)

-- the codes at the `=` for the items of an initializer of the wrong form; there is none for a single value
abbrev pub initial_fault : Context → Literals → Storage → Place → Shape → RawInitial → Option TypeCode
initial_fault c literals storage at ty (first_value.TheVariants.Value e) = None
initial_fault c literals storage at ty (first_value.TheVariants.List' shape row comma) =
    items_fault c literals storage at (types_or_none (part_types c.table.list ty)) row

-- the codes at the `=` for the values of an initializer of the right form
abbrev pub whole_fault : Context → Literals → Storage → Place → Shape → RawInitial → Option TypeCode
whole_fault c literals storage at ty (first_value.TheVariants.Value e) =
    reading_fault (initial_judged c storage at ty) (expression_read c literals ty e)
whole_fault c literals storage at ty (first_value.TheVariants.List' shape row comma) =
    items_fault c literals storage at (types_or_none (part_types c.table.list ty)) row

-- the sum of two numbers of scalars, if they are few
abbrev pub together : Option ℕ → Option ℕ → Option ℕ
together (Some n) (Some m) = few (n + m)
together one other = None

-- the number of bytes that a string literal stores in an array of `count`: with its zero byte if that fits
abbrev pub bytes_stored : ℕ → ℕ → Option ℕ
bytes_stored count bytes = few (if nat_lt bytes count then bytes + 1 else bytes)

-- the number of scalars that a value stores
abbrev pub value_stored : List StructType → Shape → RawExprKind → Option ℕ
value_stored table (array element count) e = bytes_stored count (length (text_of e))
value_stored table ty e = scalars_in table ty

abbrev mutual
  -- how many scalars a written initializer stores, if they are few: its values don't matter, and parts without an item aren't counted
  pub stored : List StructType → Shape → RawInitial → Option ℕ
  stored table ty (first_value.TheVariants.Value e) = value_stored table ty e.kind.value
  stored table ty (first_value.TheVariants.List' shape row comma) = row_stored table (types_or_none (part_types table ty)) row

  pub row_stored : {n : _} → List StructType → List Shape → first_value.Row_of-RawInitial n → Option ℕ
  row_stored table types first_value.end_of-RawInitial = Some 0
  row_stored table [] (first_value.more_of-RawInitial first others) = Some 0
  row_stored table (ty ∷ types) (first_value.more_of-RawInitial first others) = together (stored table ty first) (row_stored table types others)

abbrev pub list_stored : List StructType → List Shape → List RawInitial → Option ℕ
list_stored table types [] = Some 0
list_stored table [] (first ∷ others) = Some 0
list_stored table (ty ∷ types) (first ∷ others) = together (stored table ty first) (list_stored table types others)

-- the code at the `=` that doesn't depend on the values: the initializer of a local may only store few scalars
abbrev pub scalar_limit : List StructType → Storage → Shape → RawInitial → Option TypeCode
scalar_limit table InFile ty written = None
scalar_limit table InFunction ty written = if is_some (stored table ty written) then None else Some TooManyScalars

-- the values of an initializer, unless there is a code at the `=`: it is reported before a value that is refused
abbrev pub whole_read : Context → Literals → Storage → Place → Shape → RawInitial → Verdict Reading
whole_read c literals storage at ty written =
    unless_fault at (least_code (scalar_limit c.table.list storage ty written) (whole_fault c literals storage at ty written))
    (initial_read c literals ty written)

abbrev pub kept_with : Literals → Initial → Verdict Reading
kept_with literals found = Fine (found, literals)

-- the initializer after an `=`: its form, its values in their order, and their conversions, reported at the `=`. If the form is wrong,
-- the codes for the items that have types are weighed with it
abbrev pub initial_typed : Context → Literals → Storage → Place → Shape → RawInitial → Verdict Reading
initial_typed c literals storage at ty written =
    if has_form c.table.list storage ty written
    then lift (λ (r : Reading). lift (kept_with r.1) (initial_judged c storage at ty r.0)) (whole_read c literals storage at ty written)
    else Fault (least Initializer (initial_fault c literals storage at ty written)) at

-- how many elements a written initializer gives an array without a size: those of its list, or of its string literal with the zero
-- byte; 1 for another expression, which has the wrong form for every array, so that its size doesn't matter
abbrev pub row_count : {n : _} → first_value.Row_of-RawInitial n → ℕ
row_count first_value.end_of-RawInitial = 0
row_count (first_value.more_of-RawInitial first others) = suc (row_count others)

abbrev pub text_count : RawExprKind → ℕ
text_count (kind.Text bytes) = length bytes + 1
text_count other = 1

abbrev pub elements_given : RawInitial → ℕ
elements_given (first_value.TheVariants.Value e) = text_count e.kind.value
elements_given (first_value.TheVariants.List' shape row comma) = row_count row

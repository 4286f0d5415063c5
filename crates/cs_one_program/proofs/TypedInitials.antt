-- Initializers, and the bounds and types of declarators, that have the same parts at the same positions are typed alike.
use Rattle.std.proofs.Common.{◌≡◌, ℕ, suc, ◌&&◌, if◌then◌else◌, List, [], ◌∷◌, length, Option, Some, None, is_some, refl, ap, ◌∙◌}
use Rattle.std.specs.Option.{option_or}
use mathlib.Core.Former.{Count}
use Rattle.cs_types.specs.Shape.{Shape, void, integer, pointer, array, struct}
use Rattle.cs_types.specs.declared.structs.StructType.{StructType}
use Rattle.cs_ast.specs.declared.place.Place.{Place}
use Rattle.cs_ast.specs.declared.raw.expression.RawExpr.{RawExpr}
use Rattle.cs_ast.specs.declared.raw.expression.RawExprKind.{RawExprKind}
use Rattle.cs_ast.specs.declared.raw.declaration.RawDeclarator.{RawDeclarator}
use Rattle.cs_ast.specs.declared.raw.declaration.RawInitial as first_value
use Rattle.cs_ast.specs.declared.raw.declaration.RawInitial.{RawInitial}
use Rattle.cs_ast.specs.declared.raw.declaration.RawFirstValue.{RawFirstValue}
use Rattle.cs_ast.specs.declared.raw.declaration.RawInit.{RawInit}
use Rattle.cs_ast.specs.TypedTree.{Bytes, Value as Holds}
use Rattle.cs_scopes.specs.declared.context.Context.{Context}
use Rattle.cs_scopes.specs.declared.refusal.TypeCode.TheVariants.{Initializer, TooManyScalars}
use Rattle.cs_scopes.specs.TypeNames.{starred, complete_at}
use Rattle.cs_scopes.specs.Verdicts.{Fine, Fault, lift}
use Rattle.cs_scopes.specs.Faults.{least, least_code, unless_fault}
use Rattle.cs_folding.specs.TypedParts.{type_of}
use Rattle.cs_expressions.specs.Conversions.{converted}
use Rattle.cs_expressions.specs.Integers.{raised}
use Rattle.cs_expressions.specs.Operators.{tested}
use Rattle.cs_expressions.specs.Primary.{Literals}
use Rattle.cs_consts.specs.declared.purpose.Purpose.{Purpose}
use Rattle.cs_consts.specs.declared.purpose.Purpose.TheVariants.{Run, Constant}
use Rattle.cs_consts.specs.Typing.{done, value_in, operand_in, formed}
use Rattle.cs_consts.specs.Roles.{number_of_constant, value_of, operand_of, assigned_value, test_of, testing_fault, test_fault, selector_of, discarded_value}
use Rattle.cs_declarations.specs.Initializers.{Storage, InFile, InFunction, text_of, takes_expression, has_form, have_forms, Reading}
use Rattle.cs_scopes.specs.Parts.{part_types}
use Rattle.cs_declarations.specs.Initializers.{expression_read, types_or_none, parts_read, one_more, initial_read, items_read, part_judged, initial_judged}
use Rattle.cs_declarations.specs.Initializers.{literals_read, reading_fault, item_fault, items_fault, initial_fault, whole_fault}
use Rattle.cs_declarations.specs.Initializers.{together, bytes_stored, value_stored, stored, row_stored, scalar_limit, whole_read, kept_with, initial_typed}
use Rattle.cs_declarations.specs.Initializers.{row_count, text_count, elements_given}
use Rattle.cs_declarations.specs.Sizes.{size_said, size_or_one, sizes_said, fault_in, refused_bound, unless_refused, bounded, extent_of, filled}
use Rattle.cs_declarations.specs.Bodies.{declarator_type}
use Rattle.cs_declarations.specs.Objects.{count_given, object_type}
use Rattle.cs_one_program.specs.SameExpressions.{SameKind, SameExpr, Pairwise, none, more, IfBoth, absent, present}
use Rattle.cs_one_program.specs.SameExpressions as same
use Rattle.cs_one_program.specs.SameDeclarations.{SameBounds, SameDeclarator, SameInitial, SameInitials, Value, Listed, NoItem, MoreItems}
use Rattle.cs_one_program.specs.SameDeclarations.{SameFirstValue, SameInit}
use Rattle.cs_one_program.proofs.TypedExpressions.{literals_same, formed_same}

-- ---- the roles of expressions

formed_at : (c : Context) (purpose : Purpose) (literals : Literals) (target : Option Shape) {e e' : RawExpr} → SameExpr e e'
    → formed c purpose literals target e.place e.kind.value ≡ formed c purpose literals target e'.place e'.kind.value
formed_at c purpose literals target {e = e} {e' = e'} h =
    ap (λ at. formed c purpose literals target at e.kind.value) h.at ∙ formed_same c purpose literals target e'.place h.is

pub value_same : (c : Context) {e e' : RawExpr} → SameExpr e e' → value_of c e ≡ value_of c e'
unfolding value_of
value_same c h = λ i. lift number_of_constant (done c Constant (formed_at c Constant [] None h i))

pub operand_same : (c : Context) (literals : Literals) (target : Option Shape) {e e' : RawExpr} → SameExpr e e'
    → operand_of c literals target e ≡ operand_of c literals target e'
unfolding operand_of
operand_same c literals target h = λ i. operand_in c Run (formed_at c Run literals target h i)

pub assigned_same : (c : Context) (literals : Literals) (at : Place) (target : Shape) {e e' : RawExpr} → SameExpr e e'
    → assigned_value c literals at target e ≡ assigned_value c literals at target e'
unfolding assigned_value
assigned_same c literals at target h = λ i.
    lift (λ v. converted c.model at v target (type_of v)) (operand_in c Run (formed_at c Run literals (Some target) h i))

pub test_same : (c : Context) (literals : Literals) (at : Place) {e e' : RawExpr} → SameExpr e e' → test_of c literals at e ≡ test_of c literals at e'
unfolding test_of
test_same c literals at h = λ i. lift (tested at) (operand_in c Run (formed_at c Run literals None h i))

pub test_fault_same : (c : Context) (at : Place) {e e' : RawExpr} → SameExpr e e' → test_fault c at e ≡ test_fault c at e'
unfolding test_fault
test_fault_same c at h = ap (testing_fault at) (operand_same c [] None h)

pub selector_same : (c : Context) (literals : Literals) (at : Place) {e e' : RawExpr} → SameExpr e e'
    → selector_of c literals at e ≡ selector_of c literals at e'
unfolding selector_of
selector_same c literals at h = λ i. lift (λ v. raised c.model at v (type_of v)) (operand_in c Run (formed_at c Run literals None h i))

pub discarded_same : (c : Context) (literals : Literals) {e e' : RawExpr} → SameExpr e e' → discarded_value c literals e ≡ discarded_value c literals e'
unfolding discarded_value
discarded_same c literals h = λ i. value_in c Run (formed_at c Run literals None h i)

-- ---- initializers

text_same : {k k' : RawExprKind} → SameKind k k' → text_of k ≡ text_of k'
text_same same.Text = refl
text_same _ = refl

text_count_same : {k k' : RawExprKind} → SameKind k k' → text_count k ≡ text_count k'
text_count_same same.Text = refl
text_count_same _ = refl

takes_same : (storage : Storage) (ty : Shape) {k k' : RawExprKind} → SameKind k k' → takes_expression storage ty k ≡ takes_expression storage ty k'
takes_same InFile (array element count) same.Text = refl
takes_same InFunction (array element count) same.Text = refl
takes_same InFile (array element count) _ = refl
takes_same InFunction (array element count) _ = refl
takes_same InFile _ h = refl
takes_same InFunction _ h = refl

mutual
  form_same : (table : List StructType) (storage : Storage) (ty : Shape) {v v' : RawInitial} → SameInitial v v'
      → has_form table storage ty v ≡ has_form table storage ty v'
  form_same table storage ty (Value e) = takes_same storage ty e.is
  form_same table storage ty (Listed row) = forms_same table storage (part_types table ty) row

  forms_same : (table : List StructType) (storage : Storage) (types : Option (List Shape)) {n m : Count} {row : first_value.Row_of-RawInitial n}
      {row' : first_value.Row_of-RawInitial m} → SameInitials n m row row' → have_forms table storage types row ≡ have_forms table storage types row'
  forms_same table storage None NoItem = refl
  forms_same table storage None (MoreItems first others) = refl
  forms_same table storage (Some types) NoItem = refl
  forms_same table storage (Some []) (MoreItems first others) = refl
  forms_same table storage (Some (ty ∷ types)) (MoreItems first others) = λ i.
      form_same table storage ty first i && forms_same table storage (Some types) others i

read_same : (c : Context) (literals : Literals) (ty : Shape) {e e' : RawExpr} → SameExpr e e'
    → expression_read c literals ty e ≡ expression_read c literals ty e'
read_same c literals (array element count) h = ap (λ bytes. Fine (Bytes bytes, literals)) (text_same h.is)
read_same c literals ty h = λ i. lift (λ v. Fine (Holds v, literals_same literals h.is i)) (operand_same c literals (Some ty) h i)

mutual
  initial_read_same : (c : Context) (literals : Literals) (ty : Shape) {v v' : RawInitial} → SameInitial v v'
      → initial_read c literals ty v ≡ initial_read c literals ty v'
  initial_read_same c literals ty (Value e) = read_same c literals ty e
  initial_read_same c literals ty (Listed row) = λ i. lift parts_read (items_read_same c literals (types_or_none (part_types c.table.list ty)) row i)

  items_read_same : (c : Context) (literals : Literals) (types : List Shape) {n m : Count} {row : first_value.Row_of-RawInitial n}
      {row' : first_value.Row_of-RawInitial m} → SameInitials n m row row' → items_read c literals types row ≡ items_read c literals types row'
  items_read_same c literals types NoItem = refl
  items_read_same c literals [] (MoreItems first others) = refl
  items_read_same c literals (ty ∷ types) (MoreItems first others) = λ i.
      lift (λ (r : Reading). lift (one_more r.0) (items_read_same c r.1 types others i)) (initial_read_same c literals ty first i)

-- the codes at the `=` for items
mutual
  item_fault_same : (c : Context) (literals : Literals) (storage : Storage) (at : Place) (ty : Shape) {v v' : RawInitial} → SameInitial v v'
      → item_fault c literals storage at ty v ≡ item_fault c literals storage at ty v'
  item_fault_same c literals storage at ty (Value e) = ap (reading_fault (part_judged c storage at ty)) (read_same c literals ty e)
  item_fault_same c literals storage at ty (Listed row) = items_fault_same c literals storage at (types_or_none (part_types c.table.list ty)) row

  items_fault_same : (c : Context) (literals : Literals) (storage : Storage) (at : Place) (types : List Shape) {n m : Count}
      {row : first_value.Row_of-RawInitial n} {row' : first_value.Row_of-RawInitial m} → SameInitials n m row row'
      → items_fault c literals storage at types row ≡ items_fault c literals storage at types row'
  items_fault_same c literals storage at types NoItem = refl
  items_fault_same c literals storage at [] (MoreItems first others) = refl
  items_fault_same c literals storage at (ty ∷ types) (MoreItems first others) = λ i.
      least_code (item_fault_same c literals storage at ty first i)
      (items_fault_same c (literals_read (initial_read_same c literals ty first i)) storage at types others i)

fault_same : (c : Context) (literals : Literals) (storage : Storage) (at : Place) (ty : Shape) {v v' : RawInitial} → SameInitial v v'
    → initial_fault c literals storage at ty v ≡ initial_fault c literals storage at ty v'
fault_same c literals storage at ty (Value e) = refl
fault_same c literals storage at ty (Listed row) = items_fault_same c literals storage at (types_or_none (part_types c.table.list ty)) row

whole_fault_same : (c : Context) (literals : Literals) (storage : Storage) (at : Place) (ty : Shape) {v v' : RawInitial} → SameInitial v v'
    → whole_fault c literals storage at ty v ≡ whole_fault c literals storage at ty v'
whole_fault_same c literals storage at ty (Value e) = ap (reading_fault (initial_judged c storage at ty)) (read_same c literals ty e)
whole_fault_same c literals storage at ty (Listed row) = items_fault_same c literals storage at (types_or_none (part_types c.table.list ty)) row

-- how many scalars they store
value_stored_same : (table : List StructType) (ty : Shape) {k k' : RawExprKind} → SameKind k k' → value_stored table ty k ≡ value_stored table ty k'
value_stored_same table (array element count) h = ap (λ bytes. bytes_stored count (length bytes)) (text_same h)
value_stored_same table void h = refl
value_stored_same table (integer t) h = refl
value_stored_same table (pointer t) h = refl
value_stored_same table (struct n) h = refl

mutual
  stored_same : (table : List StructType) (ty : Shape) {v v' : RawInitial} → SameInitial v v' → stored table ty v ≡ stored table ty v'
  stored_same table ty (Value e) = value_stored_same table ty e.is
  stored_same table ty (Listed row) = row_stored_same table (types_or_none (part_types table ty)) row

  row_stored_same : (table : List StructType) (types : List Shape) {n m : Count} {row : first_value.Row_of-RawInitial n}
      {row' : first_value.Row_of-RawInitial m} → SameInitials n m row row' → row_stored table types row ≡ row_stored table types row'
  row_stored_same table types NoItem = refl
  row_stored_same table [] (MoreItems first others) = refl
  row_stored_same table (ty ∷ types) (MoreItems first others) = λ i.
      together (stored_same table ty first i) (row_stored_same table types others i)

limit_same : (table : List StructType) (storage : Storage) (ty : Shape) {v v' : RawInitial} → SameInitial v v'
    → scalar_limit table storage ty v ≡ scalar_limit table storage ty v'
limit_same table InFile ty h = refl
limit_same table InFunction ty h = ap (λ s. if is_some s then None else Some TooManyScalars) (stored_same table ty h)

whole_same : (c : Context) (literals : Literals) (storage : Storage) (ty : Shape) {v v' : RawFirstValue} → SameFirstValue v v'
    → whole_read c literals storage v.place ty v.initial ≡ whole_read c literals storage v'.place ty v'.initial
whole_same c literals storage ty {v = v} {v' = v'} h =
    ap (λ at. whole_read c literals storage at ty v.initial) h.at
    ∙ (λ i.
    unless_fault v'.place
    (least_code (limit_same c.table.list storage ty h.initial i) (whole_fault_same c literals storage v'.place ty h.initial i))
    (initial_read_same c literals ty h.initial i))

-- the initializer after an `=`
pub initial_same : (c : Context) (literals : Literals) (storage : Storage) (ty : Shape) {v v' : RawFirstValue} → SameFirstValue v v'
    → initial_typed c literals storage v.place ty v.initial ≡ initial_typed c literals storage v'.place ty v'.initial
initial_same c literals storage ty {v = v} {v' = v'} h = λ i.
    if form_same c.table.list storage ty h.initial i
    then lift (λ (r : Reading). lift (kept_with r.1) (initial_judged c storage (h.at i) ty r.0))
    (whole_same c literals storage ty h i)
    else Fault (least Initializer (placed_fault i)) (h.at i)
  where
    placed_fault : initial_fault c literals storage v.place ty v.initial ≡ initial_fault c literals storage v'.place ty v'.initial
    placed_fault = ap (λ at. initial_fault c literals storage at ty v.initial) h.at ∙ fault_same c literals storage v'.place ty h.initial

row_count_same : {n m : Count} {row : first_value.Row_of-RawInitial n} {row' : first_value.Row_of-RawInitial m} → SameInitials n m row row'
    → row_count row ≡ row_count row'
row_count_same NoItem = refl
row_count_same (MoreItems first others) = ap suc (row_count_same others)

elements_same : {v v' : RawInitial} → SameInitial v v' → elements_given v ≡ elements_given v'
elements_same (Value e) = text_count_same e.is
elements_same (Listed row) = row_count_same row

-- ---- bounds

said_same : (c : Context) {b b' : Option RawExpr} → IfBoth SameExpr b b' → size_said c b ≡ size_said c b'
said_same c absent = refl
said_same c (present h) = λ i. lift (λ v. Fine (Some v.1)) (value_same c h i)

pub sizes_same : (c : Context) {bounds bounds' : List (Option RawExpr)} → SameBounds bounds bounds' → sizes_said c bounds ≡ sizes_said c bounds'
sizes_same c none = refl
sizes_same c (more h all) = λ i. size_or_one (said_same c h i) ∷ sizes_same c all i

pub refused_same : (c : Context) {bounds bounds' : List (Option RawExpr)} → SameBounds bounds bounds' → refused_bound c bounds ≡ refused_bound c bounds'
refused_same c none = refl
refused_same c (more h all) = λ i. option_or (fault_in (said_same c h i)) (refused_same c all i)

pub bounded_same : (c : Context) {at at' : Place} {base base' : Shape} {bounds bounds' : List (Option RawExpr)} → at ≡ at' → base ≡ base'
    → SameBounds bounds bounds' → bounded c at base bounds ≡ bounded c at' base' bounds'
bounded_same c place ty none = ap Fine ty
bounded_same c place ty (more h all) = λ i. complete_at c.table.list (place i) (ty i)

-- the type that a declarator specifies for its name
pub declarator_same : (c : Context) (base : Shape) {count count' : Option ℕ} {d d' : RawDeclarator} → count ≡ count' → SameDeclarator d d'
    → declarator_type c base count d ≡ declarator_type c base count' d'
declarator_same c base elements h =
    let stands = bounded_same c h.at (ap (λ pointers. starred pointers base) h.pointers) h.bounds in λ i.
    lift (λ whole.
    lift (unless_refused (refused_same c h.bounds i))
    (lift (filled c (h.at i) (elements i)) (extent_of c (h.at i) whole (sizes_same c h.bounds i))))
    (stands i)

count_same : {v v' : Option RawFirstValue} → IfBoth SameFirstValue v v' → count_given v ≡ count_given v'
count_same absent = refl
count_same (present h) = ap Some (elements_same h.initial)

pub object_type_same : (c : Context) (base : Shape) {d d' : RawInit} → SameInit d d' → object_type c base d ≡ object_type c base d'
object_type_same c base h = λ i.
    lift (complete_at c.table.list (h.declarator.at i)) (declarator_same c base (count_same h.initial) h.declarator i)

-- Objects and statements that have the same parts at the same positions are typed alike.
use Rattle.std.proofs.Common.{◌≡◌, ℕ, false, if◌then◌else◌, List, [], ◌∷◌, ◌++◌, length, Option, Some, None, is_some, refl, ap}
use Rattle.std.proofs.Common.{◌∙◌}
use mathlib.Core.Former.{Count}
use Rattle.cs_types.specs.Shape.{Shape, same_shape}
use Rattle.cs_types.specs.Kinds.{is_complete}
use Rattle.cs_ast.specs.declared.place.Place.{Place}
use Rattle.cs_ast.specs.declared.raw.expression.RawExpr.{RawExpr}
use Rattle.cs_ast.specs.declared.raw.declaration.RawDeclarator.{RawDeclarator}
use Rattle.cs_ast.specs.declared.raw.declaration.RawFirstValue.{RawFirstValue}
use Rattle.cs_ast.specs.declared.raw.declaration.RawInit.{RawInit}
use Rattle.cs_ast.specs.declared.raw.declaration.RawSpecs.{RawSpecs}
use Rattle.cs_ast.specs.declared.raw.statement.RawStmtKind as kinds
use Rattle.cs_ast.specs.declared.raw.statement.RawStmtKind.{RawStmtKind}
use Rattle.cs_ast.specs.declared.raw.statement.RawItem.{RawItem}
use Rattle.cs_ast.specs.declared.raw.statement.RawSwitchItem as switches
use Rattle.cs_ast.specs.declared.raw.statement.RawFirst.{RawFirst}
use Rattle.cs_ast.specs.TypedTree.{Typed, Statement, Declare as Declares}
use Rattle.cs_scopes.specs.declared.refusal.TypeCode.TheVariants.{DeclaredTwice, Jump, Return as BadReturn}
use Rattle.cs_scopes.specs.Meanings.{Meaning, Global}
use Rattle.cs_scopes.specs.TypeNames.{starred}
use Rattle.cs_scopes.specs.Verdicts.{Fine, Fault, lift}
use Rattle.cs_folding.specs.TypedParts.{type_of}
use Rattle.cs_declarations.specs.Environment.{with_literals, declaring, is_declared_here, meaning_here}
use Rattle.cs_declarations.specs.Initializers.{InFile, InFunction}
use Rattle.cs_declarations.specs.Bodies.{Typing}
use Rattle.cs_statements.specs.Locals.{Inside, knowing, with_local, local_held, local_initialized}
use Rattle.cs_statements.specs.Locals.{local_added, TypedStatements, after_local, locals_added}
use Rattle.cs_statements.specs.Statements.{Where, in_loop, in_switch, Part, part, past, tested_in, dropped_in, some_found, tested_if, word_fault, after_word}
use Rattle.cs_statements.specs.Statements.{dropped_if, is_void}
use Rattle.cs_statements.specs.Statements.{returned, label_number, is_first, meeting, in_block, first_place, declaration_typed, no_statements, telling}
use Rattle.cs_statements.specs.Statements.{ran_first, first_typed, Switching, with_statements, labels_of, labels_of_item, labels_in, labels_of_switch_item}
use Rattle.cs_statements.specs.Statements.{labels_in_switch, block_made, run_made, if_made, if_else_made, while_made, do_made, for_made, switch_made}
use Rattle.cs_statements.specs.Statements.{return_made, label_made, constant_case, selected, statement_typed, item_typed, items_typed, switch_item_typed}
use Rattle.cs_statements.specs.Statements.{switch_typed, body_typed, labels_of_items}
use Rattle.cs_file_scope.specs.Objects.{Filed, may_be_object, Object, with_globals, object_of, changed, made_constant, with_initial}
use Rattle.cs_file_scope.specs.Objects.{object_initialized, object_added, objects_added}
use Rattle.cs_one_program.specs.SameExpressions.{SameExpr, Pairwise, none, more, IfBoth, absent, present}
use Rattle.cs_one_program.specs.SameDeclarations.{SameBefore, SameDeclarator, SameFirstValue, SameInit}
use Rattle.cs_one_program.specs.SameTrees.{SameFirst, Nothing, Ran, Declared, SameStatement, Block, Empty, Run, If, IfElse, While, Do, For, Switch, Goto}
use Rattle.cs_one_program.specs.SameTrees.{Continue, Break, Return, Label, SameItem, Declare, Does, SameItems, NoItem, MoreItems, SameSwitchItem, Case}
use Rattle.cs_one_program.specs.SameTrees.{Default, Inside as Within, SameSwitchItems, NoSwitchItem, MoreSwitchItems}
use Rattle.cs_one_program.proofs.TypedExpressions.{literals_same}
use Rattle.cs_one_program.proofs.TypedInitials.{value_same, assigned_same, test_same, test_fault_same, selector_same, discarded_same, initial_same}
use Rattle.cs_one_program.proofs.TypedInitials.{object_type_same}
use Rattle.cs_one_program.proofs.TypedDeclarations.{specs_same, constant_object_same}

-- ---- objects of files

pub some_same : {A : Type 0} {Same : A → A → Type 0} {a b : Option A} → IfBoth Same a b → is_some a ≡ is_some b
some_same absent = refl
some_same (present h) = refl

first_same : (ty : Shape) (o : Object) {v v' : Option RawFirstValue} → IfBoth SameFirstValue v v' → object_initialized ty v o ≡ object_initialized ty v' o
first_same ty o absent = refl
first_same ty o (present h) = λ i.
    lift (with_initial o.number o.filed) (initial_same o.filed.known.context o.filed.known.literals InFile ty h i)

new_object_same : (f : Filed) (ty : Shape) {d d' : RawDeclarator} → SameDeclarator d d' → object_of f d None ty ≡ object_of f d' None ty
new_object_same f ty h = λ i. Fine (record {
  number = length f.globals;
  filed = record {
    known = declaring (h.name i) (Global (length f.globals) ty) f.known;
    globals = f.globals ++ record { name = h.name i; at = h.at i; ty = ty; constant = false; initial = None } ∷ [];
    order = f.order;
    routines = f.routines;
  };
})

object_of_same : (f : Filed) (ty : Shape) {d d' : RawDeclarator} (meaning : Option Meaning) → SameDeclarator d d'
    → object_of f d meaning ty ≡ object_of f d' meaning ty
object_of_same f ty (Some (Global number before)) h = λ i.
    if same_shape before ty then Fine (record { number = number; filed = f }) else Fault DeclaredTwice (h.at i)
object_of_same f ty None h = new_object_same f ty h
object_of_same f ty (Some _) h = new_object_same f ty h

object_same : {s s' : RawSpecs} (base : Shape) (f : Filed) {d d' : RawInit} → SameBefore s s' → SameInit d d'
    → object_added s base d f ≡ object_added s' base d' f
object_same base f {d = d} {d' = d'} s h =
    let found : (ty : Shape) → object_of f d.declarator (meaning_here d.declarator.name f.known) ty
    ≡ object_of f d'.declarator (meaning_here d'.declarator.name f.known) ty =
    λ ty. object_of_same f ty (meaning_here d.declarator.name f.known) h.declarator
    ∙ ap (λ name. object_of f d'.declarator (meaning_here name f.known) ty) h.declarator.name in λ i.
    if may_be_object f.globals (is_complete f.known.context.table.list (starred (h.declarator.pointers i) base)) (some_same h.initial i)
    (meaning_here (h.declarator.name i) f.known)
    then lift (λ ty.
    lift (λ o. first_same ty o h.initial i)
    (lift (λ (o : Object). Fine (record {
      number = o.number;
      filed = with_globals (changed o.number (made_constant (constant_object_same s h.declarator.pointers i)) o.filed.globals) o.filed;
    })) (found ty i)))
    (object_type_same f.known.context base h i)
    else Fault DeclaredTwice (h.declarator.at i)

pub objects_same : {s s' : RawSpecs} (base : Shape) (f : Filed) {ds ds' : List RawInit} → SameBefore s s' → Pairwise SameInit ds ds'
    → objects_added s base ds f ≡ objects_added s' base ds' f
objects_same base f s none = refl
objects_same base f s (more h all) = λ i. lift (λ after. objects_same base after s all i) (object_same base f s h i)

-- ---- locals

local_first_same : (number : ℕ) (ty : Shape) {at at' : Place} (i : Inside) {v v' : Option RawFirstValue} → at ≡ at' → IfBoth SameFirstValue v v'
    → local_initialized number ty at v i ≡ local_initialized number ty at' v' i
local_first_same number ty i place absent = λ j. Fine (record { statement = Declares (place j) number None; inside = i })
local_first_same number ty i place (present h) = λ j.
    lift (local_held number (h.at j) i) (initial_same i.known.context i.known.literals InFunction ty h j)

local_same : (base : Shape) (i : Inside) {d d' : RawInit} → SameInit d d' → local_added base d i ≡ local_added base d' i
local_same base i {d = d} {d' = d'} h =
    let begins : (ty : Shape) → local_initialized (length i.variables) ty d.declarator.place d.initial (with_local d.declarator.name ty i)
    ≡ local_initialized (length i.variables) ty d'.declarator.place d'.initial (with_local d'.declarator.name ty i) =
    λ ty. local_first_same (length i.variables) ty (with_local d.declarator.name ty i) h.declarator.at h.initial
    ∙ ap (λ name. local_initialized (length i.variables) ty d'.declarator.place d'.initial (with_local name ty i)) h.declarator.name in λ j.
    if is_declared_here (h.declarator.name j) i.known then Fault DeclaredTwice (h.declarator.at j)
    else lift (λ ty. begins ty j) (object_type_same i.known.context base h j)

locals_same : (base : Shape) (so_far : TypedStatements) {ds ds' : List RawInit} → Pairwise SameInit ds ds'
    → locals_added base ds so_far ≡ locals_added base ds' so_far
locals_same base so_far none = refl
locals_same base so_far (more h all) = λ i.
    lift (λ after. locals_same base after all i) (lift (after_local so_far.statements) (local_same base so_far.inside h i))

first_place_same : {ds ds' : List RawInit} → Pairwise SameInit ds ds' → first_place ds ≡ first_place ds'
first_place_same none = refl
first_place_same (more h all) = h.declarator.at

declaration_same : (so_far : TypedStatements) {s s' : RawSpecs} {ds ds' : List RawInit} → SameBefore s s' → Pairwise SameInit ds ds'
    → declaration_typed s ds so_far ≡ declaration_typed s' ds' so_far
declaration_same so_far s all = λ i.
    lift (λ (ty : Typing). locals_same ty.0 (record { statements = so_far.statements; inside = knowing ty.1 so_far.inside }) all i)
    (specs_same so_far.inside.known (first_place_same all) s i)

-- ---- expressions of statements

past_same : (i : Inside) {e e' : RawExpr} → SameExpr e e' → past e i ≡ past e' i
past_same i h = λ j. knowing (with_literals (literals_same i.known.literals h.is j) i.known) i

tested_same : (at : Place) (i : Inside) {e e' : RawExpr} → SameExpr e e' → tested_in at i e ≡ tested_in at i e'
tested_same at i h = λ j. lift (part (past_same i h j)) (test_same i.known.context i.known.literals at h j)

dropped_same : (i : Inside) {e e' : RawExpr} → SameExpr e e' → dropped_in i e ≡ dropped_in i e'
dropped_same i h = λ j. lift (part (past_same i h j)) (discarded_same i.known.context i.known.literals h j)

word_same : (at : Place) (i : Inside) {e e' : Option RawExpr} → IfBoth SameExpr e e' → word_fault at i e ≡ word_fault at i e'
word_same at i absent = refl
word_same at i (present h) = test_fault_same i.known.context at h

tested_if_same : (at : Place) (i : Inside) {e e' : Option RawExpr} → IfBoth SameExpr e e' → tested_if at i e ≡ tested_if at i e'
tested_if_same at i absent = refl
tested_if_same at i (present h) = λ j. lift some_found (tested_same at i h j)

dropped_if_same : (i : Inside) {e e' : Option RawExpr} → IfBoth SameExpr e e' → dropped_if i e ≡ dropped_if i e'
dropped_if_same i absent = refl
dropped_if_same i (present h) = λ j. lift some_found (dropped_same i h j)

returned_same : (w : Where) (at : Place) (i : Inside) {e e' : Option RawExpr} → IfBoth SameExpr e e' → returned w at i e ≡ returned w at i e'
returned_same w at i absent = refl
returned_same w at i (present h) = λ j.
    lift some_found
    (if is_void w.returns then Fault BadReturn at
    else lift (part (past_same i h j)) (assigned_same i.known.context i.known.literals at w.returns h j))

selected_same : (at : Place) (i : Inside) {e e' : RawExpr} → SameExpr e e' → selected at i e ≡ selected at i e'
selected_same at i h = λ j. lift (part (past_same i h j)) (selector_same i.known.context i.known.literals at h j)

begun_same : (i : Inside) {first first' : RawFirst} → SameFirst first first' → first_typed i first ≡ first_typed i first'
begun_same i Nothing = refl
begun_same i (Ran h) = λ j. lift (ran_first (h.at j)) (dropped_same i h j)
begun_same i (Declared s all) = declaration_same (no_statements i) s all

-- ---- labels

mutual
  labels_same : {k k' : RawStmtKind} → SameStatement k k' → labels_of k ≡ labels_of k'
  labels_same (Block row) = labels_row_same row
  labels_same Empty = refl
  labels_same (Run e) = refl
  labels_same (If place test body) = labels_same body
  labels_same (IfElse place place' test body other) = λ i. labels_same body i ++ labels_same other i
  labels_same (While place test body) = labels_same body
  labels_same (Do place test body) = labels_same body
  labels_same (For place first test last body) = labels_same body
  labels_same (Switch value row) = labels_switch_same row
  labels_same Goto = refl
  labels_same Continue = refl
  labels_same Break = refl
  labels_same (Return value) = refl
  labels_same (Label name place body) = λ i. name ∷ labels_same body i

  labels_item_same : {i i' : RawItem} → SameItem i i' → labels_of_item i ≡ labels_of_item i'
  labels_item_same (Declare s all) = refl
  labels_item_same (Does place body) = labels_same body

  labels_row_same : {n m : Count} {row : kinds.Row_of-RawItem n} {row' : kinds.Row_of-RawItem m} → SameItems n m row row' → labels_in row ≡ labels_in row'
  labels_row_same NoItem = refl
  labels_row_same (MoreItems first others) = λ i. labels_item_same first i ++ labels_row_same others i

  labels_switch_item_same : {i i' : switches.RawSwitchItem} → SameSwitchItem i i' → labels_of_switch_item i ≡ labels_of_switch_item i'
  labels_switch_item_same (Case at value) = refl
  labels_switch_item_same (Default at) = refl
  labels_switch_item_same (Within inner) = labels_item_same inner

  labels_switch_same : {n m : Count} {row : kinds.Row_of-RawSwitchItem n} {row' : kinds.Row_of-RawSwitchItem m} → SameSwitchItems n m row row'
      → labels_in_switch row ≡ labels_in_switch row'
  labels_switch_same NoSwitchItem = refl
  labels_switch_same (MoreSwitchItems first others) = λ i. labels_switch_item_same first i ++ labels_switch_same others i

pub labels_list_same : {is is' : List RawItem} → Pairwise SameItem is is' → labels_of_items is ≡ labels_of_items is'
labels_list_same none = refl
labels_list_same (more h all) = λ i. labels_item_same h i ++ labels_list_same all i

-- ---- statements

mutual
  statement_same : (w : Where) (i : Inside) (at : Place) {k k' : RawStmtKind} → SameStatement k k' → statement_typed w i at k ≡ statement_typed w i at k'
  statement_same w i at (Block row) = λ j. lift (block_made at i) (items_same w (no_statements (in_block i)) row j)
  statement_same w i at Empty = refl
  statement_same w i at (Run e) = λ j. lift (run_made at) (dropped_same i e j)
  statement_same w i at (If place test body) = λ j.
      lift (λ (t : Part Typed). lift (if_made at t.found) (statement_same w t.inside place body j)) (tested_same at i test j)
  statement_same w i at (IfElse place place' test body other) = λ j.
      lift (λ (t : Part Typed).
      lift (λ (one : Part Statement). lift (if_else_made at t.found one.found) (statement_same w one.inside place' other j))
      (statement_same w t.inside place body j))
      (tested_same at i test j)
  statement_same w i at (While place test body) = λ j.
      lift (λ (t : Part Typed). lift (while_made at t.found) (statement_same (in_loop w) t.inside place body j)) (tested_same at i test j)
  statement_same w i at (Do place test body) = λ j.
      lift (λ (b : Part Statement). lift (do_made at b.found) (tested_same at b.inside test j))
      (after_word at (test_fault_same i.known.context at test j) (statement_same (in_loop w) i place body j))
  statement_same w i at (For place first test last body) = λ j.
      lift (λ (f : TypedStatements).
      lift (λ (t : Part (Option Typed)).
      lift (λ (l : Part (Option Typed)).
      lift (for_made at i f.statements t.found l.found) (statement_same (in_loop w) l.inside place body j))
      (dropped_if_same t.inside last j))
      (tested_if_same at f.inside test j))
      (after_word at (word_same at (in_block i) test j) (begun_same (in_block i) first j))
  statement_same w i at (Switch value row) = λ j.
      lift (λ (v : Part Typed).
      lift (switch_made at i v.found)
      (switch_same (in_switch w) (type_of v.found) (record { cases = []; reported = no_statements (in_block v.inside) }) row j))
      (selected_same at i value j)
  statement_same w i at Goto = refl
  statement_same w i at Continue = refl
  statement_same w i at Break = refl
  statement_same w i at (Return value) = λ j. lift (return_made at) (returned_same w at i value j)
  statement_same w i at (Label name place body) = λ j.
      if is_first i (label_number name w.labels) then lift (label_made at i.met) (statement_same w (meeting i) place body j) else Fault Jump at

  item_same : (w : Where) (so_far : TypedStatements) {i i' : RawItem} → SameItem i i' → item_typed w i so_far ≡ item_typed w i' so_far
  item_same w so_far (Declare s all) = declaration_same so_far s all
  item_same w so_far (Does place body) = λ j. lift (telling so_far.statements) (statement_same w so_far.inside place body j)

  items_same : (w : Where) (so_far : TypedStatements) {n m : Count} {row : kinds.Row_of-RawItem n} {row' : kinds.Row_of-RawItem m}
      → SameItems n m row row' → items_typed w row so_far ≡ items_typed w row' so_far
  items_same w so_far NoItem = refl
  items_same w so_far (MoreItems first others) = λ j. lift (λ after. items_same w after others j) (item_same w so_far first j)

  switch_item_same : (w : Where) (ty : Shape) (so_far : Switching) {i i' : switches.RawSwitchItem} → SameSwitchItem i i'
      → switch_item_typed w ty i so_far ≡ switch_item_typed w ty i' so_far
  switch_item_same w ty so_far (Case at value) = λ j.
      lift (λ n. constant_case at so_far ty n.1) (value_same so_far.reported.inside.known.context value j)
  switch_item_same w ty so_far (Default at) = refl
  switch_item_same w ty so_far (Within inner) = λ j. lift (with_statements so_far) (item_same w so_far.reported inner j)

  switch_same : (w : Where) (ty : Shape) (so_far : Switching) {n m : Count} {row : kinds.Row_of-RawSwitchItem n} {row' : kinds.Row_of-RawSwitchItem m}
      → SameSwitchItems n m row row' → switch_typed w ty row so_far ≡ switch_typed w ty row' so_far
  switch_same w ty so_far NoSwitchItem = refl
  switch_same w ty so_far (MoreSwitchItems first others) = λ j. lift (λ after. switch_same w ty after others j) (switch_item_same w ty so_far first j)

pub body_same : (w : Where) (so_far : TypedStatements) {is is' : List RawItem} → Pairwise SameItem is is'
    → body_typed w is so_far ≡ body_typed w is' so_far
body_same w so_far none = refl
body_same w so_far (more h all) = λ j. lift (λ after. body_same w after all j) (item_same w so_far h j)

-- The typing of statements (C11 6.8), each at its position and in its scope.
use Rattle.std.specs.Prelude.{ℕ, ◌+◌, nat_eq, ℤ, Bool, true, false, if◌then◌else◌, List, [], ◌∷◌, ◌++◌, length, Option, Some, None}
use Rattle.std.specs.Prelude.{Result, Ok, Err}
use Rattle.std.specs.List.{list_any, position}
use Rattle.std.specs.Ordering.{int_eq}
use Rattle.std.specs.Cmp.Lexicographic.{pointwise}
use Rattle.cs_types.specs.declared.data_model.DataModel.{DataModel}
use Rattle.cs_types.specs.Shape.{Shape, void, integer}
use Rattle.cs_ast.specs.declared.place.Place.{Place}
use Rattle.cs_ast.specs.declared.raw.expression.RawExpr.{RawExpr}
use Rattle.cs_ast.specs.declared.raw.declaration.RawSpecs.{RawSpecs}
use Rattle.cs_ast.specs.declared.raw.declaration.RawInit.{RawInit}
use Rattle.cs_ast.specs.declared.raw.statement.RawStmtKind as kinds
use Rattle.cs_ast.specs.declared.raw.statement.RawStmtKind.{RawStmtKind}
use Rattle.cs_ast.specs.declared.raw.statement.RawStmtKind.TheVariants as kind
use Rattle.cs_ast.specs.declared.raw.statement.RawItem.{RawItem}
use Rattle.cs_ast.specs.declared.raw.statement.RawItem as items
use Rattle.cs_ast.specs.declared.raw.statement.RawSwitchItem as switches
use Rattle.cs_ast.specs.declared.raw.statement.RawFirst.{RawFirst}
use Rattle.cs_ast.specs.declared.raw.statement.RawFirst.TheVariants as first_part
use Rattle.cs_ast.specs.declared.typed.statement.Case.{Case}
use Rattle.cs_ast.specs.TypedTree.{Typed, Statement, Block, Run, If, IfElse, While, Do, For, Switch, Goto, Label, Break, Continue, Return as Returns}
use Rattle.cs_ast.specs.TypedTree.{Statements, Empty, Then}
use Rattle.cs_types.specs.Wrap.{wrapped}
use Rattle.cs_scopes.specs.declared.refusal.TypeCode.{TypeCode}
use Rattle.cs_scopes.specs.declared.refusal.TypeCode.TheVariants.{Jump, CaseTwice, Return}
use Rattle.cs_scopes.specs.declared.refusal.TypeRefusal.{TypeRefusal}
use Rattle.cs_scopes.specs.declared.refusal.TypeRefusal.TheVariants.{Code, Memory}
use Rattle.cs_scopes.specs.Verdicts.{Verdict, Fine, Fault, lift}
use Rattle.cs_folding.specs.TypedParts.{type_of}
use Rattle.cs_consts.specs.Typing.{literals_after}
use Rattle.cs_consts.specs.Roles.{value_of, assigned_value, test_of, test_fault, selector_of, discarded_value}
use Rattle.cs_declarations.specs.Environment.{model_of, entered, left, with_literals}
use Rattle.cs_declarations.specs.Bodies.{Typing, specs_type}
use Rattle.cs_statements.specs.Locals.{Inside, knowing, TypedStatements, locals_added}

-- the context of a statement: the function's result and labels, and whether a `break` and a `continue` have a target
pub record Where : Type 0 where
  pub returns : Shape
  pub labels : List (List ℕ)
  pub breaks : Bool
  pub continues : Bool

abbrev pub in_loop : Where → Where
in_loop w = record { returns = w.returns; labels = w.labels; breaks = true; continues = true }

abbrev pub in_switch : Where → Where
in_switch w = record { returns = w.returns; labels = w.labels; breaks = true; continues = w.continues }

-- statements, one after another
abbrev pub in_a_row : List Statement → Statements
in_a_row [] = Empty
in_a_row (s ∷ ss) = Then s (in_a_row ss)

-- a part of a statement, and what is known after it
pub record Part (A : Type 0) : Type 0 where
  pub found : A
  pub inside : Inside

abbrev pub part : {A : Type 0} → Inside → A → Verdict (Part A)
part i found = Fine (record { found = found; inside = i })

-- after the string literals of an expression
abbrev pub past : RawExpr → Inside → Inside
past e i = knowing (with_literals (literals_after i.known.literals e.kind.value) i.known) i

-- an expression that is tested by the keyword at a position
abbrev pub tested_in : Place → Inside → RawExpr → Verdict (Part Typed)
tested_in at i e = lift (part (past e i)) (test_of i.known.context i.known.literals at e)

-- an expression whose value is discarded
abbrev pub dropped_in : Inside → RawExpr → Verdict (Part Typed)
dropped_in i e = lift (part (past e i)) (discarded_value i.known.context i.known.literals e)

abbrev pub some_found : Part Typed → Verdict (Part (Option Typed))
some_found p = Fine (record { found = Some p.found; inside = p.inside })

-- the same if there is one
abbrev pub tested_if : Place → Inside → Option RawExpr → Verdict (Part (Option Typed))
tested_if at i None = part i None
tested_if at i (Some e) = lift some_found (tested_in at i e)

-- the code with which the keyword at a position refuses its test, by what is known before the part between them
abbrev pub word_fault : Place → Inside → Option RawExpr → Option TypeCode
word_fault at i None = None
word_fault at i (Some e) = test_fault i.known.context at e

-- the part between them: if it is refused, a fault of the test at the keyword is reported first
abbrev pub after_word : {A : Type 0} → Place → Option TypeCode → Verdict A → Verdict A
after_word at None v = v
after_word at (Some code) (Fine value) = Fine value
after_word at (Some code) (Fault other place) = Fault code at

-- the same for the result of a function
abbrev pub answer_after : {A : Type 0} → Place → Option TypeCode → Result A TypeRefusal → Result A TypeRefusal
answer_after at None answer = answer
answer_after at (Some code) (Ok value) = Ok value
answer_after at (Some code) (Err (Code other place)) = Err (Code code at)
answer_after at (Some code) (Err Memory) = Err Memory

abbrev pub dropped_if : Inside → Option RawExpr → Verdict (Part (Option Typed))
dropped_if i None = part i None
dropped_if i (Some e) = lift some_found (dropped_in i e)

abbrev pub is_void : Shape → Bool
is_void void = true
is_void other = false

-- the value of a `return`, if the function has a result (C11 6.8.6.4)
abbrev pub value_returned : Where → Place → Inside → RawExpr → Verdict (Part Typed)
value_returned w at i e =
    if is_void w.returns then Fault Return at else lift (part (past e i)) (assigned_value i.known.context i.known.literals at w.returns e)

-- a `return`, which has a value exactly if there is a result
abbrev pub returned : Where → Place → Inside → Option RawExpr → Verdict (Part (Option Typed))
returned w at i None = if is_void w.returns then part i None else Fault Return at
returned w at i (Some e) = lift some_found (value_returned w at i e)

-- the number of a label among those of the function
abbrev pub label_number : List ℕ → List (List ℕ) → Option ℕ
label_number name labels = position (λ other. pointwise nat_eq other name) labels

abbrev pub goto_typed : Place → Inside → Option ℕ → Verdict (Part Statement)
goto_typed at i (Some number) = part i (Goto at number)
goto_typed at i None = Fault Jump at

-- a label is new: the first label of its name is the one that is met here (C11 6.8.1, paragraph 3)
abbrev pub is_first : Inside → Option ℕ → Bool
is_first i (Some number) = nat_eq number i.met
is_first i None = false

abbrev pub meeting : Inside → Inside
meeting i = record { known = i.known; variables = i.variables; met = i.met + 1 }

-- inside a block, and after it
abbrev pub in_block : Inside → Inside
in_block i = knowing (entered i.known) i

abbrev pub after_block : Inside → Inside → Inside
after_block before i = knowing (left before.known i.known) i

-- a declaration of locals, after other statements
abbrev pub declared_in : RawSpecs → List RawInit → TypedStatements → Typing → Verdict TypedStatements
declared_in s objects so_far ty = locals_added ty.0 objects (record { statements = so_far.statements; inside = knowing ty.1 so_far.inside })

abbrev pub first_place : List RawInit → Place
first_place [] = record { file = 0; line = 0; column = 0 }
first_place (d ∷ ds) = d.declarator.place

abbrev pub declaration_typed : RawSpecs → List RawInit → TypedStatements → Verdict TypedStatements
declaration_typed s objects so_far = lift (declared_in s objects so_far) (specs_type so_far.inside.known (first_place objects) s)

abbrev pub no_statements : Inside → TypedStatements
no_statements i = record { statements = []; inside = i }

abbrev pub telling : List Statement → Part Statement → Verdict TypedStatements
telling before p = Fine (record { statements = before ++ p.found ∷ []; inside = p.inside })

-- the first part of a `for` (C11 6.8.5.3)
abbrev pub ran_first : Place → Part Typed → Verdict TypedStatements
ran_first at p = Fine (record { statements = Run at p.found ∷ []; inside = p.inside })

abbrev pub first_typed : Inside → RawFirst → Verdict TypedStatements
first_typed i first_part.Empty = Fine (no_statements i)
first_typed i (first_part.Run e) = lift (ran_first e.place) (dropped_in i e)
first_typed i (first_part.Declare s objects) = declaration_typed s objects.items (no_statements i)

-- what a `switch` has so far: its cases, its statements, and what is known
pub record Switching : Type 0 where
  pub cases : List Case
  pub reported : TypedStatements

-- both are the same number, or `default`
abbrev pub same_value : Option ℤ → Option ℤ → Bool
same_value (Some n) (Some m) = int_eq n m
same_value None None = true
same_value one other = false

abbrev pub is_case : Option ℤ → List Case → Bool
is_case value cases = list_any (λ (c : Case). same_value c.value value) cases

-- a label of a `switch`, before the statement with a number; a label that the `switch` already has is refused (C11 6.8.4.2, paragraph 3)
abbrev pub case_put : Place → Option ℤ → ℕ → List Case → Verdict (List Case)
case_put at value item cases = if is_case value cases then Fault CaseTwice at else Fine (cases ++ record { value = value; item = item } ∷ [])

-- the same before the next statement
abbrev pub case_added : Place → Switching → Option ℤ → Verdict Switching
case_added at so_far value =
    lift (λ cases. Fine (record { cases = cases; reported = so_far.reported })) (case_put at value (length so_far.reported.statements) so_far.cases)

abbrev pub with_statements : Switching → TypedStatements → Verdict Switching
with_statements so_far reported = Fine (record { cases = so_far.cases; reported = reported })

abbrev mutual
  -- the names of a function's labels in their order
  pub labels_of : RawStmtKind → List (List ℕ)
  labels_of (kind.Block' shape row) = labels_in row
  labels_of kind.Empty = []
  labels_of (kind.Run e) = []
  labels_of (kind.If' test place p body) = labels_of body
  labels_of (kind.IfElse' test place p body place' q other) = labels_of body ++ labels_of other
  labels_of (kind.While' test place p body) = labels_of body
  labels_of (kind.Do' place p body test) = labels_of body
  labels_of (kind.For' first test last place p body) = labels_of body
  labels_of (kind.Switch' value shape row) = labels_in_switch row
  labels_of (kind.Goto label) = []
  labels_of kind.Continue = []
  labels_of kind.Break = []
  labels_of (kind.Return value) = []
  labels_of (kind.Label' name place p body) = name ∷ labels_of body

  pub labels_of_item : RawItem → List (List ℕ)
  labels_of_item (items.TheVariants.Declare s objects) = []
  labels_of_item (items.TheVariants.Run' place p body) = labels_of body

  pub labels_in : {n : _} → kinds.Row_of-RawItem n → List (List ℕ)
  labels_in kinds.end_of-RawItem = []
  labels_in (kinds.more_of-RawItem first others) = labels_of_item first ++ labels_in others

  pub labels_of_switch_item : switches.RawSwitchItem → List (List ℕ)
  labels_of_switch_item (switches.TheVariants.Case at value) = []
  labels_of_switch_item (switches.TheVariants.Default at) = []
  labels_of_switch_item (switches.TheVariants.Item i) = labels_of_item i

  pub labels_in_switch : {n : _} → kinds.Row_of-RawSwitchItem n → List (List ℕ)
  labels_in_switch kinds.end_of-RawSwitchItem = []
  labels_in_switch (kinds.more_of-RawSwitchItem first others) = labels_of_switch_item first ++ labels_in_switch others

-- statements, made from their parts
abbrev pub block_made : Place → Inside → TypedStatements → Verdict (Part Statement)
block_made at before reported = part (after_block before reported.inside) (Block at (in_a_row reported.statements))

abbrev pub run_made : Place → Part Typed → Verdict (Part Statement)
run_made at p = part p.inside (Run at p.found)

abbrev pub if_made : Place → Typed → Part Statement → Verdict (Part Statement)
if_made at test body = part body.inside (If at test body.found)

abbrev pub if_else_made : Place → Typed → Statement → Part Statement → Verdict (Part Statement)
if_else_made at test body other = part other.inside (IfElse at test body other.found)

abbrev pub while_made : Place → Typed → Part Statement → Verdict (Part Statement)
while_made at test body = part body.inside (While at test body.found)

abbrev pub do_made : Place → Statement → Part Typed → Verdict (Part Statement)
do_made at body test = part test.inside (Do at body test.found)

abbrev pub for_made : Place → Inside → List Statement → Option Typed → Option Typed → Part Statement → Verdict (Part Statement)
for_made at before first test last body = part (after_block before body.inside) (For at (in_a_row first) test last body.found)

abbrev pub switch_made : Place → Inside → Typed → Switching → Verdict (Part Statement)
switch_made at before value s = part (after_block before s.reported.inside) (Switch at value s.cases (in_a_row s.reported.statements))

abbrev pub return_made : Place → Part (Option Typed) → Verdict (Part Statement)
return_made at p = part p.inside (Returns at p.found)

abbrev pub label_made : Place → ℕ → Part Statement → Verdict (Part Statement)
label_made at number body = part body.inside (Label at number body.found)

-- a number converted to an integer type, modulo if that can't represent it
abbrev pub wrapped_in : DataModel → Shape → ℤ → ℤ
wrapped_in model (integer ty) n = wrapped model ty n
wrapped_in model other n = n

abbrev pub constant_case : Place → Switching → Shape → ℤ → Verdict Switching
constant_case at so_far ty n = case_added at so_far (Some (wrapped_in (model_of so_far.reported.inside.known) ty n))

abbrev pub selected : Place → Inside → RawExpr → Verdict (Part Typed)
selected at i e = lift (part (past e i)) (selector_of i.known.context i.known.literals at e)

abbrev mutual
  -- a statement at a position
  pub statement_typed : Where → Inside → Place → RawStmtKind → Verdict (Part Statement)
  -- C11 6.8.2
  statement_typed w i at (kind.Block' shape row) = lift (block_made at i) (items_typed w row (no_statements (in_block i)))
  -- C11 6.8.3
  statement_typed w i at kind.Empty = part i (Block at Empty)
  statement_typed w i at (kind.Run e) = lift (run_made at) (dropped_in i e)
  -- C11 6.8.4.1
  statement_typed w i at (kind.If' test place p body) =
      lift (λ (t : Part Typed). lift (if_made at t.found) (statement_typed w t.inside place body)) (tested_in at i test)
  statement_typed w i at (kind.IfElse' test place p body place' q other) =
      lift (λ (t : Part Typed).
      lift (λ (one : Part Statement). lift (if_else_made at t.found one.found) (statement_typed w one.inside place' other))
      (statement_typed w t.inside place body))
      (tested_in at i test)
  -- C11 6.8.5
  statement_typed w i at (kind.While' test place p body) =
      lift (λ (t : Part Typed). lift (while_made at t.found) (statement_typed (in_loop w) t.inside place body)) (tested_in at i test)
  statement_typed w i at (kind.Do' place p body test) =
      lift (λ (b : Part Statement). lift (do_made at b.found) (tested_in at b.inside test))
      (after_word at (word_fault at i (Some test)) (statement_typed (in_loop w) i place body))
  statement_typed w i at (kind.For' first test last place p body) =
      lift (λ (f : TypedStatements).
      lift (λ (t : Part (Option Typed)).
      lift (λ (l : Part (Option Typed)).
      lift (for_made at i f.statements t.found l.found) (statement_typed (in_loop w) l.inside place body))
      (dropped_if t.inside last))
      (tested_if at f.inside test))
      (after_word at (word_fault at (in_block i) test) (first_typed (in_block i) first))
  -- C11 6.8.4.2
  statement_typed w i at (kind.Switch' value shape row) =
      lift (λ (v : Part Typed).
      lift (switch_made at i v.found)
      (switch_typed (in_switch w) (type_of v.found) row (record { cases = []; reported = no_statements (in_block v.inside) })))
      (selected at i value)
  -- C11 6.8.6
  statement_typed w i at (kind.Goto label) = goto_typed at i (label_number label w.labels)
  statement_typed w i at kind.Continue = if w.continues then part i (Continue at) else Fault Jump at
  statement_typed w i at kind.Break = if w.breaks then part i (Break at) else Fault Jump at
  statement_typed w i at (kind.Return value) = lift (return_made at) (returned w at i value)
  -- C11 6.8.1
  statement_typed w i at (kind.Label' name place p body) =
      if is_first i (label_number name w.labels) then lift (label_made at i.met) (statement_typed w (meeting i) place body) else Fault Jump at

  -- an item of a block, after some statements
  pub item_typed : Where → RawItem → TypedStatements → Verdict TypedStatements
  item_typed w (items.TheVariants.Declare s objects) so_far = declaration_typed s objects.items so_far
  item_typed w (items.TheVariants.Run' place p body) so_far = lift (telling so_far.statements) (statement_typed w so_far.inside place body)

  pub items_typed : {n : _} → Where → kinds.Row_of-RawItem n → TypedStatements → Verdict TypedStatements
  items_typed w kinds.end_of-RawItem so_far = Fine so_far
  items_typed w (kinds.more_of-RawItem first others) so_far = lift (items_typed w others) (item_typed w first so_far)

  -- an item of a `switch` on a value of this type
  pub switch_item_typed : Where → Shape → switches.RawSwitchItem → Switching → Verdict Switching
  switch_item_typed w ty (switches.TheVariants.Case at value) so_far =
      lift (λ n. constant_case at so_far ty n.1) (value_of so_far.reported.inside.known.context value)
  switch_item_typed w ty (switches.TheVariants.Default at) so_far = case_added at so_far None
  switch_item_typed w ty (switches.TheVariants.Item i) so_far = lift (with_statements so_far) (item_typed w i so_far.reported)

  pub switch_typed : {n : _} → Where → Shape → kinds.Row_of-RawSwitchItem n → Switching → Verdict Switching
  switch_typed w ty kinds.end_of-RawSwitchItem so_far = Fine so_far
  switch_typed w ty (kinds.more_of-RawSwitchItem first others) so_far = lift (switch_typed w ty others) (switch_item_typed w ty first so_far)

-- after a block that was read: its scope ends
abbrev pub closed : Inside → TypedStatements → TypedStatements
closed before reported = record { statements = reported.statements; inside = after_block before reported.inside }

-- the items of a `switch`, as a list
abbrev pub switch_list_typed : Where → Shape → List switches.RawSwitchItem → Switching → Verdict Switching
switch_list_typed w ty [] so_far = Fine so_far
switch_list_typed w ty (first ∷ others) so_far = lift (switch_list_typed w ty others) (switch_item_typed w ty first so_far)

-- the items of a function's body (C11 6.9.1)
abbrev pub body_typed : Where → List RawItem → TypedStatements → Verdict TypedStatements
body_typed w [] so_far = Fine so_far
body_typed w (first ∷ others) so_far = lift (body_typed w others) (item_typed w first so_far)

abbrev pub labels_of_items : List RawItem → List (List ℕ)
labels_of_items [] = []
labels_of_items (first ∷ others) = labels_of_item first ++ labels_of_items others

abbrev pub labels_of_switch_list : List switches.RawSwitchItem → List (List ℕ)
labels_of_switch_list [] = []
labels_of_switch_list (first ∷ others) = labels_of_switch_item first ++ labels_of_switch_list others

-- a block, as a list of items
abbrev pub block_typed : Where → Inside → List RawItem → Verdict TypedStatements
block_typed w i list = lift (λ reported. Fine (closed i reported)) (body_typed w list (no_statements (in_block i)))

-- `while`
abbrev pub while_typed : Where → Inside → Place → RawExpr → Place → RawStmtKind → Verdict (Part Statement)
while_typed w i at test place body =
    lift (λ (t : Part Typed). lift (while_made at t.found) (statement_typed (in_loop w) t.inside place body)) (tested_in at i test)

-- `do`
abbrev pub do_typed : Where → Inside → Place → RawExpr → Place → RawStmtKind → Verdict (Part Statement)
do_typed w i at test place body =
    lift (λ (b : Part Statement). lift (do_made at b.found) (tested_in at b.inside test))
    (after_word at (word_fault at i (Some test)) (statement_typed (in_loop w) i place body))

-- `for`
abbrev pub for_typed : Where → Inside → Place → RawFirst → Option RawExpr → Option RawExpr → Place → RawStmtKind → Verdict (Part Statement)
for_typed w i at first test last place body =
    lift (λ (f : TypedStatements).
    lift (λ (t : Part (Option Typed)).
    lift (λ (l : Part (Option Typed)).
    lift (for_made at i f.statements t.found l.found) (statement_typed (in_loop w) l.inside place body))
    (dropped_if t.inside last))
    (tested_if at f.inside test))
    (after_word at (word_fault at (in_block i) test) (first_typed (in_block i) first))

-- a `switch` without cases or statements
abbrev pub no_cases : Inside → Switching
no_cases i = record { cases = []; reported = no_statements i }

-- `switch`
abbrev pub switch_whole : Where → Inside → Place → RawExpr → List switches.RawSwitchItem → Verdict (Part Statement)
switch_whole w i at value list =
    lift (λ (v : Part Typed).
    lift (switch_made at i v.found)
    (switch_list_typed (in_switch w) (type_of v.found) list (no_cases (in_block v.inside))))
    (selected at i value)

-- a label
abbrev pub label_typed : Where → Inside → Place → List ℕ → Place → RawStmtKind → Verdict (Part Statement)
label_typed w i at name place body =
    if is_first i (label_number name w.labels) then lift (label_made at i.met) (statement_typed w (meeting i) place body) else Fault Jump at

-- The failing positions of statements (C11 6.8). What follows a statement is checked if the statement is right: it may declare names and
-- tags. The test of a `do` or a `for` comes after a body or a first part: its rule at the keyword is checked with what is known after that
-- part if the part is right, and otherwise with what is known before it.
use Rattle.std.specs.Prelude.{if◌then◌else◌, [], ◌∷◌, ◌++◌, List, Option, Some, None}
use Rattle.cs_types.specs.Shape.{Shape}
use Rattle.cs_ast.specs.declared.place.Place.{Place}
use Rattle.cs_ast.specs.declared.raw.declaration.RawInit.{RawInit}
use Rattle.cs_ast.specs.declared.raw.declaration.RawSpecs.{RawSpecs}
use Rattle.cs_ast.specs.declared.raw.expression.RawExpr.{RawExpr}
use Rattle.cs_ast.specs.declared.raw.statement.RawFirst.{RawFirst}
use Rattle.cs_ast.specs.declared.raw.statement.RawFirst.TheVariants as first_part
use Rattle.cs_ast.specs.declared.raw.statement.RawItem.{RawItem}
use Rattle.cs_ast.specs.declared.raw.statement.RawItem as items
use Rattle.cs_ast.specs.declared.raw.statement.RawStmtKind as kinds
use Rattle.cs_ast.specs.declared.raw.statement.RawStmtKind.{RawStmtKind}
use Rattle.cs_ast.specs.declared.raw.statement.RawStmtKind.TheVariants as kind
use Rattle.cs_ast.specs.declared.raw.statement.RawSwitchItem as switches
use Rattle.cs_ast.specs.TypedTree.{Typed, Statement}
use Rattle.cs_scopes.specs.declared.refusal.TypeCode.TheVariants.{Jump, Return}
use Rattle.cs_scopes.specs.Verdicts.{Verdict, Fine, Fault}
use Rattle.cs_folding.specs.TypedParts.{type_of}
use Rattle.cs_expressions.specs.Operators.{tested}
use Rattle.cs_consts.specs.Roles.{operand_of, value_of}
use Rattle.cs_declarations.specs.Bodies.{Typing, specs_type}
use Rattle.cs_declarations.specs.Environment.{with_literals}
use Rattle.cs_statements.specs.Locals.{Inside, knowing, TypedStatements}
use Rattle.cs_statements.specs.Statements.{Where, in_loop, in_switch, Part, tested_in, tested_if, dropped_if, is_void, label_number, goto_typed, is_first}
use Rattle.cs_statements.specs.Statements.{meeting, in_block, first_place, no_statements, first_typed, Switching, case_added, constant_case, selected}
use Rattle.cs_statements.specs.Statements.{statement_typed, item_typed, switch_item_typed}
use Rattle.cs_first_faults.specs.Failures.{FailingPlace, failing_at, unless, failing, if_typed, fails}
use Rattle.cs_first_faults.specs.Objects.{locals_failures}
use Rattle.cs_first_faults.specs.Roles.{constant_failures, value_asked_failures, assigned_failures, test_failures, selector_failures, dropped_failures}
use Rattle.cs_first_faults.specs.Types.{specs_failures}

-- an expression whose value is discarded, if there is one
abbrev pub dropped_if_failures : Inside → Option RawExpr → List FailingPlace
dropped_if_failures i None = []
dropped_if_failures i (Some e) = dropped_failures i.known.context i.known.literals e

-- a test, if there is one: what the keyword at a position requires of it (4), and its own failing positions
abbrev pub word_failures : Place → Inside → Option RawExpr → List FailingPlace
word_failures at i None = []
word_failures at i (Some e) = fails (tested at) (operand_of i.known.context i.known.literals None e)

abbrev pub tested_failures : Inside → Option RawExpr → List FailingPlace
tested_failures i None = []
tested_failures i (Some e) = value_asked_failures i.known.context i.known.literals None e

-- what is known at a test for the keyword before it: what is known after the part between them if that is right, and otherwise what is
-- known before that part, without string literals, since the file is refused
abbrev pub known_at_test : {A : Type 0} → (A → Inside) → Inside → Verdict A → Inside
known_at_test after before (Fine value) = after value
known_at_test after before (Fault code place) = knowing (with_literals [] before.known) before

-- a `return`, which has a value exactly if the function has a result (17), to whose type the value converts (4, 9)
abbrev pub return_failures : Where → Place → Inside → Option RawExpr → List FailingPlace
return_failures w at i None = if is_void w.returns then [] else failing_at at (Return ∷ [])
return_failures w at i (Some e) =
    if is_void w.returns then failing_at at (Return ∷ []) ++ value_asked_failures i.known.context i.known.literals None e
    else assigned_failures i.known.context i.known.literals at w.returns e

-- a declaration of locals
abbrev pub declaration_failures : RawSpecs → List RawInit → TypedStatements → List FailingPlace
declaration_failures s objects so_far =
    specs_failures so_far.inside.known (first_place objects) s
    ++ if_typed (λ (ty : Typing). locals_failures ty.0 objects (record { statements = so_far.statements; inside = knowing ty.1 so_far.inside }))
    (specs_type so_far.inside.known (first_place objects) s)

abbrev pub first_failures : Inside → RawFirst → List FailingPlace
first_failures i first_part.Empty = []
first_failures i (first_part.Run e) = dropped_failures i.known.context i.known.literals e
first_failures i (first_part.Declare s objects) = declaration_failures s objects.items (no_statements i)

abbrev mutual
  -- a statement at a position
  pub statement_failures : Where → Inside → Place → RawStmtKind → List FailingPlace
  -- C11 6.8.2
  statement_failures w i at (kind.Block' shape row) = block_failures w row (no_statements (in_block i))
  -- C11 6.8.3
  statement_failures w i at kind.Empty = []
  statement_failures w i at (kind.Run e) = dropped_failures i.known.context i.known.literals e
  -- C11 6.8.4.1: an integer or a pointer is tested (4)
  statement_failures w i at (kind.If' test place p body) =
      test_failures i.known.context i.known.literals at test
      ++ if_typed (λ (t : Part Typed). statement_failures w t.inside place body) (tested_in at i test)
  statement_failures w i at (kind.IfElse' test place p body place' q other) =
      test_failures i.known.context i.known.literals at test
      ++ if_typed (λ (t : Part Typed).
      statement_failures w t.inside place body
      ++ if_typed (λ (one : Part Statement). statement_failures w one.inside place' other) (statement_typed w t.inside place body))
      (tested_in at i test)
  -- C11 6.8.5: the same
  statement_failures w i at (kind.While' test place p body) =
      test_failures i.known.context i.known.literals at test
      ++ if_typed (λ (t : Part Typed). statement_failures (in_loop w) t.inside place body) (tested_in at i test)
  statement_failures w i at (kind.Do' place p body test) =
      let b = statement_typed (in_loop w) i place body in
      word_failures at (known_at_test (λ (one : Part Statement). one.inside) i b) (Some test)
      ++ statement_failures (in_loop w) i place body
      ++ if_typed (λ (one : Part Statement). tested_failures one.inside (Some test)) b
  statement_failures w i at (kind.For' first test last place p body) =
      let f = first_typed (in_block i) first in
      word_failures at (known_at_test (λ (one : TypedStatements). one.inside) (in_block i) f) test
      ++ first_failures (in_block i) first
      ++ if_typed (λ (one : TypedStatements).
      tested_failures one.inside test
      ++ if_typed (λ (t : Part (Option Typed)).
      dropped_if_failures t.inside last
      ++ if_typed (λ (l : Part (Option Typed)). statement_failures (in_loop w) l.inside place body) (dropped_if t.inside last))
      (tested_if at one.inside test))
      f
  -- C11 6.8.4.2: an integer (4)
  statement_failures w i at (kind.Switch' value shape row) =
      selector_failures i.known.context i.known.literals at value
      ++ if_typed (λ (v : Part Typed).
      switch_failures (in_switch w) (type_of v.found) row (record { cases = []; reported = no_statements (in_block v.inside) }))
      (selected at i value)
  -- C11 6.8.6: a label that exists, and an enclosing statement to leave or continue (11)
  statement_failures w i at (kind.Goto label) = failing (goto_typed at i (label_number label w.labels))
  statement_failures w i at kind.Continue = failing_at at (unless w.continues Jump)
  statement_failures w i at kind.Break = failing_at at (unless w.breaks Jump)
  statement_failures w i at (kind.Return value) = return_failures w at i value
  -- C11 6.8.1: a label that is the first of its name (11)
  statement_failures w i at (kind.Label' name place p body) =
      failing_at at (unless (is_first i (label_number name w.labels)) Jump) ++ statement_failures w (meeting i) place body

  -- an item of a block, after some statements
  pub item_failures : Where → RawItem → TypedStatements → List FailingPlace
  item_failures w (items.TheVariants.Declare s objects) so_far = declaration_failures s objects.items so_far
  item_failures w (items.TheVariants.Run' place p body) so_far = statement_failures w so_far.inside place body

  pub block_failures : {n : _} → Where → kinds.Row_of-RawItem n → TypedStatements → List FailingPlace
  block_failures w kinds.end_of-RawItem so_far = []
  block_failures w (kinds.more_of-RawItem first others) so_far =
      item_failures w first so_far ++ if_typed (λ (next : TypedStatements). block_failures w others next) (item_typed w first so_far)

  -- an item of a `switch` on a value of this type: at each label, one that it doesn't have yet (10)
  pub switch_item_failures : Where → Shape → switches.RawSwitchItem → Switching → List FailingPlace
  switch_item_failures w ty (switches.TheVariants.Case at value) so_far =
      fails (λ n. constant_case at so_far ty n.1) (value_of so_far.reported.inside.known.context value)
      ++ constant_failures so_far.reported.inside.known.context value
  switch_item_failures w ty (switches.TheVariants.Default at) so_far = failing (case_added at so_far None)
  switch_item_failures w ty (switches.TheVariants.Item i) so_far = item_failures w i so_far.reported

  pub switch_failures : {n : _} → Where → Shape → kinds.Row_of-RawSwitchItem n → Switching → List FailingPlace
  switch_failures w ty kinds.end_of-RawSwitchItem so_far = []
  switch_failures w ty (kinds.more_of-RawSwitchItem first others) so_far =
      switch_item_failures w ty first so_far
      ++ if_typed (λ (next : Switching). switch_failures w ty others next) (switch_item_typed w ty first so_far)

-- the items of a function's body
abbrev pub items_in_body_failures : Where → List RawItem → TypedStatements → List FailingPlace
items_in_body_failures w [] so_far = []
items_in_body_failures w (first ∷ others) so_far =
    item_failures w first so_far ++ if_typed (λ (next : TypedStatements). items_in_body_failures w others next) (item_typed w first so_far)

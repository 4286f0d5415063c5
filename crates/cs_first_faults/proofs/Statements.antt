-- Statements are refused at their first failing position.
use Rattle.std.proofs.Common.{◌≡◌, refl, sym, ap, subst, Bool, true, false, if◌then◌else◌, List, [], ◌∷◌, ◌++◌, Option, Some, None}
use Rattle.std.proofs.Common.{append-nil}
use Rattle.std.proofs.Common.{append_assoc}
use Rattle.std.specs.Prelude.{option_to_list}
use mathlib.Core.Former.{Count}
use Rattle.cs_types.specs.Shape.{Shape}
use Rattle.cs_types.specs.Kinds.{is_scalar}
use Rattle.cs_ast.specs.declared.place.Place.{Place}
use Rattle.cs_ast.specs.declared.raw.declaration.RawInit.{RawInit}
use Rattle.cs_ast.specs.declared.raw.declaration.RawSpecs.{RawSpecs}
use Rattle.cs_ast.specs.declared.raw.expression.RawExpr.{RawExpr}
use Rattle.cs_ast.specs.declared.raw.statement.RawFirst.{RawFirst}
use Rattle.cs_ast.specs.declared.raw.statement.RawFirst.TheVariants as first_part
use Rattle.cs_ast.specs.declared.raw.statement.RawItem.{RawItem}
use Rattle.cs_ast.specs.declared.raw.statement.RawItem as items
use Rattle.cs_ast.specs.declared.raw.statement.RawStmtKind as kinds
use Rattle.cs_ast.specs.declared.raw.statement.RawStmtKind.{RawStmtKind}
use Rattle.cs_ast.specs.declared.raw.statement.RawStmtKind.TheVariants as kind
use Rattle.cs_ast.specs.declared.raw.statement.RawSwitchItem as switches
use Rattle.cs_ast.specs.TypedTree.{Typed, Statement}
use Rattle.cs_scopes.specs.declared.refusal.TypeCode.{TypeCode}
use Rattle.cs_scopes.specs.declared.refusal.TypeCode.TheVariants.{Jump, Return}
use Rattle.cs_scopes.specs.Faults.{code_in}
use Rattle.cs_scopes.specs.Verdicts.{Verdict, Fine, Fault, lift}
use Rattle.cs_folding.specs.TypedParts.{type_of}
use Rattle.cs_expressions.specs.Operators.{tested}
use Rattle.cs_consts.specs.Roles.{operand_of, value_of, testing_fault, test_fault, assigned_value, test_of, selector_of, discarded_value}
use Rattle.cs_declarations.specs.Bodies.{Typing, specs_type}
use Rattle.cs_declarations.specs.Environment.{with_literals}
use Rattle.cs_statements.specs.Locals.{Inside, knowing, TypedStatements}
use Rattle.cs_statements.specs.Statements.{Where, in_loop, in_switch, Part, tested_in, tested_if, word_fault, after_word}
use Rattle.cs_statements.specs.Statements.{dropped_in, dropped_if, is_void, returned, value_returned}
use Rattle.cs_statements.specs.Statements.{label_number, goto_typed, is_first, meeting, in_block, first_place, declaration_typed, no_statements, first_typed}
use Rattle.cs_statements.specs.Statements.{Switching, case_added, constant_case, selected, statement_typed, item_typed, items_typed, switch_item_typed}
use Rattle.cs_statements.specs.Statements.{switch_typed, body_typed}
use Rattle.cs_first_faults.specs.Failures.{FailingPlace, failing_at, unless, failing, if_typed, fails, IsFirst}
use Rattle.cs_first_faults.specs.Objects.{locals_failures}
use Rattle.cs_first_faults.specs.Roles.{value_asked_failures, assigned_failures, test_failures, selector_failures, dropped_failures}
use Rattle.cs_first_faults.specs.Statements.{dropped_if_failures, word_failures, tested_failures, known_at_test, return_failures, declaration_failures}
use Rattle.cs_first_faults.specs.Statements.{first_failures}
use Rattle.cs_first_faults.specs.Statements.{statement_failures, item_failures, block_failures, switch_item_failures, switch_failures, items_in_body_failures}
use Rattle.cs_first_faults.specs.Types.{specs_failures}
use Rattle.cs_first_faults.proofs.Firsts.{no_some, no_none, IsAt, if_at, first-failing, first-ahead, first-then}
use Rattle.cs_first_faults.proofs.Names.{first-made, value_of-first, assigned-first, test-first, selector-first, dropped-first}
use Rattle.cs_first_faults.proofs.Objects.{locals-first}
use Rattle.cs_first_faults.proofs.Types.{specs-first}

-- ---- parts of statements

tested_in-first : (at : Place) (i : Inside) (e : RawExpr) → IsFirst (tested_in at i e) (test_failures i.known.context i.known.literals at e)
tested_in-first at i e = first-made _ (test_of i.known.context i.known.literals at e) _ (test-first i.known.context i.known.literals at e)

dropped_in-first : (i : Inside) (e : RawExpr) → IsFirst (dropped_in i e) (dropped_failures i.known.context i.known.literals e)
dropped_in-first i e = first-made _ (discarded_value i.known.context i.known.literals e) _ (dropped-first i.known.context i.known.literals e)

dropped_if-first : (i : Inside) (e : Option RawExpr) → IsFirst (dropped_if i e) (dropped_if_failures i e)
dropped_if-first i None = refl
dropped_if-first i (Some e) = first-made _ (dropped_in i e) _ (dropped_in-first i e)

tested_if-first : (at : Place) (i : Inside) (e : Option RawExpr) → IsFirst (tested_if at i e) (word_failures at i e ++ tested_failures i e)
tested_if-first at i None = refl
tested_if-first at i (Some e) = first-made _ (tested_in at i e) _ (tested_in-first at i e)

returned-first : (w : Where) (at : Place) (i : Inside) (e : Option RawExpr) → IsFirst (returned w at i e) (return_failures w at i e)
returned-first w at i None = by_test (is_void w.returns) where
  by_test : (test : Bool)
      → IsFirst {A = Part (Option Typed)} (if test then Fine (record { found = None; inside = i }) else Fault Return at)
      (if test then [] else failing_at at (Return ∷ []))
  by_test true = refl
  by_test false = refl
returned-first w at i (Some e) =
    first-made _ (value_returned w at i e) _
    (by_test (is_void w.returns) _
    (first-made _ (assigned_value i.known.context i.known.literals at w.returns e) _ (assigned-first i.known.context i.known.literals at w.returns e)))
  where
    by_test : (test : Bool) (v : Verdict (Part Typed)) → IsFirst v (assigned_failures i.known.context i.known.literals at w.returns e)
        → IsFirst (if test then Fault Return at else v)
        (if test then failing_at at (Return ∷ []) ++ value_asked_failures i.known.context i.known.literals None e
        else assigned_failures i.known.context i.known.literals at w.returns e)
    by_test true v h = refl
    by_test false v h = h

pub declaration-first : (s : RawSpecs) (objects : List RawInit) (so_far : TypedStatements)
    → IsFirst (declaration_typed s objects so_far) (declaration_failures s objects so_far)
declaration-first s objects so_far =
    first-then _ (specs_type so_far.inside.known (first_place objects) s) (specs_failures so_far.inside.known (first_place objects) s)
    (λ (ty : Typing). locals_failures ty.0 objects (record { statements = so_far.statements; inside = knowing ty.1 so_far.inside }))
    (specs-first so_far.inside.known (first_place objects) s)
    (λ ty. locals-first ty.0 objects (record { statements = so_far.statements; inside = knowing ty.1 so_far.inside }))

first_part-first : (i : Inside) (first : RawFirst) → IsFirst (first_typed i first) (first_failures i first)
first_part-first i first_part.Empty = refl
first_part-first i (first_part.Run e) = first-made _ (dropped_in i e) _ (dropped_in-first i e)
first_part-first i (first_part.Declare s objects) = declaration-first s objects.items (no_statements i)

-- a keyword that requires something of a part after another one, with a code that comes before the errors of that one
first-across : {A B : Type 0} (rule : A → Verdict B) (v : Verdict A) (at : Place) (fault : Option TypeCode) (failures : List FailingPlace)
    (asked : Verdict A → List FailingPlace) (next : A → List FailingPlace) → IsFirst v failures
    → ((code : TypeCode) (place : Place) → asked (Fault code place) ≡ failing_at at (option_to_list fault))
    → ((a : A) → IsFirst (rule a) (asked (Fine a) ++ next a))
    → IsFirst (lift rule (after_word at fault v)) (asked v ++ failures ++ if_typed next v)
unfolding lift
first-across {B = B} rule (Fine a) at None [] asked next h refuses k =
    subst (λ xs. IsFirst {A = B} (rule a) (xs ++ next a)) (sym (append-nil (asked (Fine a)))) (k a)
first-across {B = B} rule (Fine a) at (Some said) [] asked next h refuses k =
    subst (λ xs. IsFirst {A = B} (rule a) (xs ++ next a)) (sym (append-nil (asked (Fine a)))) (k a)
first-across rule (Fine a) at fault (f ∷ fs) asked next h refuses k = no_some _ h
first-across rule (Fault code place) at fault [] asked next h refuses k = no_none _ h
first-across {B = B} rule (Fault code place) at None (f ∷ fs) asked next h refuses k =
    subst (λ xs. IsFirst {A = B} (Fault code place) ((xs ++ (f ∷ fs)) ++ [])) (sym (refuses code place)) h
first-across {B = B} rule (Fault code place) at (Some said) (f ∷ fs) asked next h refuses k =
    subst (λ xs. IsFirst {A = B} (Fault said at) ((xs ++ (f ∷ fs)) ++ [])) (sym (refuses code place)) refl

tested-at : (at : Place) (v : Typed) → IsAt at (tested at v)
unfolding tested
tested-at at v = if_at at (is_scalar (type_of v)) _ _ tt refl

-- a keyword's error on its test, judged in the context before the part between them
word-said : (at : Place) (i : Inside) (e : Option RawExpr)
    → word_failures at (knowing (with_literals [] i.known) i) e ≡ failing_at at (option_to_list (word_fault at i e))
unfolding test_fault
word-said at i None = refl
word-said at i (Some e) = by_value (operand_of i.known.context [] None e) where
  by_verdict : (v : Verdict Typed) → IsAt at v → failing v ≡ failing_at at (option_to_list (code_in v))
  by_verdict (Fine value) is = refl
  by_verdict (Fault code place) is = ap (λ p. failing_at p (code ∷ [])) is

  by_value : (v : Verdict Typed) → fails (tested at) v ≡ failing_at at (option_to_list (testing_fault at v))
  by_value (Fine value) = by_verdict (tested at value) (tested-at at value)
  by_value (Fault code place) = refl

unless-jump : {A : Type 0} (at : Place) (met : Bool) (v : Verdict A) (failures : List FailingPlace) → IsFirst v failures
    → IsFirst (if met then v else Fault Jump at) (failing_at at (unless met Jump) ++ failures)
unless-jump at true v failures h = h
unless-jump at false v failures h = refl

jump-alone : {A : Type 0} (at : Place) (met : Bool) (a : A) → IsFirst (if met then Fine a else Fault Jump at) (failing_at at (unless met Jump))
jump-alone at true a = refl
jump-alone at false a = refl

-- a keyword that requires something of a part after it, with more after that
first-split : {A B : Type 0} (rule : A → Verdict B) (v : Verdict A) (asked tests : List FailingPlace) (next : A → List FailingPlace)
    → IsFirst v (asked ++ tests) → ((a : A) → IsFirst (rule a) (next a)) → IsFirst (lift rule v) (asked ++ (tests ++ if_typed next v))
first-split {B = B} rule v asked tests next h k =
    subst (λ xs. IsFirst {A = B} (lift rule v) xs) (append_assoc asked tests (if_typed next v)) (first-then rule v (asked ++ tests) next h k)

mutual
  pub statement-first : (w : Where) (i : Inside) (at : Place) (k : RawStmtKind) → IsFirst (statement_typed w i at k) (statement_failures w i at k)
  statement-first w i at (kind.Block' shape row) =
      first-made _ (items_typed w row (no_statements (in_block i))) _ (block-first w row (no_statements (in_block i)))
  statement-first w i at kind.Empty = refl
  statement-first w i at (kind.Run e) = first-made _ (dropped_in i e) _ (dropped_in-first i e)
  statement-first w i at (kind.If' test place p body) =
      first-then _ (tested_in at i test) (test_failures i.known.context i.known.literals at test)
      (λ (t : Part Typed). statement_failures w t.inside place body) (tested_in-first at i test)
      (λ t. first-made _ (statement_typed w t.inside place body) _ (statement-first w t.inside place body))
  statement-first w i at (kind.IfElse' test place p body place' q other) =
      first-then _ (tested_in at i test) (test_failures i.known.context i.known.literals at test)
      (λ (t : Part Typed).
      statement_failures w t.inside place body
      ++ if_typed (λ (one : Part Statement). statement_failures w one.inside place' other) (statement_typed w t.inside place body))
      (tested_in-first at i test)
      (λ t. first-then _ (statement_typed w t.inside place body) (statement_failures w t.inside place body)
      (λ (one : Part Statement). statement_failures w one.inside place' other) (statement-first w t.inside place body)
      (λ one. first-made _ (statement_typed w one.inside place' other) _ (statement-first w one.inside place' other)))
  statement-first w i at (kind.While' test place p body) =
      first-then _ (tested_in at i test) (test_failures i.known.context i.known.literals at test)
      (λ (t : Part Typed). statement_failures (in_loop w) t.inside place body) (tested_in-first at i test)
      (λ t. first-made _ (statement_typed (in_loop w) t.inside place body) _ (statement-first (in_loop w) t.inside place body))
  statement-first w i at (kind.Do' place p body test) =
      first-across _ (statement_typed (in_loop w) i place body) at (word_fault at i (Some test)) (statement_failures (in_loop w) i place body)
      (λ b. word_failures at (known_at_test (λ (one : Part Statement). one.inside) i b) (Some test))
      (λ (one : Part Statement). tested_failures one.inside (Some test)) (statement-first (in_loop w) i place body)
      (λ code place. word-said at i (Some test))
      (λ one. first-made _ (tested_in at one.inside test) _ (tested_in-first at one.inside test))
  statement-first w i at (kind.For' first test last place p body) =
      first-across _ (first_typed (in_block i) first) at (word_fault at (in_block i) test) (first_failures (in_block i) first)
      (λ f. word_failures at (known_at_test (λ (one : TypedStatements). one.inside) (in_block i) f) test)
      (λ (one : TypedStatements).
      tested_failures one.inside test
      ++ if_typed (λ (t : Part (Option Typed)).
      dropped_if_failures t.inside last
      ++ if_typed (λ (l : Part (Option Typed)). statement_failures (in_loop w) l.inside place body) (dropped_if t.inside last))
      (tested_if at one.inside test))
      (first_part-first (in_block i) first) (λ code place. word-said at (in_block i) test)
      (λ one. first-split _ (tested_if at one.inside test) (word_failures at one.inside test) (tested_failures one.inside test)
      (λ (t : Part (Option Typed)).
      dropped_if_failures t.inside last
      ++ if_typed (λ (l : Part (Option Typed)). statement_failures (in_loop w) l.inside place body) (dropped_if t.inside last))
      (tested_if-first at one.inside test)
      (λ t. first-then _ (dropped_if t.inside last) (dropped_if_failures t.inside last)
      (λ (l : Part (Option Typed)). statement_failures (in_loop w) l.inside place body) (dropped_if-first t.inside last)
      (λ l. first-made _ (statement_typed (in_loop w) l.inside place body) _ (statement-first (in_loop w) l.inside place body))))
  statement-first w i at (kind.Switch' value shape row) =
      first-then _ (selected at i value) (selector_failures i.known.context i.known.literals at value)
      (λ (v : Part Typed).
      switch_failures (in_switch w) (type_of v.found) row (record { cases = []; reported = no_statements (in_block v.inside) }))
      (first-made _ (selector_of i.known.context i.known.literals at value) _ (selector-first i.known.context i.known.literals at value))
      (λ v. first-made _
      (switch_typed (in_switch w) (type_of v.found) row (record { cases = []; reported = no_statements (in_block v.inside) })) _
      (switch-first (in_switch w) (type_of v.found) row (record { cases = []; reported = no_statements (in_block v.inside) })))
  statement-first w i at (kind.Goto label) = first-failing (goto_typed at i (label_number label w.labels))
  statement-first w i at kind.Continue = jump-alone at w.continues _
  statement-first w i at kind.Break = jump-alone at w.breaks _
  statement-first w i at (kind.Return value) = first-made _ (returned w at i value) _ (returned-first w at i value)
  statement-first w i at (kind.Label' name place p body) =
      unless-jump at (is_first i (label_number name w.labels)) _ _
      (first-made _ (statement_typed w (meeting i) place body) _ (statement-first w (meeting i) place body))

  item-first : (w : Where) (item : RawItem) (so_far : TypedStatements) → IsFirst (item_typed w item so_far) (item_failures w item so_far)
  item-first w (items.TheVariants.Declare s objects) so_far = declaration-first s objects.items so_far
  item-first w (items.TheVariants.Run' place p body) so_far =
      first-made _ (statement_typed w so_far.inside place body) _ (statement-first w so_far.inside place body)

  block-first : {n : Count} (w : Where) (row : kinds.Row_of-RawItem n) (so_far : TypedStatements)
      → IsFirst (items_typed w row so_far) (block_failures w row so_far)
  block-first w kinds.end_of-RawItem so_far = refl
  block-first w (kinds.more_of-RawItem first others) so_far =
      first-then (items_typed w others) (item_typed w first so_far) (item_failures w first so_far)
      (λ (next : TypedStatements). block_failures w others next) (item-first w first so_far) (λ next. block-first w others next)

  switch_item-first : (w : Where) (ty : Shape) (item : switches.RawSwitchItem) (so_far : Switching)
      → IsFirst (switch_item_typed w ty item so_far) (switch_item_failures w ty item so_far)
  switch_item-first w ty (switches.TheVariants.Case at value) so_far =
      first-ahead (λ n. constant_case at so_far ty n.1) (value_of so_far.reported.inside.known.context value) _
      (value_of-first so_far.reported.inside.known.context value)
  switch_item-first w ty (switches.TheVariants.Default at) so_far = first-failing (case_added at so_far None)
  switch_item-first w ty (switches.TheVariants.Item item) so_far =
      first-made _ (item_typed w item so_far.reported) _ (item-first w item so_far.reported)

  switch-first : {n : Count} (w : Where) (ty : Shape) (row : kinds.Row_of-RawSwitchItem n) (so_far : Switching)
      → IsFirst (switch_typed w ty row so_far) (switch_failures w ty row so_far)
  switch-first w ty kinds.end_of-RawSwitchItem so_far = refl
  switch-first w ty (kinds.more_of-RawSwitchItem first others) so_far =
      first-then (switch_typed w ty others) (switch_item_typed w ty first so_far) (switch_item_failures w ty first so_far)
      (λ (next : Switching). switch_failures w ty others next) (switch_item-first w ty first so_far) (λ next. switch-first w ty others next)

pub body-first : (w : Where) (list : List RawItem) (so_far : TypedStatements)
    → IsFirst (body_typed w list so_far) (items_in_body_failures w list so_far)
body-first w [] so_far = refl
body-first w (first ∷ others) so_far =
    first-then (body_typed w others) (item_typed w first so_far) (item_failures w first so_far)
    (λ (next : TypedStatements). items_in_body_failures w others next) (item-first w first so_far) (λ next. body-first w others next)

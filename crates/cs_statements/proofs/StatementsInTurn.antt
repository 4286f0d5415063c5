-- The results of the rules for statements, part by part: for the cycle of statements.
use Rattle.std.proofs.Common.{◌≡◌, ℕ, true, cond, List, [], ◌∷◌, ◌++◌, Option, Some, None, map, refl, sym, ap, subst, ◌∙◌, Result, Ok}
use Rattle.std.proofs.Common.{Err, Vec, Global}
use Rattle.std.specs.Prelude.{OnOk}
use Rattle.std.proofs.lemmas.List.{map-append}
use Rattle.cs_ast.specs.declared.place.Place.{Place}
use Rattle.cs_ast.specs.declared.raw.expression.RawExpr.{RawExpr}
use Rattle.cs_ast.specs.declared.raw.statement.RawStmt.{RawStmt}
use Rattle.cs_ast.specs.declared.raw.statement.RawStmtKind.{RawStmtKind}
use Rattle.cs_ast.specs.declared.raw.statement.RawFirst.{RawFirst}
use Rattle.cs_ast.specs.declared.raw.statement.RawItem.{RawItem}
use Rattle.cs_ast.specs.declared.raw.statement.RawSwitchItem.{RawSwitchItem}
use Rattle.cs_ast.specs.declared.typed.expression.Expr.{Expr}
use Rattle.cs_ast.specs.declared.typed.statement.Stmt.{Stmt}
use Rattle.cs_ast.specs.declared.typed.statement.StmtKind.{StmtKind}
use Rattle.cs_ast.specs.TypedTree.{Typed, Statement, Block}
use Rattle.cs_ast.specs.TypedView.{typed, statement}
use Rattle.cs_scopes.specs.declared.refusal.TypeCode.TheVariants.{Jump}
use Rattle.cs_scopes.specs.declared.refusal.TypeCode.{TypeCode}
use Rattle.cs_scopes.specs.declared.refusal.TypeRefusal.{TypeRefusal}
use Rattle.cs_scopes.specs.declared.refusal.TypeRefusal.TheVariants.{Code, Memory}
use Rattle.cs_folding.specs.TypedParts.{type_of}
use Rattle.cs_expressions.specs.Primary.{Literals}
use Rattle.cs_consts.specs.Typing.{literals_after}
use Rattle.cs_scopes.specs.Verdicts.{Verdict, Fine, Fault, lift, IsRefused, Yields, Answers}
use Rattle.cs_scopes.proofs.Lifting.{lift-refused}
use Rattle.cs_scopes.proofs.Lifting.{refused_as}
use Rattle.cs_consts.proofs.SingleParts.{lift_is}
use Rattle.cs_declarations.specs.Answered.{AnswersWith}
use Rattle.cs_declarations.specs.declared.environment.Environment.{Environment as HeldEnvironment}
use Rattle.cs_declarations.specs.Environment.{ScopeSnapshot, snapshot_of, left_to, with_literals}
use Rattle.cs_declarations.specs.View.{environment_of}
use Rattle.cs_statements.specs.declared.inside.Inside.{Inside as HeldInside}
use Rattle.cs_statements.specs.Locals.{Inside, knowing, TypedStatements}
use Rattle.cs_statements.specs.Statements.{Where, in_loop, in_switch, in_a_row, Part, part, past, tested_in, tested_if, word_fault, after_word}
use Rattle.cs_statements.specs.Statements.{answer_after, dropped_if, label_number, in_block}
use Rattle.cs_statements.specs.Statements.{after_block, meeting, is_first, no_statements, Switching, no_cases, closed, first_typed, body_typed, block_typed}
use Rattle.cs_statements.specs.Statements.{block_made, if_made, if_else_made, while_made, do_made, for_made, switch_made, label_made, selected, statement_typed}
use Rattle.cs_statements.specs.Statements.{switch_list_typed, switch_whole, while_typed, do_typed, for_typed, label_typed}
use Rattle.cs_statements.specs.View.{inside_of, typed_statements_of, typed_part, kind_part, kind_at}

-- an expression, with the string literals after it
pub typed_after : (i : Inside) (tree : RawExpr) (v : Verdict Typed) (result : Result Expr TypeRefusal) (literals : Literals) (now : HeldInside)
    → Yields v result → OnOk result (literals ≡ literals_after i.known.literals tree.kind.value)
    → inside_of now ≡ knowing (with_literals literals i.known) i → AnswersWith typed_part (lift (part (past tree i)) v) result now
typed_after i tree v (Ok e) literals now reported texts is =
    lift_is (part (past tree i)) v (typed e) reported
    ∙ ap (λ l. part (knowing (with_literals l i.known) i) (typed e)) (sym texts)
    ∙ ap (λ x. part x (typed e)) (sym is)
typed_after i tree v (Err refusal) literals now reported texts is = lift-refused (part (past tree i)) v refusal reported

-- what a function returns for a result, it returns for an equal one
pub answers_as : {A B C : Type 0} (view : A → B → C) (v w : Verdict C) (result : Result A TypeRefusal) (changed : B) → v ≡ w
    → AnswersWith view w result changed → AnswersWith view v result changed
answers_as view v w result changed e h = subst (λ x. AnswersWith view x result changed) (sym e) h

-- the result of a function for the part between a keyword and its test
pub answers_after : {A B C : Type 0} (view : A → B → C) (at : Place) (fault said : Option TypeCode) (v : Verdict C) (read result : Result A TypeRefusal)
    (changed : B) → fault ≡ said → result ≡ answer_after at fault read → AnswersWith view v read changed
    → AnswersWith view (after_word at said v) result changed
answers_after view at fault said v read result changed same is h =
    subst (λ f. AnswersWith view (after_word at f v) result changed) same
    (subst (λ x. AnswersWith view (after_word at fault v) x changed) (sym is) (by_fault fault read h))
  where
    by_fault : (fault : Option TypeCode) (read : _) → AnswersWith view v read changed
        → AnswersWith view (after_word at fault v) (answer_after at fault read) changed
    by_fault None read h = h
    by_fault (Some code) (Ok value) h = ap (after_word at (Some code)) h
    by_fault (Some code) (Err (Code other place)) h = ap (after_word at (Some code)) h
    by_fault (Some code) (Err Memory) h = tt

-- the statements of a list that a function returns
abbrev pub listed : Vec Stmt Global → HeldInside → TypedStatements
listed list following = typed_statements_of list.items following

-- if the function returns an error, the rule has this error; if it returns a value, the rule has this value
pub refused_after : {A B C : Type 0} (view : A → B → C) (v : Verdict C) (result : Result A TypeRefusal) (changed : B) (r : TypeRefusal) → result ≡ Err r
    → AnswersWith view v result changed → IsRefused v r
refused_after view v result changed r was h = subst (λ x. AnswersWith view v x changed) was h

pub given_after : {A B C : Type 0} (view : A → B → C) (v : Verdict C) (result : Result A TypeRefusal) (changed : B) (value : A) → result ≡ Ok value
    → AnswersWith view v result changed → v ≡ Fine (view value changed)
given_after view v result changed value was h = subst (λ x. AnswersWith view v x changed) was h

-- the rule for a block, once its statements are typed
abbrev pub block_after : Place → TypedStatements → Verdict (Part Statement)
block_after at reported = part reported.inside (Block at (in_a_row reported.statements))

pub block-closed : (i : Inside) (at : Place) (v : Verdict TypedStatements)
    → lift (block_made at i) v ≡ lift (block_after at) (lift (λ reported. Fine (closed i reported)) v)
unfolding lift
block-closed i at (Fine reported) = refl
block-closed i at (Fault code place) = refl

-- the rule for `if`, once its test is typed
abbrev pub if_after : Where → Place → Place → RawStmtKind → Part Typed → Verdict (Part Statement)
if_after w at place body t = lift (if_made at t.found) (statement_typed w t.inside place body)

abbrev pub else_after : Where → Place → RawStmt → Typed → Part Statement → Verdict (Part Statement)
else_after w at other test one = lift (if_else_made at test one.found) (statement_typed w one.inside other.place other.kind.value)

abbrev pub if_else_after : Where → Place → Place → RawStmtKind → RawStmt → Part Typed → Verdict (Part Statement)
if_else_after w at place body other t = lift (else_after w at other t.found) (statement_typed w t.inside place body)

-- the rule for `while` once its test is typed, and for `do` once its body is
abbrev while_after : Where → Place → RawStmt → Part Typed → Verdict (Part Statement)
while_after w at body t = lift (while_made at t.found) (statement_typed (in_loop w) t.inside body.place body.kind.value)

abbrev do_after : Place → RawExpr → Part Statement → Verdict (Part Statement)
do_after at test body = lift (do_made at body.found) (tested_in at body.inside test)

module _ (w : Where) (i : Inside) (at : Place) (test : RawExpr) (body : RawStmt) where
  pub while_test_stops : (r : TypeRefusal) → IsRefused (tested_in at i test) r → IsRefused (while_typed w i at test body.place body.kind.value) r
  while_test_stops r h = lift-refused (while_after w at body) (tested_in at i test) r h

  module _ (within : Where) (t : Part Typed) (is : within ≡ in_loop w) (tests : tested_in at i test ≡ Fine t) where
    while_tested : while_typed w i at test body.place body.kind.value
        ≡ lift (while_made at t.found) (statement_typed within t.inside body.place body.kind.value)
    while_tested = lift_is (while_after w at body) _ t tests
        ∙ ap (λ x. lift (while_made at t.found) (statement_typed x t.inside body.place body.kind.value)) (sym is)

    pub while_body_stops : (r : TypeRefusal) → IsRefused (statement_typed within t.inside body.place body.kind.value) r
        → IsRefused (while_typed w i at test body.place body.kind.value) r
    while_body_stops r h = refused_as r while_tested (lift-refused (while_made at t.found) _ r h)

    pub while_taken : (one : Part Statement) → statement_typed within t.inside body.place body.kind.value ≡ Fine one
        → while_typed w i at test body.place body.kind.value ≡ while_made at t.found one
    while_taken one runs = while_tested ∙ lift_is (while_made at t.found) _ one runs

  module _ (within : Where) (is : within ≡ in_loop w) where
    abbrev pub do_body : Verdict (Part Statement)
    do_body = after_word at (word_fault at i (Some test)) (statement_typed within i body.place body.kind.value)

    do_entered : do_typed w i at test body.place body.kind.value ≡ lift (do_after at test) do_body
    do_entered = ap (λ x. lift (do_after at test) (after_word at (word_fault at i (Some test)) (statement_typed x i body.place body.kind.value))) (sym is)

    pub do_body_stops : (r : TypeRefusal) → IsRefused do_body r → IsRefused (do_typed w i at test body.place body.kind.value) r
    do_body_stops r h = refused_as r do_entered (lift-refused (do_after at test) _ r h)

    module _ (one : Part Statement) (runs : do_body ≡ Fine one) where
      pub do_test_stops : (r : TypeRefusal) → IsRefused (tested_in at one.inside test) r → IsRefused (do_typed w i at test body.place body.kind.value) r
      do_test_stops r h = refused_as r (do_entered ∙ lift_is (do_after at test) _ one runs) (lift-refused (do_made at one.found) _ r h)

      pub do_taken : (t : Part Typed) → tested_in at one.inside test ≡ Fine t → do_typed w i at test body.place body.kind.value ≡ do_made at one.found t
      do_taken t tests = do_entered ∙ lift_is (do_after at test) _ one runs ∙ lift_is (do_made at one.found) _ t tests

-- the rule for `for`, once its parts are typed
abbrev for_last : Where → Inside → Place → Place → RawStmtKind → TypedStatements → Part (Option Typed) → Part (Option Typed)
    → Verdict (Part Statement)
for_last w i at place body f t l = lift (for_made at i f.statements t.found l.found) (statement_typed (in_loop w) l.inside place body)

abbrev for_test : Where → Inside → Place → Option RawExpr → Place → RawStmtKind → TypedStatements → Part (Option Typed)
    → Verdict (Part Statement)
for_test w i at last place body f t = lift (for_last w i at place body f t) (dropped_if t.inside last)

abbrev for_first : Where → Inside → Place → Option RawExpr → Option RawExpr → Place → RawStmtKind → TypedStatements → Verdict (Part Statement)
for_first w i at test last place body f = lift (for_test w i at last place body f) (tested_if at f.inside test)

module _ (w : Where) (i : Inside) (at : Place) (first : RawFirst) (test last : Option RawExpr) (place : Place) (body : RawStmtKind) (inner : Inside)
    (enters : inner ≡ in_block i) where
  abbrev pub for_begins : Verdict TypedStatements
  for_begins = after_word at (word_fault at inner test) (first_typed inner first)

  for_entered : for_typed w i at first test last place body ≡ lift (for_first w i at test last place body) for_begins
  for_entered = ap (λ x. lift (for_first w i at test last place body) (after_word at (word_fault at x test) (first_typed x first))) (sym enters)

  pub for_first_stops : (r : TypeRefusal) → IsRefused for_begins r → IsRefused (for_typed w i at first test last place body) r
  for_first_stops r h = refused_as r for_entered (lift-refused (for_first w i at test last place body) _ r h)

  module _ (f : TypedStatements) (begins : for_begins ≡ Fine f) where
    for_begun : for_typed w i at first test last place body ≡ for_first w i at test last place body f
    for_begun = for_entered ∙ lift_is (for_first w i at test last place body) _ f begins

    pub for_test_stops : (r : TypeRefusal) → IsRefused (tested_if at f.inside test) r → IsRefused (for_typed w i at first test last place body) r
    for_test_stops r h = refused_as r for_begun (lift-refused (for_test w i at last place body f) _ r h)

    module _ (t : Part (Option Typed)) (tests : tested_if at f.inside test ≡ Fine t) where
      for_tested : for_typed w i at first test last place body ≡ for_test w i at last place body f t
      for_tested = for_begun ∙ lift_is (for_test w i at last place body f) _ t tests

      pub for_last_stops : (r : TypeRefusal) → IsRefused (dropped_if t.inside last) r → IsRefused (for_typed w i at first test last place body) r
      for_last_stops r h = refused_as r for_tested (lift-refused (for_last w i at place body f t) _ r h)

      module _ (l : Part (Option Typed)) (drops : dropped_if t.inside last ≡ Fine l) (within : Where) (is : within ≡ in_loop w) where
        for_dropped : for_typed w i at first test last place body ≡ for_last w i at place body f t l
        for_dropped = for_tested ∙ lift_is (for_last w i at place body f t) _ l drops

        pub for_body_stops : (r : TypeRefusal) → IsRefused (statement_typed within l.inside place body) r
            → IsRefused (for_typed w i at first test last place body) r
        for_body_stops r h =
            refused_as r for_dropped
            (lift-refused (for_made at i f.statements t.found l.found) _ r (subst (λ x. IsRefused (statement_typed x l.inside place body) r) is h))

        pub for_taken : (one : Part Statement) → statement_typed within l.inside place body ≡ Fine one
            → for_typed w i at first test last place body ≡ for_made at i f.statements t.found l.found one
        for_taken one runs =
            for_dropped ∙ lift_is (for_made at i f.statements t.found l.found) _ one
            (subst (λ x. statement_typed x l.inside place body ≡ Fine one) is runs)

-- the rule for `switch`, once its controlling expression is typed
abbrev switch_after : Where → Inside → Place → List RawSwitchItem → Part Typed → Verdict (Part Statement)
switch_after w i at list v = lift (switch_made at i v.found) (switch_list_typed (in_switch w) (type_of v.found) list (no_cases (in_block v.inside)))

module _ (w : Where) (i : Inside) (at : Place) (value : RawExpr) (list : List RawSwitchItem) where
  pub switch_value_stops : (r : TypeRefusal) → IsRefused (selected at i value) r → IsRefused (switch_whole w i at value list) r
  switch_value_stops r h = lift-refused (switch_after w i at list) (selected at i value) r h

  module _ (v : Part Typed) (selects : selected at i value ≡ Fine v) (within : Where) (inner : Inside) (is : within ≡ in_switch w)
      (enters : inner ≡ in_block v.inside) where
    switch_entered : switch_whole w i at value list ≡ lift (switch_made at i v.found) (switch_list_typed within (type_of v.found) list (no_cases inner))
    switch_entered =
        lift_is (switch_after w i at list) _ v selects
        ∙ ap (λ x. lift (switch_made at i v.found) (switch_list_typed x (type_of v.found) list (no_cases (in_block v.inside)))) (sym is)
        ∙ ap (λ x. lift (switch_made at i v.found) (switch_list_typed within (type_of v.found) list (no_cases x))) (sym enters)

    pub switch_items_stop : (r : TypeRefusal) → IsRefused (switch_list_typed within (type_of v.found) list (no_cases inner)) r
        → IsRefused (switch_whole w i at value list) r
    switch_items_stop r h = refused_as r switch_entered (lift-refused (switch_made at i v.found) _ r h)

    pub switch_taken : (s : Switching) → switch_list_typed within (type_of v.found) list (no_cases inner) ≡ Fine s
        → switch_whole w i at value list ≡ switch_made at i v.found s
    switch_taken s runs = switch_entered ∙ lift_is (switch_made at i v.found) _ s runs

-- a block
module _ (w : Where) (i : Inside) (list : List RawItem) (inner : Inside) (enters : inner ≡ in_block i) where
  block_entered : block_typed w i list ≡ lift (λ reported. Fine (closed i reported)) (body_typed w list (no_statements inner))
  block_entered = ap (λ x. lift (λ reported. Fine (closed i reported)) (body_typed w list (no_statements x))) (sym enters)

  pub block_stops : (r : TypeRefusal) → IsRefused (body_typed w list (no_statements inner)) r → IsRefused (block_typed w i list) r
  block_stops r h = refused_as r block_entered (lift-refused (λ reported. Fine (closed i reported)) _ r h)

  pub block_taken : (reported : TypedStatements) → body_typed w list (no_statements inner) ≡ Fine reported
      → block_typed w i list ≡ Fine (closed i reported)
  block_taken reported runs = block_entered ∙ lift_is (λ reported. Fine (closed i reported)) _ reported runs

-- a label that is the first of its name
module _ (w : Where) (i : Inside) (at : Place) (name : List ℕ) (place : Place) (body : RawStmtKind) (first : is_first i (label_number name w.labels) ≡ true)
    (inner : Inside) (meets : inner ≡ meeting i) where
  label_met : label_typed w i at name place body ≡ lift (label_made at i.met) (statement_typed w inner place body)
  label_met =
      ap (λ b. cond b (lift (label_made at i.met) (statement_typed w (meeting i) place body)) (Fault Jump at)) first
      ∙ ap (λ x. lift (label_made at i.met) (statement_typed w x place body)) (sym meets)

  pub label_body_stops : (r : TypeRefusal) → IsRefused (statement_typed w inner place body) r → IsRefused (label_typed w i at name place body) r
  label_body_stops r h = refused_as r label_met (lift-refused (label_made at i.met) _ r h)

  pub label_taken : (one : Part Statement) → statement_typed w inner place body ≡ Fine one
      → label_typed w i at name place body ≡ label_made at i.met one
  label_taken one runs = label_met ∙ lift_is (label_made at i.met) _ one runs

-- a list of statements with one more at its end
pub reported_push : (before more : List Stmt) (s : Stmt) (now : HeldInside) → more ≡ before ++ s ∷ []
    → record { statements = map statement before ++ statement s ∷ []; inside = inside_of now } ≡ typed_statements_of more now
reported_push before more s now is =
    let made : List Statement → TypedStatements = λ ss. record { statements = ss; inside = inside_of now } in
    ap made (sym (map-append statement before (s ∷ [])) ∙ ap (map statement) (sym is))

-- no statements yet
pub reported_none : (list : List Stmt) (now : HeldInside) → list ≡ [] → no_statements (inside_of now) ≡ typed_statements_of list now
reported_none list now is = ap (λ l. typed_statements_of l now) (sym is)

-- what is known after a scope ends
pub left_is : (i : Inside) (now : HeldInside) (k : HeldEnvironment) (m : ScopeSnapshot) → environment_of k ≡ left_to m (environment_of now.known)
    → m ≡ snapshot_of i.known → knowing (environment_of k) (inside_of now) ≡ after_block i (inside_of now)
left_is i now k m leaves is = ap (λ x. knowing x (inside_of now)) (leaves ∙ ap (λ x. left_to x (environment_of now.known)) is)

pub closed_is : (i : Inside) (list : List Stmt) (now : HeldInside) (following : Inside) → following ≡ after_block i (inside_of now)
    → closed i (typed_statements_of list now) ≡ record { statements = map statement list; inside = following }
closed_is i list now following is =
    let made : Inside → TypedStatements = λ x. record { statements = map statement list; inside = x } in
    ap made (sym is)

-- a part whose context after it is known
pub part_inside : {A : Type 0} (x : Inside) (v : Verdict A) (p : Part A) → lift (part x) v ≡ Fine p → x ≡ p.inside
unfolding lift
part_inside {A} x (Fine a) p h =
    let made : Part A = record { found = a; inside = x } in
    let e : made ≡ p = cc in
    ap (λ (q : Part A). q.inside) e
part_inside {A} x (Fault code place) p h = absurd cc

-- a jump doesn't change what is known
pub answers_with : (at : Place) (now : HeldInside) (v : Verdict (Part Statement)) (result : Result StmtKind TypeRefusal)
    → Answers (λ kind. kind_at at kind (inside_of now)) v result → AnswersWith (kind_part at) v result now
answers_with at now v (Ok kind) h = h
answers_with at now v (Err refusal) h = h

-- Typed statements have positions of the written ones, and no more nodes than their text allows: for the contract of `typed`.
use Rattle.std.proofs.Common.{◌≡◌, ℕ, ℤ, ◌+◌, ◌*◌, ◌≤◌, List, [], ◌∷◌, ◌++◌, length, map, arith}
use Rattle.std.specs.Prelude.{Option, Some, None, IfSome}
use Rattle.std.specs.Option.{option_map}
use Rattle.std.specs.List.{All, AllByRecursion}
use Rattle.std.proofs.lemmas.List.{length_push}
use Rattle.std.proofs.lemmas.List.Elements.{recursion_from_All}
use Rattle.cs_types.specs.Shape.{Shape}
use Rattle.cs_ast.specs.declared.place.Place.{Place}
use Rattle.cs_ast.specs.declared.raw.declaration.RawSpecs.{RawSpecs}
use Rattle.cs_ast.specs.declared.raw.declaration.RawFirstValue.{RawFirstValue}
use Rattle.cs_ast.specs.declared.raw.declaration.RawInit.{RawInit}
use Rattle.cs_ast.specs.declared.raw.expression.RawExpr.{RawExpr}
use Rattle.cs_ast.specs.declared.raw.expression.RawExprKind.{RawExprKind}
use Rattle.cs_ast.specs.declared.raw.expression.RawExprKind.TheVariants as form
use Rattle.cs_ast.specs.declared.raw.statement.RawStmtKind as kinds
use Rattle.cs_ast.specs.declared.raw.statement.RawStmtKind.{RawStmtKind}
use Rattle.cs_ast.specs.declared.raw.statement.RawStmtKind.TheVariants as kind
use Rattle.cs_ast.specs.declared.raw.statement.RawItem.{RawItem}
use Rattle.cs_ast.specs.declared.raw.statement.RawItem as items
use Rattle.cs_ast.specs.declared.raw.statement.RawSwitchItem as switches
use Rattle.cs_ast.specs.declared.raw.statement.RawFirst.{RawFirst}
use Rattle.cs_ast.specs.declared.raw.statement.RawFirst.TheVariants as first_part
use Rattle.cs_ast.specs.declared.typed.statement.Case.{Case}
use Rattle.cs_ast.specs.declared.token.Keyword.TheVariants as keyword
use Rattle.cs_ast.specs.declared.token.Punctuator.TheVariants as punctuator
use Rattle.cs_ast.specs.RawView.{written}
use Rattle.cs_ast.specs.RawDeclarationView.{initial, declared, declarator, specs}
use Rattle.cs_ast.specs.RawStatementView.{first_of, sentence, item, items_row, switch_row, switch_item, items_list}
use Rattle.cs_ast.specs.TypedTree.{Typed, Statement}
use Rattle.cs_ast.specs.TypedProgram.{Variable}
use Rattle.cs_grammar.specs.Text.{Kinds, text}
use Rattle.cs_grammar.specs.FileText.{some_text, each_after_comma, with_commas, first_value_text, declared_text, declaration_text, first_text, test_text}
use Rattle.cs_grammar.specs.FileText.{sentence_text, item_text, items_text, switch_item_text, switch_text, punctuator_text, word_text}
use Rattle.cs_scopes.specs.declared.refusal.TypeCode.TheVariants.{CaseTwice, DeclaredTwice, Jump, Return}
use Rattle.cs_folding.specs.TypedParts.{type_of}
use Rattle.cs_scopes.specs.Verdicts.{Verdict, Fine, Fault, lift}
use Rattle.cs_consts.specs.Roles.{value_of, assigned_value, test_of, selector_of, discarded_value}
use Rattle.cs_declarations.specs.Initializers.{InFunction}
use Rattle.cs_declarations.specs.Environment.{is_declared_here}
use Rattle.cs_declarations.specs.Objects.{object_type}
use Rattle.cs_statements.specs.Locals.{Inside, LocalDeclared, TypedStatements, with_local, local_held, local_initialized, local_added, after_local}
use Rattle.cs_statements.specs.Locals.{locals_added}
use Rattle.cs_statements.specs.Statements.{word_fault, after_word}
use Rattle.cs_statements.specs.Statements.{Where, Part, Switching, in_loop, in_switch, in_a_row, part, past, tested_in, dropped_in, some_found, tested_if}
use Rattle.cs_statements.specs.Statements.{dropped_if, is_void, value_returned, returned, label_number, goto_typed, is_first, meeting, in_block, declared_in}
use Rattle.cs_statements.specs.Statements.{declaration_typed, first_place, no_statements, telling, ran_first, first_typed, is_case, case_put, case_added}
use Rattle.cs_statements.specs.Statements.{with_statements, block_made, run_made, if_made, if_else_made, while_made, do_made, for_made, switch_made}
use Rattle.cs_statements.specs.Statements.{return_made, label_made, selected, statement_typed, item_typed, items_typed, switch_item_typed, switch_typed}
use Rattle.cs_statements.specs.Statements.{body_typed}
use Rattle.cs_well_formed.specs.Bounded.{IsBoundedBy}
use Rattle.cs_well_formed.specs.Nodes.{expression_nodes, statement_nodes, statements_nodes, nodes_if_any}
use Rattle.cs_well_formed.specs.Places.{StandsAmong, StatementStandsAmong, StatementsStandAmong}
use Rattle.cs_well_formed.specs.Sizes.{text_size, size_of}
use Rattle.cs_well_formed.specs.WrittenPlaces.{WrittenAmong, ExpressionAmong, FirstValueAmong, DeclaredAmong, FirstAmong, SentenceAmong, ItemAmong, ItemsAmong}
use Rattle.cs_well_formed.specs.WrittenPlaces.{SwitchItemAmong, SwitchItemsAmong}
use Rattle.cs_well_formed.proofs.Verdicts.{IfFine, if_fine-any, if_fine-weaker, lift-then, cond-then}
use Rattle.cs_statements.proofs.BoundedParts.{nodes_known, assigned-bounded, test-bounded, selector-bounded, discarded-bounded, IsFirst, first-bounded}
use Rattle.cs_statements.proofs.BoundedParts.{IsTyping, words-bounded, grows-by}
use Rattle.cs_well_formed.proofs.TextSizes.{size-text, size-initial, size-specs}
use Rattle.cs_statements.proofs.BoundedTexts.{some_size, declarator_size}
use Rattle.cs_statements.proofs.AfterWords.{after_word-then}

-- the variables of a function so far, and the nodes of what is known in it
abbrev pub weight : Inside → ℕ
weight i = nodes_known i.known + length i.variables

-- the nodes of a list of statements with one more
row-nodes : (before : List Statement) (last : Statement)
    → statements_nodes (in_a_row (before ++ last ∷ [])) ≡ statements_nodes (in_a_row before) + statement_nodes last
row-nodes [] last = omega arith
row-nodes (s ∷ ss) last = let e = row-nodes ss last in omega (arith, e)

module _ (Is : Place → Type 0) where
  -- the position of an expression is one of these
  pub stands-at : (at : Place) (k : RawExprKind) → WrittenAmong Is at k → Is at
  stands-at at (form.Name name) h = h
  stands-at at (form.Number constant) h = h
  stands-at at (form.Character value) h = h
  stands-at at (form.Text bytes) h = h
  stands-at at (form.Parenthesis' place p inner) h = h.0
  stands-at at (form.Index' place p array place' q number) h = h.0
  stands-at at (form.Call' place p function shape row) h = h.0
  stands-at at (form.Member' place p object name) h = h.0
  stands-at at (form.Arrow' place p pointer name) h = h.0
  stands-at at (form.StepAfter' step place p object) h = h.0
  stands-at at (form.StepBefore' step place p object) h = h.0
  stands-at at (form.Prefix' operator place p operand) h = h.0
  stands-at at (form.SizeOf' place p operand) h = h.0
  stands-at at (form.SizeOfType' ty shape row) h = h
  stands-at at (form.Cast' ty shape row place p operand) h = h.0
  stands-at at (form.Infix' operator place p left place' q right) h = h.0
  stands-at at (form.Choice' place p test place' q one place'' r other) h = h.0
  stands-at at (form.Assign' operator place p object place' q value) h = h.0
  stands-at at (form.Comma' place p first place' q second) h = h.0

  row-stands : (before : List Statement) (last : Statement) → StatementsStandAmong Is (in_a_row before) → StatementStandsAmong Is last
      → StatementsStandAmong Is (in_a_row (before ++ last ∷ []))
  row-stands [] last h k = (k, tt)
  row-stands (s ∷ ss) last h k = (h.0, row-stands ss last h.1 k)

  -- ---- expressions

  -- an expression from a text of some size, and what is known after it
  abbrev GivesExpression : Inside → ℕ → Part Typed → Type 0
  GivesExpression i size p = StandsAmong Is p.found × (weight p.inside + expression_nodes p.found ≤ weight i + 16 * size)

  abbrev GivesAny : Inside → ℕ → Part (Option Typed) → Type 0
  GivesAny i size p = IfSome p.found (StandsAmong Is) × (weight p.inside + nodes_if_any expression_nodes p.found ≤ weight i + 16 * size)

  abbrev written_length : RawExpr → ℕ
  written_length e = size_of (text (written e))

  abbrev any_length : Option RawExpr → ℕ
  any_length e = size_of (some_text (option_map written e))

  expression-gives : (i : Inside) (e : RawExpr) (v : Verdict Typed) → IfFine v (IsBoundedBy Is i.known.literals e)
      → IfFine (lift (part (past e i)) v) (GivesExpression i (written_length e))
  expression-gives i e v h =
      lift-then (IsBoundedBy Is i.known.literals e) (GivesExpression i (written_length e)) (part (past e i)) v h
      (λ a k. (k.stands, omega (arith, k.with_texts)))

  tested_in-gives : (at : Place) (i : Inside) (e : RawExpr) → ExpressionAmong Is e → IfFine (tested_in at i e) (GivesExpression i (written_length e))
  tested_in-gives at i e among =
      expression-gives i e (test_of i.known.context i.known.literals at e) (test-bounded Is i.known.context i.known.literals at e among)

  dropped_in-gives : (i : Inside) (e : RawExpr) → ExpressionAmong Is e → IfFine (dropped_in i e) (GivesExpression i (written_length e))
  dropped_in-gives i e among = expression-gives i e (discarded_value i.known.context i.known.literals e)
      (discarded-bounded Is i.known.context i.known.literals e among)

  selected-gives : (at : Place) (i : Inside) (e : RawExpr) → Is at → ExpressionAmong Is e
      → IfFine (selected at i e) (GivesExpression i (written_length e))
  selected-gives at i e here among =
      expression-gives i e (selector_of i.known.context i.known.literals at e) (selector-bounded Is i.known.context i.known.literals at e here among)

  tested_if-gives : (at : Place) (i : Inside) (e : Option RawExpr) → IfSome e (ExpressionAmong Is) → IfFine (tested_if at i e) (GivesAny i (any_length e))
  tested_if-gives at i None among = (tt, omega arith)
  tested_if-gives at i (Some e) among =
      lift-then (GivesExpression i (written_length e)) (GivesAny i (written_length e)) some_found (tested_in at i e) (tested_in-gives at i e among) (λ p g. g)

  dropped_if-gives : (i : Inside) (e : Option RawExpr) → IfSome e (ExpressionAmong Is) → IfFine (dropped_if i e) (GivesAny i (any_length e))
  dropped_if-gives i None among = (tt, omega arith)
  dropped_if-gives i (Some e) among =
      lift-then (GivesExpression i (written_length e)) (GivesAny i (written_length e)) some_found (dropped_in i e) (dropped_in-gives i e among) (λ p g. g)

  value_returned-gives : (w : Where) (at : Place) (i : Inside) (e : RawExpr) → Is at → ExpressionAmong Is e
      → IfFine (value_returned w at i e) (GivesExpression i (written_length e))
  value_returned-gives w at i e here among =
      cond-then (GivesExpression i (written_length e)) (is_void w.returns) (Fault Return at)
      (lift (part (past e i)) (assigned_value i.known.context i.known.literals at w.returns e)) (λ _. tt)
      (λ _.
      expression-gives i e (assigned_value i.known.context i.known.literals at w.returns e)
      (assigned-bounded Is i.known.context i.known.literals at w.returns e here among))

  returned-gives : (w : Where) (at : Place) (i : Inside) (e : Option RawExpr) → Is at → IfSome e (ExpressionAmong Is)
      → IfFine (returned w at i e) (GivesAny i (any_length e))
  returned-gives w at i None here among = cond-then (GivesAny i 0) (is_void w.returns) (part i None) (Fault Return at) (λ _. (tt, omega arith)) (λ _. tt)
  returned-gives w at i (Some e) here among =
      lift-then (GivesExpression i (written_length e)) (GivesAny i (written_length e)) some_found (value_returned w at i e)
      (value_returned-gives w at i e here among) (λ p g. g)

  -- ---- declarations

  -- statements so far, within a bound that leaves room for a text of some size after them
  abbrev pub HasRoom : ℕ → ℕ → TypedStatements → Type 0
  HasRoom room size reported = StatementsStandAmong Is (in_a_row reported.statements)
      × (weight reported.inside + statements_nodes (in_a_row reported.statements) + 24 * size ≤ room)

  -- one more statement
  yields-one : (room size : ℕ) (before : List Statement) (i j : Inside) (last : Statement) (longer : ℕ)
      → HasRoom room longer (record { statements = before; inside = i }) → StatementStandsAmong Is last
      → weight j + statement_nodes last + 24 * size ≤ weight i + 24 * longer
      → HasRoom room size (record { statements = before ++ last ∷ []; inside = j })
  yields-one room size before i j last longer h stands fits =
      (row-stands before last h.0 stands, (let e = row-nodes before last in omega (arith, e, h.1, fits)))

  abbrev first_length : Option RawFirstValue → Kinds → ℕ
  first_length first rest = text_size (first_value_text (option_map (λ (v : RawFirstValue). initial v.initial) first) rest)

  -- a declared local within a bound that leaves room for a text after it
  abbrev GivesLocal : ℕ → ℕ → LocalDeclared → Type 0
  GivesLocal room size one = StatementStandsAmong Is one.statement × (weight one.inside + statement_nodes one.statement + 24 * size ≤ room)

  local_initialized-gives : (number : ℕ) (ty : Shape) (at : Place) (first : Option RawFirstValue) (i : Inside) (rest : Kinds) → Is at
      → IfSome first (FirstValueAmong Is)
      → IfFine (local_initialized number ty at first i) (GivesLocal (weight i + 1 + 24 * first_length first rest) (text_size rest))
  local_initialized-gives number ty at None i rest here among = ((here, tt), omega arith)
  local_initialized-gives number ty at (Some value) i rest here among =
      let raw = value.initial in
      let long = size-initial (initial raw) rest in
      lift-then (IsFirst Is i.known.context i.known.literals raw) (GivesLocal (weight i + 1 + 24 * first_length (Some value) rest) (text_size rest))
      (local_held number value.place i) _
      (first-bounded Is i.known.context i.known.literals InFunction value.place ty raw among.equals among.values)
      (λ r k. ((among.equals, k.stands), omega (arith, k.with_texts, long)))

  local_added-gives : (base : Shape) (d : RawInit) (i : Inside) (rest : Kinds) → DeclaredAmong Is d
      → IfFine (local_added base d i) (GivesLocal (weight i + 24 * text_size (declared_text (declared d) rest)) (text_size rest))
  local_added-gives base d i rest among =
      cond-then (GivesLocal room (text_size rest)) (is_declared_here d.declarator.name i.known) (Fault DeclaredTwice d.declarator.place) _ (λ _. tt)
      (λ _.
      lift-then (λ _. Unit {0}) (GivesLocal room (text_size rest)) _ (object_type i.known.context base d)
      (if_fine-any (object_type i.known.context base d))
      (λ ty _.
      let j = with_local d.declarator.name ty i in
      if_fine-weaker (GivesLocal (weight j + 1 + 24 * first_length d.initial rest) (text_size rest)) (GivesLocal room (text_size rest))
      (local_initialized (length i.variables) ty d.declarator.place d.initial j)
      (local_initialized-gives (length i.variables) ty d.declarator.place d.initial j rest among.name among.initial)
      (λ one k. (k.0, omega (arith, k.1, fits ty)))))
    where
      room : ℕ
      room = weight i + 24 * text_size (declared_text (declared d) rest)

      fits : (ty : Shape) → weight (with_local d.declarator.name ty i) + 1 + 24 * first_length d.initial rest ≤ room
      fits ty =
          let named = declarator_size (declarator d.declarator) (first_value_text (option_map (λ (v : RawFirstValue). initial v.initial) d.initial) rest) in
          let variable : Variable = record { name = d.declarator.name; ty = ty; block = None } in
          let more = length_push i.variables variable in
          omega (arith, named, more)

  -- a local after statements
  local-following : (room : ℕ) (base : Shape) (d : RawInit) (so_far : TypedStatements) (rest : Kinds) → DeclaredAmong Is d
      → HasRoom room (text_size (declared_text (declared d) rest)) so_far
      → IfFine (lift (after_local so_far.statements) (local_added base d so_far.inside)) (HasRoom room (text_size rest))
  local-following room base d so_far rest among h =
      lift-then (GivesLocal (weight so_far.inside + 24 * text_size (declared_text (declared d) rest)) (text_size rest)) (HasRoom room (text_size rest))
      (after_local so_far.statements) _
      (local_added-gives base d so_far.inside rest among)
      (λ one k.
      yields-one room (text_size rest) so_far.statements so_far.inside one.inside one.statement (text_size (declared_text (declared d) rest)) h k.0 k.1)

  further-locals : (room : ℕ) (base : Shape) (ds : List RawInit) (so_far : TypedStatements) (rest : Kinds) → AllByRecursion (DeclaredAmong Is) ds
      → HasRoom room (text_size (each_after_comma declared_text (map declared ds) rest)) so_far
      → IfFine (locals_added base ds so_far) (HasRoom room (text_size rest))
  further-locals room base [] so_far rest among h = h
  further-locals room base (d ∷ ds) so_far rest among h =
      let following = each_after_comma declared_text (map declared ds) rest in
      lift-then (HasRoom room (text_size following)) (HasRoom room (text_size rest)) (locals_added base ds) _
      (local-following room base d so_far following among.0 (h.0, (let k = h.1 in omega (arith, k))))
      (λ reported k. further-locals room base ds reported rest among.1 k)

  pub locals-room : (room : ℕ) (base : Shape) (ds : List RawInit) (so_far : TypedStatements) (rest : Kinds) → AllByRecursion (DeclaredAmong Is) ds
      → HasRoom room (text_size (with_commas declared_text (map declared ds) rest)) so_far
      → IfFine (locals_added base ds so_far) (HasRoom room (text_size rest))
  locals-room room base [] so_far rest among h = h
  locals-room room base (d ∷ ds) so_far rest among h =
      let following = each_after_comma declared_text (map declared ds) rest in
      lift-then (HasRoom room (text_size following)) (HasRoom room (text_size rest)) (locals_added base ds) _
      (local-following room base d so_far following among.0 h) (λ reported k. further-locals room base ds reported rest among.1 k)

  declaration-room : (room : ℕ) (s : RawSpecs) (objects : List RawInit) (so_far : TypedStatements) (rest : Kinds) → All (DeclaredAmong Is) objects
      → HasRoom room (text_size (declaration_text (specs s) (map declared objects) rest)) so_far
      → IfFine (declaration_typed s objects so_far) (HasRoom room (text_size rest))
  declaration-room room s objects so_far rest among h =
      let following = punctuator_text punctuator.Semicolon rest in
      let named = with_commas declared_text (map declared objects) following in
      let long = size-specs (specs s) named in
      lift-then (IsTyping so_far.inside.known s) (HasRoom room (text_size rest)) (declared_in s objects so_far) _
      (words-bounded so_far.inside.known (first_place objects) s)
      (λ ty g.
      let grown = grows-by so_far.inside.known ty.1 _ g in
      let begun : TypedStatements = record {
        statements = so_far.statements;
        inside = record { known = ty.1; variables = so_far.inside.variables; met = so_far.inside.met };
      } in
      if_fine-weaker (HasRoom room (text_size following)) (HasRoom room (text_size rest)) (locals_added ty.0 objects begun)
      (locals-room room ty.0 objects begun following (recursion_from_All (DeclaredAmong Is) objects among) (h.0, omega (arith, long, grown, h.1)))
      (λ reported k. (k.0, omega (arith, k.1))))

  -- ---- statements

  abbrev test_length : RawExpr → Kinds → ℕ
  test_length e rest = text_size (test_text (written e) rest)

  test-size : (e : RawExpr) (rest : Kinds) → test_length e rest ≡ written_length e + 2 + text_size rest
  test-size e rest = let long = size-text (written e) (punctuator_text punctuator.CloseParenthesis rest) in omega (arith, long)

  first-room : (i : Inside) (first : RawFirst) (rest : Kinds) → FirstAmong Is first
      → IfFine (first_typed i first) (HasRoom (weight i + 24 * text_size (first_text (first_of first) rest)) (text_size rest))
  first-room i first_part.Empty rest among = (tt, omega arith)
  first-room i (first_part.Run e) rest among =
      let long = size-text (written e) (punctuator_text punctuator.Semicolon rest) in
      lift-then (GivesExpression i (written_length e)) (HasRoom (weight i + 24 * text_size (first_text (first_of (first_part.Run e)) rest)) (text_size rest))
      (ran_first e.place) (dropped_in i e) (dropped_in-gives i e among)
      (λ p g. (((stands-at e.place e.kind.value among, g.0), tt), omega (arith, g.1, long)))
  first-room i (first_part.Declare s objects) rest among = declaration-room _ s objects.items (no_statements i) rest among (tt, omega arith)

  -- a statement within a bound that leaves room for a text after it
  abbrev pub GivesStatement : ℕ → ℕ → Part Statement → Type 0
  GivesStatement room size p = StatementStandsAmong Is p.found × (weight p.inside + statement_nodes p.found + 24 * size ≤ room)

  -- a `switch` so far, within a bound that leaves room for a text after it
  abbrev SwitchHasRoom : ℕ → ℕ → Switching → Type 0
  SwitchHasRoom room size s =
      StatementsStandAmong Is (in_a_row s.reported.statements)
      × (weight s.reported.inside + statements_nodes (in_a_row s.reported.statements) + length s.cases + 24 * size ≤ room)

  goto-gives : (at : Place) (i : Inside) (number : Option ℕ) (room size : ℕ) → weight i + 1 + 24 * size ≤ room → Is at
      → IfFine (goto_typed at i number) (GivesStatement room size)
  goto-gives at i (Some number) room size fits here = (here, fits)
  goto-gives at i None room size fits here = tt

  case_put-longer : (at : Place) (value : Option ℤ) (number : ℕ) (cases : List Case)
      → IfFine (case_put at value number cases) (λ (all : List Case). length all ≡ length cases + 1)
  case_put-longer at value number cases =
      let one : Case = record { value = value; item = number } in
      cond-then (λ (all : List Case). length all ≡ length cases + 1) (is_case value cases) (Fault CaseTwice at) (Fine (cases ++ one ∷ [])) (λ _. tt)
      (λ _. length_push cases one)

  case_added-room : (room size longer : ℕ) (at : Place) (so_far : Switching) (value : Option ℤ) → 1 + size ≤ longer → SwitchHasRoom room longer so_far
      → IfFine (case_added at so_far value) (SwitchHasRoom room size)
  case_added-room room size longer at so_far value long h =
      lift-then (λ (all : List Case). length all ≡ length so_far.cases + 1) (SwitchHasRoom room size) _
      (case_put at value (length so_far.reported.statements) so_far.cases)
      (case_put-longer at value (length so_far.reported.statements) so_far.cases) (λ cases e. (h.0, (let k = h.1 in omega (arith, k, e, long))))

  abbrev length_of : RawStmtKind → Kinds → ℕ
  length_of k rest = text_size (sentence_text (sentence k) rest)

  mutual
    pub statement-fits : (w : Where) (i : Inside) (at : Place) (k : RawStmtKind) (rest : Kinds) → SentenceAmong Is at k
        → IfFine (statement_typed w i at k) (GivesStatement (weight i + 24 * length_of k rest) (text_size rest))
    statement-fits w i at (kind.Block' shape row) rest among =
        let following = punctuator_text punctuator.CloseBrace rest in
        let room = weight i + 24 * text_size (items_text (items_row row) following) in
        lift-then (HasRoom room (text_size following)) (GivesStatement (weight i + 24 * length_of (kind.Block' shape row) rest) (text_size rest))
        (block_made at i) (items_typed w row (no_statements (in_block i)))
        (items-fit room w row (no_statements (in_block i)) following among.1 (tt, omega arith))
        (λ reported g. ((among.0, g.0), (let k = g.1 in omega (arith, k))))
    statement-fits w i at kind.Empty rest among = ((among, tt), omega arith)
    statement-fits w i at (kind.Run e) rest among =
        let long = size-text (written e) (punctuator_text punctuator.Semicolon rest) in
        lift-then (GivesExpression i (written_length e)) (GivesStatement (weight i + 24 * length_of (kind.Run e) rest) (text_size rest)) (run_made at)
        (dropped_in i e) (dropped_in-gives i e among.1)
        (λ p g. ((among.0, g.0), (let k = g.1 in omega (arith, k, long))))
    statement-fits w i at (kind.If' test place p body) rest among =
        let Whole = GivesStatement (weight i + 24 * length_of (kind.If' test place p body) rest) (text_size rest) in
        let long = test-size test (sentence_text (sentence body) rest) in
        lift-then (GivesExpression i (written_length test)) Whole _ (tested_in at i test) (tested_in-gives at i test among.1)
        (λ t g.
        lift-then (GivesStatement (weight t.inside + 24 * length_of body rest) (text_size rest)) Whole (if_made at t.found)
        (statement_typed w t.inside place body) (statement-fits w t.inside place body rest among.2)
        (λ b k. ((among.0, g.0, k.0), (let m = g.1 in let n = k.1 in omega (arith, long, m, n)))))
    statement-fits w i at (kind.IfElse' test place p body place' q other) rest among =
        let Whole = GivesStatement (weight i + 24 * length_of (kind.IfElse' test place p body place' q other) rest) (text_size rest) in
        let following = word_text keyword.Else (sentence_text (sentence other) rest) in
        let long = test-size test (sentence_text (sentence body) following) in
        lift-then (GivesExpression i (written_length test)) Whole _ (tested_in at i test) (tested_in-gives at i test among.1)
        (λ t g.
        lift-then (GivesStatement (weight t.inside + 24 * length_of body following) (text_size following)) Whole _ (statement_typed w t.inside place body)
        (statement-fits w t.inside place body following among.2)
        (λ one k.
        lift-then (GivesStatement (weight one.inside + 24 * length_of other rest) (text_size rest)) Whole (if_else_made at t.found one.found)
        (statement_typed w one.inside place' other)
        (statement-fits w one.inside place' other rest among.3)
        (λ two l. ((among.0, g.0, k.0, l.0), (let m = g.1 in let n = k.1 in let o = l.1 in omega (arith, long, m, n, o))))))
    statement-fits w i at (kind.While' test place p body) rest among =
        let Whole = GivesStatement (weight i + 24 * length_of (kind.While' test place p body) rest) (text_size rest) in
        let long = test-size test (sentence_text (sentence body) rest) in
        lift-then (GivesExpression i (written_length test)) Whole _ (tested_in at i test) (tested_in-gives at i test among.1)
        (λ t g.
        lift-then (GivesStatement (weight t.inside + 24 * length_of body rest) (text_size rest)) Whole (while_made at t.found)
        (statement_typed (in_loop w) t.inside place body)
        (statement-fits (in_loop w) t.inside place body rest among.2)
        (λ b k. ((among.0, g.0, k.0), (let m = g.1 in let n = k.1 in omega (arith, long, m, n)))))
    statement-fits w i at (kind.Do' place p body test) rest among =
        let Whole = GivesStatement (weight i + 24 * length_of (kind.Do' place p body test) rest) (text_size rest) in
        let following = word_text keyword.While (test_text (written test) (punctuator_text punctuator.Semicolon rest)) in
        let long = test-size test (punctuator_text punctuator.Semicolon rest) in
        let Body = GivesStatement (weight i + 24 * length_of body following) (text_size following) in
        lift-then Body Whole _ (after_word at (word_fault at i (Some test)) (statement_typed (in_loop w) i place body))
        (after_word-then Body at (word_fault at i (Some test)) (statement_typed (in_loop w) i place body)
        (statement-fits (in_loop w) i place body following among.1))
        (λ b k.
        lift-then (GivesExpression b.inside (written_length test)) Whole (do_made at b.found) (tested_in at b.inside test)
        (tested_in-gives at b.inside test among.2)
        (λ t g. ((among.0, k.0, g.0), (let m = g.1 in let n = k.1 in omega (arith, long, m, n)))))
    statement-fits w i at (kind.For' first test last place p body) rest among =
        let Whole = GivesStatement (weight i + 24 * length_of (kind.For' first test last place p body) rest) (text_size rest) in
        let third = punctuator_text punctuator.CloseParenthesis (sentence_text (sentence body) rest) in
        let second = punctuator_text punctuator.Semicolon (some_text (option_map written last) third) in
        let following = some_text (option_map written test) second in
        let long = some_size (option_map written test) second in
        let long' = some_size (option_map written last) third in
        let Begun = HasRoom (weight i + 24 * text_size (first_text (first_of first) following)) (text_size following) in
        lift-then Begun Whole _ (after_word at (word_fault at (in_block i) test) (first_typed (in_block i) first))
        (after_word-then Begun at (word_fault at (in_block i) test) (first_typed (in_block i) first) (first-room (in_block i) first following among.1))
        (λ f g.
        lift-then (GivesAny f.inside (any_length test)) Whole _ (tested_if at f.inside test) (tested_if-gives at f.inside test among.2)
        (λ t k.
        lift-then (GivesAny t.inside (any_length last)) Whole _ (dropped_if t.inside last) (dropped_if-gives t.inside last among.3)
        (λ l m.
        lift-then (GivesStatement (weight l.inside + 24 * length_of body rest) (text_size rest)) Whole (for_made at i f.statements t.found l.found)
        (statement_typed (in_loop w) l.inside place body)
        (statement-fits (in_loop w) l.inside place body rest among.4)
        (λ b n.
        ((among.0, g.0, k.0, m.0, n.0), (let g' = g.1 in let k' = k.1 in let m' = m.1 in let n' = n.1 in omega (arith, long, long', g', k', m', n')))))))
    statement-fits w i at (kind.Switch' value shape row) rest among =
        let Whole = GivesStatement (weight i + 24 * length_of (kind.Switch' value shape row) rest) (text_size rest) in
        let following = punctuator_text punctuator.CloseBrace rest in
        let long = test-size value (punctuator_text punctuator.OpenBrace (switch_text (switch_row row) following)) in
        lift-then (GivesExpression i (written_length value)) Whole _ (selected at i value) (selected-gives at i value among.0 among.1)
        (λ v g.
        let room = weight v.inside + 24 * text_size (switch_text (switch_row row) following) in
        let begun : Switching = record { cases = []; reported = no_statements (in_block v.inside) } in
        lift-then (SwitchHasRoom room (text_size following)) Whole (switch_made at i v.found) (switch_typed (in_switch w) (type_of v.found) row begun)
        (switch-fits room (in_switch w) (type_of v.found) row begun following among.2 (tt, omega arith))
        (λ s k. ((among.0, g.0, k.0), (let m = g.1 in let n = k.1 in omega (arith, long, m, n)))))
    statement-fits w i at (kind.Goto label) rest among = goto-gives at i (label_number label w.labels) _ (text_size rest) (omega arith) among
    statement-fits w i at kind.Continue rest among =
        cond-then (GivesStatement (weight i + 24 * length_of kind.Continue rest) (text_size rest)) w.continues _ (Fault Jump at) (λ _. (among, omega arith))
        (λ _. tt)
    statement-fits w i at kind.Break rest among =
        cond-then (GivesStatement (weight i + 24 * length_of kind.Break rest) (text_size rest)) w.breaks _ (Fault Jump at) (λ _. (among, omega arith))
        (λ _. tt)
    statement-fits w i at (kind.Return value) rest among =
        let long = some_size (option_map written value) (punctuator_text punctuator.Semicolon rest) in
        lift-then (GivesAny i (any_length value)) (GivesStatement (weight i + 24 * length_of (kind.Return value) rest) (text_size rest)) (return_made at)
        (returned w at i value) (returned-gives w at i value among.0 among.1)
        (λ p g. ((among.0, g.0), (let k = g.1 in omega (arith, k, long))))
    statement-fits w i at (kind.Label' name place p body) rest among =
        let Whole = GivesStatement (weight i + 24 * length_of (kind.Label' name place p body) rest) (text_size rest) in
        cond-then Whole (is_first i (label_number name w.labels)) _ (Fault Jump at)
        (λ _.
        lift-then (GivesStatement (weight i + 24 * length_of body rest) (text_size rest)) Whole (label_made at i.met) (statement_typed w (meeting i) place body)
        (statement-fits w (meeting i) place body rest among.1)
        (λ b k. ((among.0, k.0), (let m = k.1 in omega (arith, m)))))
        (λ _. tt)

    pub item-fits : (room : ℕ) (w : Where) (one : RawItem) (so_far : TypedStatements) (rest : Kinds) → ItemAmong Is one
        → HasRoom room (text_size (item_text (item one) rest)) so_far → IfFine (item_typed w one so_far) (HasRoom room (text_size rest))
    item-fits room w (items.TheVariants.Declare s objects) so_far rest among h = declaration-room room s objects.items so_far rest among h
    item-fits room w (items.TheVariants.Run' place p body) so_far rest among h =
        lift-then (GivesStatement (weight so_far.inside + 24 * length_of body rest) (text_size rest)) (HasRoom room (text_size rest))
        (telling so_far.statements) (statement_typed w so_far.inside place body)
        (statement-fits w so_far.inside place body rest among) (λ p g.
        yields-one room (text_size rest) so_far.statements so_far.inside p.inside p.found (length_of body rest) h g.0 g.1)

    items-fit : {n : _} → (room : ℕ) (w : Where) (row : kinds.Row_of-RawItem n) (so_far : TypedStatements) (rest : Kinds) → ItemsAmong Is row
        → HasRoom room (text_size (items_text (items_row row) rest)) so_far → IfFine (items_typed w row so_far) (HasRoom room (text_size rest))
    items-fit room w kinds.end_of-RawItem so_far rest among h = h
    items-fit room w (kinds.more_of-RawItem first others) so_far rest among h =
        let following = items_text (items_row others) rest in
        lift-then (HasRoom room (text_size following)) (HasRoom room (text_size rest)) (items_typed w others) (item_typed w first so_far)
        (item-fits room w first so_far following among.0 h)
        (λ reported g. items-fit room w others reported rest among.1 g)

    switch_item-fits : (room : ℕ) (w : Where) (ty : Shape) (one : switches.RawSwitchItem) (so_far : Switching) (rest : Kinds) → SwitchItemAmong Is one
        → SwitchHasRoom room (text_size (switch_item_text (switch_item one) rest)) so_far
        → IfFine (switch_item_typed w ty one so_far) (SwitchHasRoom room (text_size rest))
    switch_item-fits room w ty (switches.TheVariants.Case at value) so_far rest among h =
        let long = size-text (written value) (punctuator_text punctuator.Colon rest) in
        lift-then (λ _. Unit {0}) (SwitchHasRoom room (text_size rest)) _ (value_of so_far.reported.inside.known.context value)
        (if_fine-any (value_of so_far.reported.inside.known.context value))
        (λ n _.
        case_added-room room (text_size rest) (text_size (switch_item_text (switch_item (switches.TheVariants.Case at value)) rest)) at so_far _
        (omega (arith, long)) h)
    switch_item-fits room w ty (switches.TheVariants.Default at) so_far rest among h =
        case_added-room room (text_size rest) (text_size (switch_item_text (switch_item (switches.TheVariants.Default at)) rest)) at so_far None (omega arith) h
    switch_item-fits room w ty (switches.TheVariants.Item i) so_far rest among h =
        let inner = weight so_far.reported.inside + statements_nodes (in_a_row so_far.reported.statements) + 24 * text_size (item_text (item i) rest) in
        lift-then (HasRoom inner (text_size rest)) (SwitchHasRoom room (text_size rest)) (with_statements so_far) (item_typed w i so_far.reported)
        (item-fits inner w i so_far.reported rest among (h.0, omega arith))
        (λ reported g. (g.0, (let k = g.1 in let l = h.1 in omega (arith, k, l))))

    switch-fits : {n : _} → (room : ℕ) (w : Where) (ty : Shape) (row : kinds.Row_of-RawSwitchItem n) (so_far : Switching) (rest : Kinds)
        → SwitchItemsAmong Is row → SwitchHasRoom room (text_size (switch_text (switch_row row) rest)) so_far
        → IfFine (switch_typed w ty row so_far) (SwitchHasRoom room (text_size rest))
    switch-fits room w ty kinds.end_of-RawSwitchItem so_far rest among h = h
    switch-fits room w ty (kinds.more_of-RawSwitchItem first others) so_far rest among h =
        let following = switch_text (switch_row others) rest in
        lift-then (SwitchHasRoom room (text_size following)) (SwitchHasRoom room (text_size rest)) (switch_typed w ty others)
        (switch_item_typed w ty first so_far) (switch_item-fits room w ty first so_far following among.0 h)
        (λ s g. switch-fits room w ty others s rest among.1 g)

  -- the body of a function
  pub body-fits : (room : ℕ) (w : Where) (list : List RawItem) (so_far : TypedStatements) (rest : Kinds) → AllByRecursion (ItemAmong Is) list
      → HasRoom room (text_size (items_text (items_list list) rest)) so_far → IfFine (body_typed w list so_far) (HasRoom room (text_size rest))
  body-fits room w [] so_far rest among h = h
  body-fits room w (first ∷ others) so_far rest among h =
      let following = items_text (items_list others) rest in
      lift-then (HasRoom room (text_size following)) (HasRoom room (text_size rest)) (body_typed w others) (item_typed w first so_far)
      (item-fits room w first so_far following among.0 h)
      (λ reported g. body-fits room w others reported rest among.1 g)

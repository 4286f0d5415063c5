-- The positions of statements, over indices of tokens and over plain variables: for the clauses on positions of the parts that
-- parse them.
use Rattle.std.proofs.Common.{◌≡◌, ℕ, ◌+◌, ◌⊎◌, inl, inr, List, [], ◌∷◌, ◌++◌, Option, length, drop, refl, sym, ap, ◌∙◌}
use Rattle.std.proofs.Common.{subst, arith, Vec, Global}
use Rattle.std.proofs.lemmas.List.{drop-drop, length-append}
use Rattle.cs_ast.specs.declared.place.Place.{Place}
use Rattle.cs_ast.specs.declared.token.Token.{Token}
use Rattle.cs_ast.specs.declared.token.TokenKind.{TokenKind}
use Rattle.cs_ast.specs.declared.token.TokenKind.TheVariants as token
use Rattle.cs_ast.specs.declared.token.Keyword.TheVariants as keyword
use Rattle.cs_ast.specs.declared.token.Punctuator.TheVariants as punctuator
use Rattle.cs_ast.specs.declared.raw.expression.RawExpr.{RawExpr}
use Rattle.cs_ast.specs.declared.raw.statement.RawStmt.{RawStmt}
use Rattle.cs_ast.specs.declared.raw.statement.RawStmtKind as kinds
use Rattle.cs_ast.specs.declared.raw.statement.RawStmtKind.{RawStmtKind}
use Rattle.cs_ast.specs.declared.raw.statement.RawStmtKind.TheVariants as kind
use Rattle.cs_ast.specs.declared.raw.statement.RawItem.{RawItem}
use Rattle.cs_ast.specs.declared.raw.statement.RawSwitchItem.{RawSwitchItem}
use Rattle.cs_ast.specs.declared.raw.declaration.RawSpecs.{RawSpecs}
use Rattle.cs_ast.specs.declared.raw.declaration.RawInit.{RawInit}
use Rattle.cs_ast.specs.RawTree.{Written}
use Rattle.cs_ast.specs.RawView.{written}
use Rattle.cs_ast.specs.RawDeclarationView.{specs}
use Rattle.cs_ast.specs.RawStatements.{Sentence, Continue, Break}
use Rattle.cs_ast.specs.RawStatementView.{first_of, sentence, statement_of, item, switch_item}
use Rattle.std.specs.Option.{option_map}
use Rattle.cs_grammar.specs.TypeWords.{Names}
use Rattle.cs_grammar.specs.Text.{Kinds}
use Rattle.cs_grammar.specs.FileText.{specs_text, some_text, first_text, test_text, sentence_text, item_text, switch_item_text}
use Rattle.cs_grammar.specs.Places.{HasPlaces, StandsAt}
use Rattle.cs_grammar.proofs.FileTexts.{specs_append, optional_append, first_append, test_append, sentence_append, item_append, switch_item_append}
use Rattle.cs_expr_parser.specs.Parts.{Spells}
use Rattle.cs_decl_parser.specs.declared.loops.ForParts.{ForParts}
use Rattle.cs_decl_parser.specs.Forms.{IsJump}
use Rattle.cs_declarator_parser.specs.DeclarationPlaces.{past, IsSomePlaced}
use Rattle.cs_decl_parser.specs.FilePlaces.{past_first, past_test, IsFirstPlaced, ArePartsPlaced, IsItemPlaced, AreItemsPlaced}
use Rattle.cs_declarator_parser.specs.DeclarationPlaces.{HasSpecPlaces, AreObjectsPlaced, IsDeclarationPlaced}
use Rattle.cs_decl_parser.specs.FilePlaces.{IsSwitchItemPlaced, AreSwitchItemsPlaced}
use Rattle.cs_decl_parser.specs.StatementPlaces.{HasStatementPlaces, AreItemsBeside, AreSwitchItemsBeside, AreForPartsPlaced, IsMadeOf, IsLabelOf, IsTestedOf}
use Rattle.cs_decl_parser.specs.StatementPlaces.{IsChoiceOf, IsDoneOf, IsLoopOf}
use Rattle.cs_decl_parser.specs.Blocks.{Controls, control_of}
use Rattle.cs_ast.proofs.RawStatementRows.{block_of, switch_of}
use Rattle.cs_expr_parser.proofs.Standing.{spells_as}
use Rattle.cs_expr_parser.proofs.Stopping.{refused_number}
use Rattle.cs_decl_parser.proofs.ForSites.{controls_law}
use Rattle.cs_declarator_parser.proofs.Placing.{IsFramed, one_after, past_text, after_text, after_text_and_one, SidePlaced, side_begun, side_goes_on}

-- the tokens after some tokens from an index
pub on : (tokens : List Token) (from many next : ℕ) → next ≡ from + many → drop many (drop from tokens) ≡ drop next tokens
on tokens from many next e = drop-drop many from tokens ∙ ap (λ (n : ℕ). drop n tokens) (sym e)

-- what follows a keyword and a test
pub past_word_and_test : (tokens : List Token) (from next : ℕ) (test : Written) → Spells tokens (from + 1) next (test_text test)
    → past (test_text test) (drop 1 (drop from tokens)) ≡ drop next tokens
past_word_and_test tokens from next test sp = ap (past (test_text test)) (one_after tokens from)
    ∙ past_text (test_text test) (test_append test) tokens (from + 1) next sp

test_stands : (tokens : List Token) (from : ℕ) (test : RawExpr) → HasPlaces test (drop (from + 1 + 1) tokens) → HasPlaces test (drop 2 (drop from tokens))
test_stands tokens from test p = subst (HasPlaces test) (sym (on tokens from 2 (from + 1 + 1) (omega arith))) p

-- the items of a block or of a `switch`
items_in : (n : _) (row : kinds.Row_of-RawItem n) (list : List Token) → AreItemsBeside (kinds.items-the_row-RawItem n row) list → AreItemsPlaced row list
items_in n kinds.end_of-RawItem list a = tt
items_in n (kinds.more_of-RawItem first others) list a = (a.0, items_in _ others (past (item_text (item first)) list) a.1)

switch_items_in : (n : _) (row : kinds.Row_of-RawSwitchItem n) (list : List Token) → AreSwitchItemsBeside (kinds.items-the_row-RawSwitchItem n row) list
    → AreSwitchItemsPlaced row list
switch_items_in n kinds.end_of-RawSwitchItem list a = tt
switch_items_in n (kinds.more_of-RawSwitchItem first others) list a = (a.0, switch_items_in _ others (past (switch_item_text (switch_item first)) list) a.1)

pub block_made : (items : Vec RawItem Global) (list : List Token) → AreItemsBeside items.items (drop 1 list) → ArePartsPlaced (kind.Block items) list
block_made items list a =
    let row = block_of (kind.Block items) in
    items_in row.0 row.1 (drop 1 list) (subst (λ (x : List RawItem). AreItemsBeside x (drop 1 list)) (sym (kinds.items_hidden-the_row-RawItem-0 items)) a)

pub switch_made : (value : RawExpr) (items : Vec RawSwitchItem Global) (list : List Token) → HasPlaces value (drop 2 list)
    → AreSwitchItemsBeside items.items (drop 1 (past (test_text (written value)) (drop 1 list))) → ArePartsPlaced (kind.Switch value items) list
switch_made value items list v a =
    let row = switch_of (kind.Switch value items) in
    let there = drop 1 (past (test_text (written value)) (drop 1 list)) in (
      v,
      switch_items_in row.0 row.1 there
          (subst (λ (x : List RawSwitchItem). AreSwitchItemsBeside x there) (sym (kinds.items_hidden-the_row-RawSwitchItem-1 items)) a),
    )

-- `continue` and `break` have no parts
jump_is : (next : TokenKind) (s : Sentence) → IsJump next s → (s ≡ Continue) ⊎ (s ≡ Break)
jump_is (token.Keyword keyword.Continue) s j = inl j
jump_is (token.Keyword keyword.Break) s j = inr j
jump_is _ s j = absurd j

continue_made : (k : RawStmtKind) (list : List Token) → sentence k ≡ Continue → ArePartsPlaced k list
continue_made kind.Continue list e = tt
continue_made _ list e = absurd cc

break_made : (k : RawStmtKind) (list : List Token) → sentence k ≡ Break → ArePartsPlaced k list
break_made kind.Break list e = tt
break_made _ list e = absurd cc

pub jump_made : (next : TokenKind) (k : RawStmtKind) (list : List Token) → IsJump next (sentence k) → ArePartsPlaced k list
jump_made next k list j = elim (jump_is next (sentence k) j) [ inl e ↦ continue_made k list e | inr e ↦ break_made k list e ]

-- statements whose parts were taken
pub block_placed : (tokens : List Token) (from : ℕ) (at : Place) (items : Vec RawItem Global) (whole : RawStmt) → IsMadeOf at (kind.Block items) whole
    → StandsAt at (drop from tokens) → AreItemsBeside items.items (drop (from + 1) tokens) → HasStatementPlaces whole (drop from tokens)
block_placed tokens from at items whole made s a =
    made (drop from tokens) s (block_made items (drop from tokens) (subst (AreItemsBeside items.items) (sym (one_after tokens from)) a))

pub label_placed : (tokens : List Token) (from : ℕ) (at : Place) (body whole : RawStmt) → IsLabelOf at body whole → StandsAt at (drop from tokens)
    → HasStatementPlaces body (drop (from + 2) tokens) → HasStatementPlaces whole (drop from tokens)
label_placed tokens from at body whole made s p = made (drop from tokens) s (subst (HasStatementPlaces body) (sym (on tokens from 2 (from + 2) refl)) p)

pub tested_placed : (tokens : List Token) (from : ℕ) (at : Place) (test : RawExpr) (next : ℕ) (body whole : RawStmt) → IsTestedOf at test body whole
    → StandsAt at (drop from tokens) → Spells tokens (from + 1) next (test_text (written test)) → HasPlaces test (drop (from + 1 + 1) tokens)
    → HasStatementPlaces body (drop next tokens) → HasStatementPlaces whole (drop from tokens)
tested_placed tokens from at test next body whole made s sp t p =
    made (drop from tokens) s (test_stands tokens from test t) (subst (HasStatementPlaces body) (sym (past_word_and_test tokens from next (written test) sp)) p)

pub choice_placed : (tokens : List Token) (from : ℕ) (at : Place) (test : RawExpr) (next : ℕ) (body : RawStmt) (later : ℕ) (other whole : RawStmt)
    → IsChoiceOf at test body other whole → StandsAt at (drop from tokens) → Spells tokens (from + 1) next (test_text (written test))
    → HasPlaces test (drop (from + 1 + 1) tokens) → Spells tokens next later (sentence_text (statement_of body))
    → HasStatementPlaces body (drop next tokens) → HasStatementPlaces other (drop (later + 1) tokens) → HasStatementPlaces whole (drop from tokens)
choice_placed tokens from at test next body later other whole made s sp t sb p q =
    let e = past_word_and_test tokens from next (written test) sp in
    made (drop from tokens) s (test_stands tokens from test t) (subst (HasStatementPlaces body) (sym e) p)
    (subst (λ (list : List Token). HasStatementPlaces other (drop 1 (past (sentence_text (statement_of body)) list))) (sym e)
    (after_text_and_one (HasStatementPlaces other) (sentence_text (statement_of body)) (sentence_append (statement_of body)) tokens next later sb q))

pub done_placed : (tokens : List Token) (from : ℕ) (at : Place) (body : RawStmt) (next : ℕ) (test : RawExpr) (whole : RawStmt)
    → IsDoneOf at body test whole → StandsAt at (drop from tokens) → Spells tokens (from + 1) next (sentence_text (statement_of body))
    → HasStatementPlaces body (drop (from + 1) tokens) → HasPlaces test (drop (next + 1 + 1) tokens) → HasStatementPlaces whole (drop from tokens)
done_placed tokens from at body next test whole made s sb p t =
    let e = one_after tokens from in
    let two : drop 2 (past (sentence_text (statement_of body)) (drop 1 (drop from tokens))) ≡ drop (next + 1 + 1) tokens =
    ap (λ (list : List Token). drop 2 (past (sentence_text (statement_of body)) list)) e
    ∙ ap (λ (list : List Token). drop 2 list) (past_text (sentence_text (statement_of body)) (sentence_append (statement_of body)) tokens (from + 1) next sb)
    ∙ on tokens next 2 (next + 1 + 1) (omega arith) in
    made (drop from tokens) s (subst (HasStatementPlaces body) (sym e) p) (subst (HasPlaces test) (sym two) t)

pub switch_placed : (tokens : List Token) (from : ℕ) (at : Place) (value : RawExpr) (next : ℕ) (items : Vec RawSwitchItem Global) (whole : RawStmt)
    → IsMadeOf at (kind.Switch value items) whole → StandsAt at (drop from tokens) → Spells tokens (from + 1) next (test_text (written value))
    → HasPlaces value (drop (from + 1 + 1) tokens) → AreSwitchItemsBeside items.items (drop (next + 1) tokens)
    → HasStatementPlaces whole (drop from tokens)
switch_placed tokens from at value next items whole made s sp v a =
    made (drop from tokens) s
    (switch_made value items (drop from tokens) (test_stands tokens from value v)
    (subst (AreSwitchItemsBeside items.items)
    (sym (ap (λ (list : List Token). drop 1 list) (past_word_and_test tokens from next (written value) sp) ∙ one_after tokens next)) a))

pub return_placed : (tokens : List Token) (from : ℕ) (at : Place) (value : Option RawExpr) (whole : RawStmt) → IsMadeOf at (kind.Return value) whole
    → StandsAt at (drop from tokens) → IsSomePlaced value (drop (from + 1) tokens) → HasStatementPlaces whole (drop from tokens)
return_placed tokens from at value whole made s v = made (drop from tokens) s (subst (IsSomePlaced value) (sym (one_after tokens from)) v)

-- an expression that may be absent, with the punctuator after it
some_framed : (e : Option Written) (close : TokenKind) → IsFramed (λ rest. some_text e (close ∷ rest))
some_framed e close x y = optional_append e (close ∷ x) y

some_length : (e : Option Written) (close : TokenKind) → length (some_text e (close ∷ [])) ≡ length (some_text e []) + 1
some_length e close = ap length (sym (optional_append e [] (close ∷ []))) ∙ length-append (some_text e []) (close ∷ [])

pub past_some : (tokens : List Token) (from next : ℕ) (e : Option RawExpr) (close : TokenKind)
    → Spells tokens from next (λ rest. some_text (option_map written e) (close ∷ rest)) → past_test e (drop from tokens) ≡ drop next tokens
past_some tokens from next e close sp =
    let more : drop 1 (drop (length (some_text (option_map written e) [])) (drop from tokens))
    ≡ drop (length (some_text (option_map written e) (close ∷ []))) (drop from tokens) =
    drop-drop 1 (length (some_text (option_map written e) [])) (drop from tokens)
    ∙ ap (λ (n : ℕ). drop n (drop from tokens)) (sym (some_length (option_map written e) close)) in
    more ∙ past_text (λ rest. some_text (option_map written e) (close ∷ rest)) (some_framed (option_map written e) close) tokens from next sp

-- the parts of a `for`, at the first of them
pub control_placed : (tokens : List Token) (at after_first after_test : ℕ) (parts : ForParts)
    → Spells tokens at after_first (first_text (first_of parts.first))
    → Spells tokens after_first after_test (λ rest. some_text (option_map written parts.test) (token.Punctuator punctuator.Semicolon ∷ rest))
    → IsFirstPlaced parts.first (drop at tokens) → IsSomePlaced parts.test (drop after_first tokens) → IsSomePlaced parts.last (drop after_test tokens)
    → AreForPartsPlaced parts (drop at tokens)
control_placed tokens at after_first after_test parts sf st f t l =
    let e = past_text (first_text (first_of parts.first)) (first_append (first_of parts.first)) tokens at after_first sf in
    let g = past_some tokens after_first after_test parts.test (token.Punctuator punctuator.Semicolon) st in
    (f, subst (IsSomePlaced parts.test) (sym e) t, subst (IsSomePlaced parts.last) (sym (ap (past_test parts.test) e ∙ g)) l)

framed_length : (spell : Kinds → Kinds) → IsFramed spell → (x : Kinds) → length (spell x) ≡ length (spell []) + length x
framed_length spell law x = ap length (sym (law [] x)) ∙ length-append (spell []) x

-- how many tokens the parts of a `for` have, with both parentheses
control_length : (names : Names) (parts : ForParts)
    → length ((Controls names).spell (control_of parts) [])
    ≡ 1 + (length (first_text (first_of parts.first) []) + length (some_text (option_map written parts.test) []) + 1
    + length (some_text (option_map written parts.last) []) + 1)
control_length names parts =
    let ends = some_text (option_map written parts.last) (token.Punctuator punctuator.CloseParenthesis ∷ []) in
    let l = some_length (option_map written parts.last) (token.Punctuator punctuator.CloseParenthesis) in
    let t = framed_length (some_text (option_map written parts.test)) (optional_append (option_map written parts.test))
    (token.Punctuator punctuator.Semicolon ∷ ends) in
    let f = framed_length (first_text (first_of parts.first)) (first_append (first_of parts.first))
    (some_text (option_map written parts.test) (token.Punctuator punctuator.Semicolon ∷ ends)) in
    omega (arith, f, t, l)

control_end : (from next many parts : ℕ) → next ≡ from + 1 + many → many ≡ 1 + parts → next ≡ from + 2 + parts
control_end from next many parts a b = omega (arith, a, b)

past_parts : (list : List Token) (f t l : ℕ) → drop 1 (drop l (drop 1 (drop t (drop f list)))) ≡ drop (f + t + 1 + l + 1) list
past_parts list f t l =
    ap (λ (x : List Token). drop 1 (drop l (drop 1 x))) (drop-drop t f list) ∙ ap (λ (x : List Token). drop 1 (drop l x)) (drop-drop 1 (f + t) list)
    ∙ ap (λ (x : List Token). drop 1 x) (drop-drop l (f + t + 1) list) ∙ drop-drop 1 (f + t + 1 + l) list

-- what follows the parts of a `for` and its keyword
past_control : (names : Names) (tokens : List Token) (from next : ℕ) (parts : ForParts)
    → Spells tokens (from + 1) next ((Controls names).spell (control_of parts))
    → past_test parts.last (past_test parts.test (past_first parts.first (drop 2 (drop from tokens)))) ≡ drop next tokens
past_control names tokens from next parts sp =
    let f = length (first_text (first_of parts.first) []) in
    let t = length (some_text (option_map written parts.test) []) in
    let l = length (some_text (option_map written parts.last) []) in
    let spell : Kinds → Kinds = (Controls names).spell (control_of parts) in
    let many : length (spell []) ≡ 1 + (f + t + 1 + l + 1) = control_length names parts in
    let number : next ≡ from + 1 + length (spell []) =
    refused_number tokens (from + 1) next (spell [])
    (spells_as tokens (from + 1) next spell (λ rest. spell [] ++ rest) sp (λ rest. sym (controls_law names (control_of parts) [] rest))) in
    past_parts (drop 2 (drop from tokens)) f t l ∙ ap (λ (x : List Token). drop (f + t + 1 + l + 1) x) (drop-drop 2 from tokens)
    ∙ on tokens (from + 2) (f + t + 1 + l + 1) next (control_end from next (length (spell [])) (f + t + 1 + l + 1) number many)

pub loop_placed : (names : Names) (tokens : List Token) (from : ℕ) (at : Place) (parts : ForParts) (next : ℕ) (body whole : RawStmt)
    → IsLoopOf at parts body whole → StandsAt at (drop from tokens) → Spells tokens (from + 1) next ((Controls names).spell (control_of parts))
    → AreForPartsPlaced parts (drop (from + 1 + 1) tokens) → HasStatementPlaces body (drop next tokens) → HasStatementPlaces whole (drop from tokens)
loop_placed names tokens from at parts next body whole made s sp a p =
    made (drop from tokens) s (subst (AreForPartsPlaced parts) (sym (on tokens from 2 (from + 1 + 1) (omega arith))) a)
    (subst (HasStatementPlaces body) (sym (past_control names tokens from next parts sp)) p)

-- specifiers and the objects that they declare
pub declaration_placed : (tokens : List Token) (from next : ℕ) (s : RawSpecs) (objects : List RawInit) → Spells tokens from next (specs_text (specs s))
    → HasSpecPlaces s (drop from tokens) → AreObjectsPlaced objects (drop next tokens) → IsDeclarationPlaced s objects (drop from tokens)
declaration_placed tokens from next s objects sp a b =
    record { specs_are = a; objects_are = after_text (AreObjectsPlaced objects) (specs_text (specs s)) (specs_append (specs s)) tokens from next sp b }

-- `case` with its value
pub case_placed : (tokens : List Token) (from : ℕ) (at : Place) (value : RawExpr) → StandsAt at (drop from tokens)
    → HasPlaces value (drop (from + 1) tokens) → StandsAt at (drop from tokens) × HasPlaces value (drop 1 (drop from tokens))
case_placed tokens from at value s v = (s, subst (HasPlaces value) (sym (one_after tokens from)) v)

-- the items so far
abbrev pub ItemsPlaced : List Token → ℕ → List RawItem → ℕ → Type 0
ItemsPlaced = SidePlaced IsItemPlaced (λ i. item_text (item i))

pub items_begun : (tokens : List Token) (from : ℕ) (done : List RawItem) → done ≡ [] → ItemsPlaced tokens from done from
items_begun tokens from done none =
    subst (λ (x : List RawItem). ItemsPlaced tokens from x from) (sym none) (side_begun IsItemPlaced (λ i. item_text (item i)) tokens from)

pub items_go_on : (tokens : List Token) (from : ℕ) (done all : List RawItem) (next : ℕ) (i : RawItem) (later : ℕ) → ItemsPlaced tokens from done next
    → all ≡ done ++ i ∷ [] → Spells tokens next later (item_text (item i)) → IsItemPlaced i (drop next tokens) → ItemsPlaced tokens from all later
items_go_on = side_goes_on IsItemPlaced (λ i. item_text (item i)) (λ i. item_append (item i))

abbrev pub SwitchPlaced : List Token → ℕ → List RawSwitchItem → ℕ → Type 0
SwitchPlaced = SidePlaced IsSwitchItemPlaced (λ i. switch_item_text (switch_item i))

pub switch_begun : (tokens : List Token) (from : ℕ) (done : List RawSwitchItem) → done ≡ [] → SwitchPlaced tokens from done from
switch_begun tokens from done none =
    subst (λ (x : List RawSwitchItem). SwitchPlaced tokens from x from) (sym none)
    (side_begun IsSwitchItemPlaced (λ i. switch_item_text (switch_item i)) tokens from)

pub switch_goes_on : (tokens : List Token) (from : ℕ) (done all : List RawSwitchItem) (next : ℕ) (i : RawSwitchItem) (later : ℕ)
    → SwitchPlaced tokens from done next → all ≡ done ++ i ∷ [] → Spells tokens next later (switch_item_text (switch_item i))
    → IsSwitchItemPlaced i (drop next tokens) → SwitchPlaced tokens from all later
switch_goes_on = side_goes_on IsSwitchItemPlaced (λ i. switch_item_text (switch_item i)) (λ i. switch_item_append (switch_item i))

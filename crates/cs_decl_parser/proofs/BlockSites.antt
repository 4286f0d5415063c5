-- Each return of the parts that parse blocks and `switch`, over indices of tokens.
use Rattle.std.proofs.Common.{◌≡◌, ℕ, ◌+◌, ◌-◌, ◌≤◌, max, inl, inr, true, false, List, [], ◌∷◌, ◌++◌, length, refl, sym, ap}
use Rattle.std.proofs.Common.{◌∙◌, subst, arith, Vec, Global}
use Rattle.cs_ast.specs.declared.token.Token.{Token}
use Rattle.cs_ast.specs.declared.token.TokenKind.{TokenKind}
use Rattle.cs_ast.specs.declared.token.TokenKind.TheVariants as token
use Rattle.cs_ast.specs.declared.token.Keyword.TheVariants as keyword
use Rattle.cs_ast.specs.declared.token.Punctuator.TheVariants as punctuator
use Rattle.cs_ast.specs.declared.raw.expression.RawExpr.{RawExpr}
use Rattle.cs_ast.specs.declared.raw.statement.RawStmt.{RawStmt}
use Rattle.cs_ast.specs.declared.raw.statement.RawItem.{RawItem}
use Rattle.cs_ast.specs.declared.raw.statement.RawSwitchItem.{RawSwitchItem}
use Rattle.cs_ast.specs.declared.raw.statement.RawStmtKind.TheVariants as kind
use Rattle.cs_ast.specs.RawView.{written}
use Rattle.cs_ast.specs.RawStatements.{Sentence, Block, Switch, Item, Items, NoItem, MoreItems, SwitchItem, Case, Default, Inside, SwitchItems, NoSwitchItem}
use Rattle.cs_ast.specs.RawStatements.{MoreSwitchItems}
use Rattle.cs_ast.specs.RawStatementView.{sentence, statement_of, item, items_list, switch_item, switch_list}
use Rattle.cs_ast.specs.RawFileHeight.{item_height, items_height, switch_item_height, switch_height}
use Rattle.cs_ast.proofs.RawStatementRows.{sentence-Block, sentence-Switch}
use Rattle.cs_grammar.specs.declared.refusal.Reason.TheVariants.{TooDeep}
use Rattle.cs_grammar.specs.TypeWords.{Names}
use Rattle.cs_grammar.specs.Text.{Kinds}
use Rattle.cs_grammar.specs.FileFirstTokens.{begins_item, is_case, begins_switch_part}
use Rattle.cs_grammar.specs.FileText.{items_text}
use Rattle.cs_grammar.specs.FileClasses.{Tests, Sentences, BlockItems, BlockRows, SwitchParts, SwitchRows, SwitchBodies}
use Rattle.cs_grammar.specs.Parsing.{Expressions, Near, Took, Refused, Exactly}
use Rattle.cs_grammar.proofs.FileTexts.{item_append}
use Rattle.cs_grammar.proofs.FileBeginnings.{item_begins, switch_part_begins}
use Rattle.cs_grammar.proofs.Holes.{ClosedBy, Ended, ended_law, ended_exact, exact_took}
use Rattle.cs_grammar.proofs.Tails.{none_refused}
use Rattle.cs_grammar.proofs.Statements.{open_brace, close_brace, colon, word}
use Rattle.cs_grammar.proofs.StatementParts.{block_single, switch_pair, switch_body_single}
use Rattle.cs_grammar.proofs.BlockItems.{HasNoCase, block_growing, block_end, joined_items, switch_growing, switch_end, joined_switch, case_single}
use Rattle.cs_grammar.proofs.BlockItems.{default_single, inside_single}
use Rattle.cs_grammar.proofs.ItemSites.{case_none}
use Rattle.cs_expr_parser.specs.Positions.{kind_or_end}
use Rattle.cs_expr_parser.specs.Parts.{Spells}
use Rattle.cs_declarator_parser.specs.declared.source.Scope.TheVariants as scope
use Rattle.cs_expr_parser.specs.declared.stop.Stop.{Stop}
use Rattle.cs_expr_parser.specs.declared.stop.Stop.TheVariants as stop
use Rattle.cs_declarator_parser.specs.declared.stop.Taken.{Taken}
use Rattle.cs_decl_parser.specs.Nodes.{IsNode}
use Rattle.cs_declarator_parser.specs.Answers.{Stops, IsExactly, IsTaken}
use Rattle.cs_decl_parser.specs.Blocks.{items_of, switch_items_of, AreTaken}
use Rattle.cs_expr_parser.proofs.Standing.{spells_none, spells_more}
use Rattle.cs_declarator_parser.proofs.PartStops.{Standing, IsPlainStop, near_start, stops_plain, stops_full, pair_first_stops, pair_second_stops}
use Rattle.cs_declarator_parser.proofs.PartStops.{pair_stands}
use Rattle.cs_declarator_parser.proofs.PartStops.{single_stops, single_stands, no_fits, exactly_stands, closed_missing, closed_stands}
use Rattle.cs_decl_parser.proofs.StatementSites.{word_stands, punctuator_stands, taken_stands, exact_stands, node_taken}
use Rattle.cs_decl_parser.proofs.Passing.{RowSoFar, row_none, row_stops, row_more, row_exactly, pass_stops, pass_stands, begins_near}

-- a block: its items were refused
pub block_stops : (names : Names) (limit : ℕ) (tokens : List Token) (from : ℕ) → 1 ≤ limit → kind_or_end tokens from ≡ open_brace
    → (s : Stop) → Stops (BlockRows names) (limit - 1) tokens (from + 1) s → Stops (Sentences names) limit tokens from s
block_stops names limit tokens from some k s r =
    single_stops (block_single names) limit (limit - 1) (omega arith, omega arith) tokens from (from + 1) (punctuator_stands tokens from punctuator.OpenBrace k)
    (no_fits tokens (from + 1)) s r

pub block_taken : (names : Names) (limit : ℕ) (tokens : List Token) (from : ℕ) (items : Taken (Vec RawItem Global)) (whole : Taken RawStmt) → 1 ≤ limit
    → kind_or_end tokens from ≡ open_brace → AreTaken names (limit - 1) tokens (from + 1) items
    → IsNode (sentence (kind.Block items.tree)) (items.height + 1) (items.next + 1) whole
    → IsTaken (Sentences names) statement_of limit tokens from false whole
block_taken names limit tokens from items whole some k t n =
    let h = t.height_is in
    let n' = subst (λ (x : Sentence). IsNode x (items.height + 1) (items.next + 1) whole) (sentence-Block items.tree) n in
    node_taken names limit tokens from (Block (items_of items.tree)) (items.height + 1) (items.next + 1) whole n' (omega (arith, h))
    (single_stands (block_single names) limit (limit - 1) (omega arith, omega arith) tokens from (from + 1) (items.next + 1)
    (punctuator_stands tokens from punctuator.OpenBrace k) false (items_of items.tree) (λ following near. tt)
    (exactly_stands (BlockRows names) (limit - 1) tokens (from + 1) (items.next + 1) (items_of items.tree)
    (record {
      spelled = spells_more tokens (from + 1) items.next (items.next + 1) (items_text (items_of items.tree)) (λ rest. close_brace ∷ rest) t.spelled
          (punctuator_stands tokens items.next punctuator.CloseBrace t.closing);
      exactly = t.exactly;
    })))

-- the items of a block, so far
abbrev pub ItemsSoFar : Names → ℕ → List Token → ℕ → List RawItem → ℕ → ℕ → Type 0
ItemsSoFar names limit tokens from done tall next = RowSoFar (block_growing names) limit tokens from (items_list done) tall next

items_tall : (done : Items) (c : Item) → items_height (joined_items done (MoreItems c NoItem)) ≡ max (items_height done) (item_height c)
items_tall NoItem c = omega arith
items_tall (MoreItems d ds) c = let h = items_tall ds c in omega (arith, h)

items_push : (done : List RawItem) (c : RawItem) → items_list (done ++ c ∷ []) ≡ joined_items (items_list done) (MoreItems (item c) NoItem)
items_push [] c = refl
items_push (d ∷ ds) c = ap (MoreItems (item d)) (items_push ds c)

pub items_none : (names : Names) (limit : ℕ) (tokens : List Token) (from : ℕ) (done : List RawItem) → done ≡ [] → from ≤ length tokens
    → ItemsSoFar names limit tokens from done 0 from
items_none names limit tokens from done none within =
    subst (λ (x : List RawItem). ItemsSoFar names limit tokens from x 0 from) (sym none) (row_none (block_growing names) limit tokens from within)

pub items_stop : (names : Names) (limit : ℕ) (tokens : List Token) (from : ℕ) (done : List RawItem) (tall next : ℕ)
    → ItemsSoFar names limit tokens from done tall next → (kind_or_end tokens next ≡ close_brace → ⊥)
    → (s : Stop) → Stops (BlockItems names) limit tokens next s → Stops (BlockRows names) limit tokens from s
items_stop names limit tokens from done tall next row other s r =
    row_stops (block_growing names) (λ after. refl) limit tokens from (items_list done) tall next row other s r

pub items_more : (names : Names) (limit : ℕ) (tokens : List Token) (from : ℕ) (done all : List RawItem) (tall next : ℕ) (taken : Taken RawItem)
    → ItemsSoFar names limit tokens from done tall next → IsTaken (BlockItems names) item limit tokens next false taken
    → all ≡ done ++ taken.tree ∷ [] → ItemsSoFar names limit tokens from all (max tall taken.height) taken.next
items_more names limit tokens from done all tall next taken row t e =
    let more = row_more (block_growing names) limit tokens from (items_list done) tall next row (item taken.tree) taken.next
    (taken_stands (BlockItems names) item limit tokens next false taken t) (begins_item names) (item_begins names (item taken.tree) [] t.took.is_phrase)
    (items_tall (items_list done) (item taken.tree)) in
    subst (λ (x : Items). RowSoFar (block_growing names) limit tokens from x (max tall taken.height) taken.next)
    (sym (ap items_list e ∙ items_push done taken.tree))
    (subst (λ (h : ℕ).
    RowSoFar (block_growing names) limit tokens from (joined_items (items_list done) (MoreItems (item taken.tree) NoItem)) (max tall h) taken.next)
    (sym t.height_is) more)

pub items_taken : (names : Names) (limit : ℕ) (tokens : List Token) (from : ℕ) (done : List RawItem) (tall next : ℕ) (whole : Taken (Vec RawItem Global))
    → ItemsSoFar names limit tokens from done tall next → kind_or_end tokens next ≡ close_brace → whole.tree.items ≡ done → whole.height ≡ tall
    → whole.next ≡ next → AreTaken names limit tokens from whole
items_taken names limit tokens from done tall next whole row closing tree height later = record {
  height_is = height ∙ row.height_is ∙ ap (λ (x : List RawItem). items_height (items_list x)) (sym tree);
  spelled = subst (λ (m : ℕ). Spells tokens from m (items_text (items_of whole.tree))) (sym later)
      (subst (λ (x : List RawItem). Spells tokens from next (items_text (items_list x))) (sym tree) row.spelled);
  closing = subst (λ (m : ℕ). kind_or_end tokens m ≡ close_brace) (sym later) closing;
  exactly = subst (λ (x : List RawItem). Exactly (BlockRows names) limit (items_list x)) (sym tree)
      (row_exactly (block_growing names) (λ after. refl) limit tokens from (items_list done) tall next row closing (block_end names limit)
      (λ other after. tt));
}

-- the items of a `switch`, so far
abbrev pub SwitchSoFar : Names → ℕ → List Token → ℕ → List RawSwitchItem → ℕ → ℕ → Type 0
SwitchSoFar names limit tokens from done tall next = RowSoFar (switch_growing names) limit tokens from (switch_list done) tall next

switch_tall : (done : SwitchItems) (c : SwitchItem)
    → switch_height (joined_switch done (MoreSwitchItems c NoSwitchItem)) ≡ max (switch_height done) (switch_item_height c)
switch_tall NoSwitchItem c = omega arith
switch_tall (MoreSwitchItems d ds) c = let h = switch_tall ds c in omega (arith, h)

switch_push : (done : List RawSwitchItem) (c : RawSwitchItem)
    → switch_list (done ++ c ∷ []) ≡ joined_switch (switch_list done) (MoreSwitchItems (switch_item c) NoSwitchItem)
switch_push [] c = refl
switch_push (d ∷ ds) c = ap (MoreSwitchItems (switch_item d)) (switch_push ds c)

pub switch_none : (names : Names) (limit : ℕ) (tokens : List Token) (from : ℕ) (done : List RawSwitchItem) → done ≡ [] → from ≤ length tokens
    → SwitchSoFar names limit tokens from done 0 from
switch_none names limit tokens from done none within =
    subst (λ (x : List RawSwitchItem). SwitchSoFar names limit tokens from x 0 from) (sym none) (row_none (switch_growing names) limit tokens from within)

pub switch_stop : (names : Names) (limit : ℕ) (tokens : List Token) (from : ℕ) (done : List RawSwitchItem) (tall next : ℕ)
    → SwitchSoFar names limit tokens from done tall next → (kind_or_end tokens next ≡ close_brace → ⊥)
    → (s : Stop) → Stops (SwitchParts names) limit tokens next s → Stops (SwitchRows names) limit tokens from s
switch_stop names limit tokens from done tall next row other s r =
    row_stops (switch_growing names) (λ after. refl) limit tokens from (switch_list done) tall next row other s r

pub switch_more : (names : Names) (limit : ℕ) (tokens : List Token) (from : ℕ) (done all : List RawSwitchItem) (tall next : ℕ)
    (taken : Taken RawSwitchItem) → SwitchSoFar names limit tokens from done tall next
    → IsTaken (SwitchParts names) switch_item limit tokens next false taken → all ≡ done ++ taken.tree ∷ []
    → SwitchSoFar names limit tokens from all (max tall taken.height) taken.next
switch_more names limit tokens from done all tall next taken row t e =
    let more = row_more (switch_growing names) limit tokens from (switch_list done) tall next row (switch_item taken.tree) taken.next
    (taken_stands (SwitchParts names) switch_item limit tokens next false taken t) (begins_switch_part names)
    (switch_part_begins names (switch_item taken.tree) [] t.took.is_phrase) (switch_tall (switch_list done) (switch_item taken.tree)) in
    subst (λ (x : SwitchItems). RowSoFar (switch_growing names) limit tokens from x (max tall taken.height) taken.next)
    (sym (ap switch_list e ∙ switch_push done taken.tree))
    (subst (λ (h : ℕ).
    RowSoFar (switch_growing names) limit tokens from (joined_switch (switch_list done) (MoreSwitchItems (switch_item taken.tree) NoSwitchItem))
    (max tall h) taken.next) (sym t.height_is) more)

pub switch_row_taken : (names : Names) (limit : ℕ) (tokens : List Token) (from : ℕ) (done : List RawSwitchItem) (tall next : ℕ)
    (whole : Taken (Vec RawSwitchItem Global)) → SwitchSoFar names limit tokens from done tall next → kind_or_end tokens next ≡ close_brace
    → whole.tree.items ≡ done → whole.height ≡ tall → whole.next ≡ next + 1 → IsExactly (SwitchRows names) switch_items_of limit tokens from whole
switch_row_taken names limit tokens from done tall next whole row closing tree height later = record {
  height_is = height ∙ row.height_is ∙ ap (λ (x : List RawSwitchItem). switch_height (switch_list x)) (sym tree);
  spelled =
      subst (λ (m : ℕ). Spells tokens from m ((SwitchRows names).spell (switch_items_of whole.tree))) (sym later)
      (subst (λ (x : List RawSwitchItem). Spells tokens from (next + 1) ((SwitchRows names).spell (switch_list x))) (sym tree)
      (spells_more tokens from next (next + 1) ((switch_growing names).row_text (switch_list done)) (λ rest. close_brace ∷ rest) row.spelled
      (punctuator_stands tokens next punctuator.CloseBrace closing)));
  exactly = subst (λ (x : List RawSwitchItem). Exactly (SwitchRows names) limit (switch_list x)) (sym tree)
      (row_exactly (switch_growing names) (λ after. refl) limit tokens from (switch_list done) tall next row closing (switch_end names limit)
      (λ other after. tt));
}

-- `switch`: its value was refused
pub switch_value_stops : (names : Names) (limit : ℕ) (tokens : List Token) (from : ℕ) → 2 ≤ limit → kind_or_end tokens from ≡ word keyword.Switch
    → (s : Stop) → Stops (Tests names) (limit - 1) tokens (from + 1) s → Stops (Sentences names) limit tokens from s
switch_value_stops names limit tokens from enough k s r =
    pair_first_stops (switch_pair names) limit (limit - 1) (omega arith, omega arith, omega arith) tokens from (from + 1)
    (word_stands tokens from keyword.Switch k) s r

bodies_stop : (names : Names) (limit : ℕ) (tokens : List Token) (from : ℕ) (value : Taken RawExpr) → 2 ≤ limit
    → kind_or_end tokens from ≡ word keyword.Switch → IsExactly (Tests names) written (limit - 1) tokens (from + 1) value
    → (s : Stop) → Stops (SwitchBodies names) (limit - 1) tokens value.next s → Stops (Sentences names) limit tokens from s
bodies_stop names limit tokens from value enough k t s r =
    pair_second_stops (switch_pair names) limit (limit - 1) (omega arith, omega arith, omega arith) tokens from (from + 1) value.next
    (word_stands tokens from keyword.Switch k) (written value.tree) (exact_stands (Tests names) written (limit - 1) tokens (from + 1) value t) s r

pub switch_brace_missing : (names : Names) (limit : ℕ) (tokens : List Token) (from : ℕ) (value : Taken RawExpr) (s : Stop) → 2 ≤ limit
    → kind_or_end tokens from ≡ word keyword.Switch → IsExactly (Tests names) written (limit - 1) tokens (from + 1) value
    → (kind_or_end tokens value.next ≡ open_brace → ⊥) → IsPlainStop scope.Block tokens value.next s → Stops (Sentences names) limit tokens from s
switch_brace_missing names limit tokens from value s enough k t other is =
    bodies_stop names limit tokens from value enough k t s
    (stops_plain (SwitchBodies names) (limit - 1) tokens value.next value.next scope.Block [] s (spells_none tokens value.next t.spelled.within) is
    (none_refused (SwitchBodies names) (limit - 1) (kind_or_end tokens value.next) (λ o after is same. cc) (λ o after more is same. other cc)))

less_two : (limit : ℕ) → 2 ≤ limit → limit - 1 ≡ 1 + (limit - 2)
less_two limit enough = omega arith

pub switch_items_stop : (names : Names) (limit : ℕ) (tokens : List Token) (from : ℕ) (value : Taken RawExpr) → 2 ≤ limit
    → kind_or_end tokens from ≡ word keyword.Switch → IsExactly (Tests names) written (limit - 1) tokens (from + 1) value
    → kind_or_end tokens value.next ≡ open_brace → (s : Stop) → Stops (SwitchRows names) (limit - 2) tokens (value.next + 1) s
    → Stops (Sentences names) limit tokens from s
switch_items_stop names limit tokens from value enough k t brace s r =
    bodies_stop names limit tokens from value enough k t s
    (single_stops (switch_body_single names) (limit - 1) (limit - 2) (less_two limit enough, omega arith) tokens value.next (value.next + 1)
    (punctuator_stands tokens value.next punctuator.OpenBrace brace) (no_fits tokens (value.next + 1)) s r)

pub switch_taken : (names : Names) (limit : ℕ) (tokens : List Token) (from : ℕ) (value : Taken RawExpr) (items : Taken (Vec RawSwitchItem Global))
    (whole : Taken RawStmt) → 2 ≤ limit → kind_or_end tokens from ≡ word keyword.Switch
    → IsExactly (Tests names) written (limit - 1) tokens (from + 1) value → kind_or_end tokens value.next ≡ open_brace
    → IsExactly (SwitchRows names) switch_items_of (limit - 2) tokens (value.next + 1) items
    → IsNode (sentence (kind.Switch value.tree items.tree)) (max value.height (items.height + 1) + 1) items.next whole
    → IsTaken (Sentences names) statement_of limit tokens from false whole
switch_taken names limit tokens from value items whole enough k t brace i n =
    let th = t.height_is in
    let ih = i.height_is in
    let n' = subst (λ (x : Sentence). IsNode x (max value.height (items.height + 1) + 1) items.next whole) (sentence-Switch value.tree items.tree) n in
    node_taken names limit tokens from (Switch (written value.tree) (switch_items_of items.tree)) (max value.height (items.height + 1) + 1) items.next whole n'
    (omega (arith, th, ih))
    (pair_stands (switch_pair names) limit (limit - 1) (omega arith, omega arith, omega arith) tokens from (from + 1) value.next items.next
    (word_stands tokens from keyword.Switch k) (written value.tree) (exact_stands (Tests names) written (limit - 1) tokens (from + 1) value t) false
    (switch_items_of items.tree)
    (single_stands (switch_body_single names) (limit - 1) (limit - 2) (less_two limit enough, omega arith) tokens value.next (value.next + 1) items.next
    (punctuator_stands tokens value.next punctuator.OpenBrace brace) false (switch_items_of items.tree) (λ following near. tt)
    (exactly_stands (SwitchRows names) (limit - 2) tokens (value.next + 1) items.next (switch_items_of items.tree)
    (exact_stands (SwitchRows names) switch_items_of (limit - 2) tokens (value.next + 1) items i))))

-- an item of a `switch`, as the result
part_taken : (names : Names) (limit : ℕ) (tokens : List Token) (from : ℕ) (tree : SwitchItem) (whole : Taken RawSwitchItem)
    → switch_item whole.tree ≡ tree → whole.height ≡ switch_item_height tree → Standing (SwitchParts names) limit tokens from whole.next false tree
    → IsTaken (SwitchParts names) switch_item limit tokens from false whole
part_taken names limit tokens from tree whole e h s = record {
  height_is = h ∙ ap switch_item_height (sym e);
  spelled = subst (λ (x : SwitchItem). Spells tokens from whole.next ((SwitchParts names).spell x)) (sym e) s.spelled;
  took = subst (λ (x : SwitchItem). Took (SwitchParts names) limit x (kind_or_end tokens whole.next) false) (sym e) s.took;
}

-- `case`
pub case_full : (names : Names) (limit : ℕ) (tokens : List Token) (from : ℕ) (s : Stop) → from ≤ length tokens → limit ≡ 0
    → kind_or_end tokens from ≡ word keyword.Case → s ≡ stop.Refused from TooDeep → Stops (SwitchParts names) limit tokens from s
case_full names limit tokens from s within full k is =
    stops_full (SwitchParts names) limit tokens from s within is
    (subst (λ (x : TokenKind). Refused (SwitchParts names) limit [] x true) (sym k) (case_none names limit (omega (arith, full))))

pub case_stops : (names : Names) (limit : ℕ) (tokens : List Token) (from : ℕ) → 1 ≤ limit → kind_or_end tokens from ≡ word keyword.Case
    → (s : Stop) → Stops (ClosedBy (Expressions names 2) colon) limit tokens (from + 1) s → Stops (SwitchParts names) limit tokens from s
case_stops names limit tokens from some k s r =
    single_stops (case_single names) limit limit (omega arith, omega arith) tokens from (from + 1) (word_stands tokens from keyword.Case k)
    (no_fits tokens (from + 1)) s r

pub case_taken : (names : Names) (limit : ℕ) (tokens : List Token) (from : ℕ) (value : Taken RawExpr) (whole : Taken RawSwitchItem) → 1 ≤ limit
    → kind_or_end tokens from ≡ word keyword.Case → IsExactly (ClosedBy (Expressions names 2) colon) written limit tokens (from + 1) value
    → switch_item whole.tree ≡ Case (written value.tree) → whole.height ≡ value.height → whole.next ≡ value.next
    → IsTaken (SwitchParts names) switch_item limit tokens from false whole
case_taken names limit tokens from value whole some k t tree height later =
    part_taken names limit tokens from (Case (written value.tree)) whole tree (height ∙ t.height_is)
    (subst (λ (m : ℕ). Standing (SwitchParts names) limit tokens from m false (Case (written value.tree))) (sym later)
    (single_stands (case_single names) limit limit (omega arith, omega arith) tokens from (from + 1) value.next (word_stands tokens from keyword.Case k) false
    (written value.tree) (λ following near. tt)
    (exactly_stands (ClosedBy (Expressions names 2) colon) limit tokens (from + 1) value.next (written value.tree)
    (exact_stands (ClosedBy (Expressions names 2) colon) written limit tokens (from + 1) value t))))

-- `default`
ended_stands : (limit : ℕ) (tokens : List Token) (from : ℕ) → from ≤ length tokens → Standing Ended limit tokens from from false tt
ended_stands limit tokens from within = record {
  spelled = spells_none tokens from within;
  took = exact_took Ended limit tt (ended_exact limit) (kind_or_end tokens from);
}

pub default_stops : (names : Names) (limit : ℕ) (tokens : List Token) (from : ℕ) (s : Stop) → kind_or_end tokens from ≡ word keyword.Default
    → (kind_or_end tokens (from + 1) ≡ colon → ⊥) → IsPlainStop scope.Block tokens (from + 1) s → Stops (SwitchParts names) limit tokens from s
default_stops names limit tokens from s k other is =
    let w = word_stands tokens from keyword.Default k in
    single_stops (default_single names) limit limit (omega arith, omega arith) tokens from (from + 1) w (no_fits tokens (from + 1)) s
    (closed_missing Ended colon ended_law (λ part more. tt) limit tokens (from + 1) (from + 1) scope.Block tt s (ended_stands limit tokens (from + 1) w.within)
    other is)

two_on : (from : ℕ) → from + 1 + 1 ≡ from + 2
two_on from = omega arith

pub default_taken : (names : Names) (limit : ℕ) (tokens : List Token) (from : ℕ) (whole : Taken RawSwitchItem)
    → kind_or_end tokens from ≡ word keyword.Default → kind_or_end tokens (from + 1) ≡ colon → switch_item whole.tree ≡ Default
    → whole.height ≡ 0 → whole.next ≡ from + 2 → IsTaken (SwitchParts names) switch_item limit tokens from false whole
default_taken names limit tokens from whole k c tree height later =
    let w = word_stands tokens from keyword.Default k in
    part_taken names limit tokens from Default whole tree height
    (subst (λ (m : ℕ). Standing (SwitchParts names) limit tokens from m false Default) (two_on from ∙ sym later)
    (single_stands (default_single names) limit limit (omega arith, omega arith) tokens from (from + 1) (from + 1 + 1) w false tt (λ following near. tt)
    (exactly_stands (ClosedBy Ended colon) limit tokens (from + 1) (from + 1 + 1) tt
    (closed_stands Ended colon (λ part more. tt) (λ x. cc) limit tokens (from + 1) (from + 1) tt (ended_stands limit tokens (from + 1) w.within) c))))

-- items that any block may have
near_no_case : (first : TokenKind) (tokens : Kinds) → is_case first ≡ false → Near first tokens → HasNoCase tokens
near_no_case first tokens e near t more same =
    elim near [
      | inl none ↦ let z = sym same ∙ none in absurd cc
      | inr m ↦
          let z : t ∷ more ≡ first ∷ m.0 = sym same ∙ m.1 in
          let k : t ≡ first = cc in
          ap is_case k ∙ e
    ]

-- the token is neither `case` nor `default`
pub no_case : (first : TokenKind) → (first ≡ word keyword.Case → ⊥) → (first ≡ word keyword.Default → ⊥) → is_case first ≡ false
no_case (token.Keyword keyword.Case) other another = absurd (other refl)
no_case (token.Keyword keyword.Default) other another = absurd (another refl)
no_case _ other another = refl

pub inside_stops : (names : Names) (limit : ℕ) (tokens : List Token) (from : ℕ) → is_case (kind_or_end tokens from) ≡ false
    → (s : Stop) → Stops (BlockItems names) limit tokens from s → Stops (SwitchParts names) limit tokens from s
inside_stops names limit tokens from other s r =
    pass_stops (SwitchParts names) (BlockItems names) Inside HasNoCase (inside_single names).production item_append limit tokens from
    (λ front at here following near. near_no_case (kind_or_end tokens from) (front ++ following) other (near_start tokens from at front here following near)) s
    r

pub inside_taken : (names : Names) (limit : ℕ) (tokens : List Token) (from : ℕ) (inner : Taken RawItem) (whole : Taken RawSwitchItem)
    → is_case (kind_or_end tokens from) ≡ false → IsTaken (BlockItems names) item limit tokens from false inner
    → switch_item whole.tree ≡ Inside (item inner.tree) → whole.height ≡ inner.height → whole.next ≡ inner.next
    → IsTaken (SwitchParts names) switch_item limit tokens from false whole
inside_taken names limit tokens from inner whole other t tree height later =
    part_taken names limit tokens from (Inside (item inner.tree)) whole tree (height ∙ t.height_is)
    (subst (λ (m : ℕ). Standing (SwitchParts names) limit tokens from m false (Inside (item inner.tree))) (sym later)
    (pass_stands (SwitchParts names) (BlockItems names) Inside HasNoCase (inside_single names).production item_append limit tokens from inner.next false
    (item inner.tree)
    (λ following.
    near_no_case (kind_or_end tokens from) ((BlockItems names).spell (item inner.tree) following) other
    (begins_near (BlockItems names) item_append (begins_item names) tokens from inner.next (item inner.tree)
    (item_begins names (item inner.tree) [] t.took.is_phrase) t.spelled following))
    (taken_stands (BlockItems names) item limit tokens from false inner t)))

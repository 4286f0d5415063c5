-- Each return of the parser's parts, over indices of tokens: for the contracts of all parts of the parser.
use Rattle.std.proofs.Common.{◌≡◌, ℕ, suc, ◌+◌, ◌-◌, ◌<◌, ◌≤◌, max, ◌⊎◌, inl, inr, Bool, true, false, Option, Some, None, List}
use Rattle.std.proofs.Common.{[], ◌∷◌, ◌++◌, length, drop, refl, sym, ap, ◌∙◌, subst, arith, append_assoc, append-nil}
use Rattle.std.proofs.lemmas.Bool.{false≢true}
use Rattle.cs_ast.specs.declared.raw.expression.RawExpr.{RawExpr}
use Rattle.cs_ast.specs.declared.token.Token.{Token}
use Rattle.cs_ast.specs.declared.token.TokenKind.{TokenKind}
use Rattle.cs_ast.specs.declared.token.TokenKind.TheVariants as token
use Rattle.cs_ast.specs.declared.token.Punctuator.{Punctuator}
use Rattle.cs_ast.specs.declared.token.Punctuator.TheVariants as punctuator
use Rattle.cs_ast.specs.declared.raw.operator.InfixOp.{InfixOp}
use Rattle.cs_ast.specs.RawTree.{Written, WrittenList, Enclosed, Index, Call, Infix, Comma}
use Rattle.cs_ast.specs.RawView.{written}
use Rattle.cs_ast.specs.RawHeight.{height, highest}
use Rattle.cs_grammar.specs.declared.refusal.Reason.{Reason}
use Rattle.cs_grammar.specs.TypeWords.{Names}
use Rattle.cs_grammar.specs.Levels.{infix_level}
use Rattle.cs_grammar.specs.Punctuators.{infix_punctuator}
use Rattle.cs_grammar.specs.Text.{Kinds, text}
use Rattle.cs_grammar.specs.Phrases.{IsPhrase}
use Rattle.cs_grammar.specs.Continuing.{join}
use Rattle.cs_grammar.specs.Parsing.{Class, Expressions, Took, Refused, Begins}
use Rattle.cs_grammar.specs.Chains.{Grows}
use Rattle.cs_grammar.proofs.Holes.{ClosedBy, closed_law, closed_refused, closed_wrong, closed_exact, exact_took, Lawful}
use Rattle.cs_grammar.proofs.Levels.{text_law, infix_join}
use Rattle.cs_grammar.proofs.Chains.{Addition, addition_refused, addition_took, grows_head, grows_exit, grows_deep}
use Rattle.cs_grammar.proofs.Texts.{text_append, text_splits}
use Rattle.cs_expr_parser.specs.Positions.{kinds, kind_or_end}
use Rattle.cs_expr_parser.specs.Leaves.{is_leaf, IsLeafOf}
use Rattle.cs_expr_parser.specs.Parts.{Spells, Stops, IsRefused, IsTakenFrom, IsChainFrom, IsNode, is_deep}
use Rattle.cs_expr_parser.specs.declared.stop.Stop.{Stop}
use Rattle.cs_expr_parser.specs.declared.stop.Stop.TheVariants as stop
use Rattle.cs_expr_parser.specs.declared.stop.Taken.{Taken}
use Rattle.cs_expr_parser.proofs.Standing.{spells_one, spells_more, spells_as}
use Rattle.cs_expr_parser.proofs.Stopping.{IsRefusalAfter, refused_after, IsRefusalAt, refused_first, stops_in}
use Rattle.cs_expr_parser.proofs.Closings.{zero, height_some, leaf_refused, leaf_took, leaf_text, leaf_height, enclosed_full, open_parenthesis}
use Rattle.cs_expr_parser.proofs.Closings.{close_parenthesis, enclosed_refused, enclosed_wrong, enclosed_took}
use Rattle.cs_expr_parser.proofs.Suffixes.{index_addition, infix_addition, comma_addition}

-- a node that was taken
pub node_taken : (names : Names) (level limit : ℕ) (tokens : List Token) (from : ℕ) (whole : Taken) (tree : Written) (tall next : ℕ) (deep : Bool)
    → IsNode tree tall next deep whole → tall ≡ height tree → Spells tokens from next (text tree) → from < next
    → Took (Expressions names level) limit tree (kind_or_end tokens next) deep → IsTakenFrom names level limit tokens from whole
node_taken names level limit tokens from whole tree tall next deep n h sp some t = record {
  height_is = n.height_is ∙ h ∙ ap height (sym n.tree_is);
  spelled = subst (λ (k : ℕ). Spells tokens from k (text (written whole.tree))) (sym n.next_is)
      (subst (λ (e : Written). Spells tokens from next (text e)) (sym n.tree_is) sp);
  some = let k = n.next_is in omega arith;
  took =
      subst (λ (k : ℕ). Took (Expressions names level) limit (written whole.tree) (kind_or_end tokens k) whole.deep) (sym n.next_is)
      (subst (λ (d : Bool). Took (Expressions names level) limit (written whole.tree) (kind_or_end tokens next) d) (sym n.deep_is)
      (subst (λ (e : Written). Took (Expressions names level) limit e (kind_or_end tokens next) deep) (sym n.tree_is) t));
}

-- a chain that was taken
pub node_chain : (names : Names) (level limit : ℕ) (tokens : List Token) (from : ℕ) (whole : Taken) (tree : Written) (tall next : ℕ) (deep : Bool)
    → IsNode tree tall next deep whole → tall ≡ height tree → Spells tokens from next (text tree) → from < next
    → Grows names level limit tree (kind_or_end tokens next) deep → IsChainFrom names level limit tokens from whole
node_chain names level limit tokens from whole tree tall next deep n h sp some t = record {
  height_is = n.height_is ∙ h ∙ ap height (sym n.tree_is);
  spelled = subst (λ (k : ℕ). Spells tokens from k (text (written whole.tree))) (sym n.next_is)
      (subst (λ (e : Written). Spells tokens from next (text e)) (sym n.tree_is) sp);
  some = let k = n.next_is in omega arith;
  grows =
      subst (λ (k : ℕ). Grows names level limit (written whole.tree) (kind_or_end tokens k) whole.deep) (sym n.next_is)
      (subst (λ (d : Bool). Grows names level limit (written whole.tree) (kind_or_end tokens next) d) (sym n.deep_is)
      (subst (λ (e : Written). Grows names level limit e (kind_or_end tokens next) deep) (sym n.tree_is) t));
}

-- one token that isn't the end of input
pub punctuator_stands : (tokens : List Token) (at : ℕ) (m : Punctuator) → kind_or_end tokens at ≡ token.Punctuator m
    → Spells tokens at (at + 1) (λ rest. token.Punctuator m ∷ rest)
punctuator_stands tokens at m e = spells_one tokens at (token.Punctuator m) e (λ x. cc)

-- the tokens of a tree that was read, before others
pub taken_front : (tokens : List Token) (from next : ℕ) (e : Written) → Spells tokens from next (text e)
    → Spells tokens from next (λ rest. text e [] ++ rest)
taken_front tokens from next e sp = spells_as tokens from next (text e) (λ rest. text e [] ++ rest) sp (λ rest. text_splits e rest)

-- an operand and one token after it
pub front_and_punctuator : (tokens : List Token) (from next : ℕ) (e : Written) (m : Punctuator) → Spells tokens from next (text e)
    → kind_or_end tokens next ≡ token.Punctuator m → Spells tokens from (next + 1) (λ rest. text e (token.Punctuator m ∷ []) ++ rest)
front_and_punctuator tokens from next e m sp k =
    spells_as tokens from (next + 1) (λ rest. text e (token.Punctuator m ∷ rest)) (λ rest. text e (token.Punctuator m ∷ []) ++ rest)
    (spells_more tokens from next (next + 1) (text e) (λ rest. token.Punctuator m ∷ rest) sp (punctuator_stands tokens next m k))
    (λ rest. sym (text_append e (token.Punctuator m ∷ []) rest))

-- between parentheses, the expression was refused
pub enclosed_stops : (names : Names) (limit : ℕ) (tokens : List Token) (from : ℕ) → 2 ≤ limit → kind_or_end tokens from ≡ open_parenthesis
    → (s : Stop) → Stops (Expressions names 0) (limit - 1) tokens (from + 1) s → Stops (Expressions names 16) limit tokens from s
enclosed_stops names limit tokens from least k s r =
    stops_in (Expressions names 16) (Expressions names 0) limit (limit - 1) tokens from (from + 1) (open_parenthesis ∷ [])
    (punctuator_stands tokens from punctuator.OpenParenthesis k)
    (λ front at deep sp x. enclosed_refused names limit least front (kind_or_end tokens at) deep x) s r

-- no parenthesis closes the expression
pub enclosed_unclosed : (names : Names) (limit : ℕ) (tokens : List Token) (from : ℕ) (inner : Taken) (s : Stop) → 2 ≤ limit
    → kind_or_end tokens from ≡ open_parenthesis → IsTakenFrom names 0 (limit - 1) tokens (from + 1) inner
    → (kind_or_end tokens inner.next ≡ close_parenthesis → ⊥) → IsRefusalAfter tokens inner s → Stops (Expressions names 16) limit tokens from s
enclosed_unclosed names limit tokens from inner s least k t other is =
    refused_after (Expressions names 16) limit tokens from inner s (open_parenthesis ∷ text (written inner.tree) []) is
    (spells_more tokens from (from + 1) inner.next (λ rest. open_parenthesis ∷ rest) (λ rest. text (written inner.tree) [] ++ rest)
    (punctuator_stands tokens from punctuator.OpenParenthesis k) (taken_front tokens (from + 1) inner.next (written inner.tree) t.spelled))
    (enclosed_wrong names limit least (written inner.tree) (kind_or_end tokens inner.next) inner.deep t.took other)

-- the expression between parentheses
pub enclosed_taken : (names : Names) (limit : ℕ) (tokens : List Token) (from : ℕ) (inner whole : Taken) → 2 ≤ limit
    → kind_or_end tokens from ≡ open_parenthesis → IsTakenFrom names 0 (limit - 1) tokens (from + 1) inner
    → kind_or_end tokens inner.next ≡ close_parenthesis → IsNode (Enclosed (written inner.tree)) (inner.height + 1) (inner.next + 1) false whole
    → IsTakenFrom names 16 limit tokens from whole
enclosed_taken names limit tokens from inner whole least k t close n =
    let h = t.height_is in
    let s = t.some in
    node_taken names 16 limit tokens from whole (Enclosed (written inner.tree)) (inner.height + 1) (inner.next + 1) false n (omega arith)
    (spells_more tokens from (from + 1) (inner.next + 1) (λ rest. open_parenthesis ∷ rest) (λ rest. text (written inner.tree) (close_parenthesis ∷ rest))
    (punctuator_stands tokens from punctuator.OpenParenthesis k)
    (spells_more tokens (from + 1) inner.next (inner.next + 1) (text (written inner.tree)) (λ rest. close_parenthesis ∷ rest) t.spelled
    (punctuator_stands tokens inner.next punctuator.CloseParenthesis close)))
    (omega arith)
    (enclosed_took names limit least (written inner.tree) inner.deep (kind_or_end tokens (inner.next + 1))
    (subst (λ (x : TokenKind). Took (Expressions names 0) (limit - 1) (written inner.tree) x inner.deep) close t.took))

-- no primary expression begins with the token
pub primary_none : (names : Names) (limit : ℕ) (tokens : List Token) (from : ℕ) (s : Stop) → from ≤ length tokens
    → (kind_or_end tokens from ≡ open_parenthesis → ⊥) → IsLeafOf names (kind_or_end tokens from) None → IsRefusalAt tokens from false s
    → Stops (Expressions names 16) limit tokens from s
primary_none names limit tokens from s within closed none is =
    refused_first (Expressions names 16) limit tokens from false s within is
    (leaf_refused names limit (kind_or_end tokens from) false closed none (λ reported. absurd (false≢true reported))
    (λ reported. absurd (false≢true reported)))

-- the limit doesn't allow a leaf
pub leaf_full : (names : Names) (limit : ℕ) (tokens : List Token) (from : ℕ) (tree : RawExpr) (s : Stop) → from ≤ length tokens → limit ≡ 0
    → (kind_or_end tokens from ≡ open_parenthesis → ⊥) → IsLeafOf names (kind_or_end tokens from) (Some tree) → IsRefusalAt tokens from true s
    → Stops (Expressions names 16) limit tokens from s
leaf_full names limit tokens from tree s within full closed leaf is =
    refused_first (Expressions names 16) limit tokens from true s within is
    (leaf_refused names limit (kind_or_end tokens from) true closed leaf.0 (λ reported. omega arith) (λ reported. (written tree, leaf.1)))

-- the limit doesn't allow an expression between parentheses
pub parenthesis_full : (names : Names) (limit : ℕ) (tokens : List Token) (from : ℕ) (s : Stop) → from ≤ length tokens → limit < 2
    → kind_or_end tokens from ≡ open_parenthesis → IsRefusalAt tokens from true s → Stops (Expressions names 16) limit tokens from s
parenthesis_full names limit tokens from s within full k is =
    refused_first (Expressions names 16) limit tokens from true s within is
    (subst (λ (x : TokenKind). Refused (Expressions names 16) limit [] x true) (sym k) (enclosed_full names limit full))

leaf_no_end : (names : Names) (kind : TokenKind) → is_leaf names kind ≡ true → kind ≡ token.Attribute → ⊥
leaf_no_end names kind k e = false≢true (sym (ap (is_leaf names) e) ∙ k)

pub leaf_taken : (names : Names) (limit : ℕ) (tokens : List Token) (from : ℕ) (whole : Taken) → 1 ≤ limit
    → IsLeafOf names (kind_or_end tokens from) (Some whole.tree) → whole.height ≡ 1 → whole.next ≡ from + 1 → whole.deep ≡ false
    → IsTakenFrom names 16 limit tokens from whole
leaf_taken names limit tokens from whole some leaf tall next deep =
    node_taken names 16 limit tokens from whole (written whole.tree) 1 (from + 1) false
    (record { tree_is = refl; height_is = tall; next_is = next; deep_is = deep }) (sym (leaf_height (kind_or_end tokens from) (written whole.tree) leaf.1))
    (spells_as tokens from (from + 1) (λ rest. kind_or_end tokens from ∷ rest) (text (written whole.tree))
    (spells_one tokens from (kind_or_end tokens from) refl (leaf_no_end names (kind_or_end tokens from) leaf.0))
    (λ rest. sym (leaf_text (kind_or_end tokens from) (written whole.tree) rest leaf.1)))
    (omega arith)
    (exact_took (Expressions names 16) limit (written whole.tree) (leaf_took names limit (kind_or_end tokens from) (written whole.tree) some leaf.0 leaf.1)
    (kind_or_end tokens (from + 1)))

-- the rest of a suffix was refused
pub addition_stops : (names : Names) (level limit : ℕ) (tokens : List Token) (from : ℕ) (left : Taken) (m : Punctuator) (D : Class) (inner : ℕ)
    (build : D.Tree → Written) → Lawful D → IsChainFrom names level limit tokens from left → kind_or_end tokens left.next ≡ token.Punctuator m
    → Addition names level (written left.tree) limit (token.Punctuator m) D inner build → (s : Stop) → Stops D inner tokens (left.next + 1) s
    → Stops (Expressions names level) limit tokens from s
addition_stops names level limit tokens from left m D inner build law c k a s r =
    stops_in (Expressions names level) D limit inner tokens from (left.next + 1) (text (written left.tree) (token.Punctuator m ∷ []))
    (front_and_punctuator tokens from left.next (written left.tree) m c.spelled k)
    (λ front at deep sp x.
    addition_refused names level (written left.tree) limit (token.Punctuator m) D inner build left.deep law
    (subst (λ (t : TokenKind). Grows names level limit (written left.tree) t left.deep) k c.grows) a front (kind_or_end tokens at) deep x) s r

-- a chain that ends
pub chain_ends : (names : Names) (level limit : ℕ) (tokens : List Token) (from : ℕ) (left : Taken) → IsChainFrom names level limit tokens from left
    → (join (kind_or_end tokens left.next) ≡ suc level → ⊥) → IsTakenFrom names level limit tokens from left
chain_ends names level limit tokens from left c other = record {
  height_is = c.height_is;
  spelled = c.spelled;
  some = c.some;
  took = grows_exit names level limit (written left.tree) (kind_or_end tokens left.next) left.deep c.grows other;
}

-- a chain that would be too high with the next token
pub chain_full : (names : Names) (level limit : ℕ) (tokens : List Token) (from : ℕ) (left whole : Taken) → IsChainFrom names level limit tokens from left
    → join (kind_or_end tokens left.next) ≡ suc level → limit ≤ left.height
    → Begins (Expressions names level) (text (written left.tree) (kind_or_end tokens left.next ∷ []))
    → IsNode (written left.tree) left.height left.next true whole → IsTakenFrom names level limit tokens from whole
chain_full names level limit tokens from left whole c j full b n =
    let h = c.height_is in
    node_taken names level limit tokens from whole (written left.tree) left.height left.next true n h c.spelled c.some
    (grows_deep names level limit (written left.tree) (kind_or_end tokens left.next) left.deep c.grows j (omega arith) b)

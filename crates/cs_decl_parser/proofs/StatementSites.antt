-- Each return of the parts that parse statements, over indices of tokens.
use Rattle.std.proofs.Common.{◌≡◌, ℕ, ◌+◌, ◌-◌, ◌<◌, ◌≤◌, max, Bool, true, false, List, [], ◌∷◌, ◌++◌, Option, Some, None}
use Rattle.std.proofs.Common.{length, refl, sym, ap, ◌∙◌, subst, arith}
use Rattle.std.specs.Option.{option_map}
use Rattle.cs_ast.specs.declared.token.Token.{Token}
use Rattle.cs_ast.specs.declared.token.TokenKind.{TokenKind}
use Rattle.cs_ast.specs.declared.token.TokenKind.TheVariants as token
use Rattle.cs_ast.specs.declared.token.Keyword.{Keyword}
use Rattle.cs_ast.specs.declared.token.Keyword.TheVariants as keyword
use Rattle.cs_ast.specs.declared.token.Punctuator.{Punctuator}
use Rattle.cs_ast.specs.declared.token.Punctuator.TheVariants as punctuator
use Rattle.cs_ast.specs.declared.raw.expression.RawExpr.{RawExpr}
use Rattle.cs_ast.specs.declared.raw.statement.RawStmt.{RawStmt}
use Rattle.cs_ast.specs.RawView.{written}
use Rattle.cs_ast.specs.RawStatements.{Sentence, Nothing, If, IfElse, While, Do, Goto, Return, Label}
use Rattle.cs_ast.specs.RawStatementView.{statement_of}
use Rattle.cs_ast.specs.RawFileHeight.{sentence_height}
use Rattle.cs_grammar.specs.declared.refusal.Reason.TheVariants.{TooDeep}
use Rattle.cs_grammar.specs.TypeWords.{Names}
use Rattle.cs_grammar.specs.FileText.{sentence_text}
use Rattle.cs_grammar.specs.FileClasses.{Tests, Sentences, Branches}
use Rattle.cs_grammar.specs.Parsing.{Class, Took}
use Rattle.cs_grammar.specs.Composed.{ClosedSome}
use Rattle.cs_grammar.proofs.FileTexts.{sentence_append}
use Rattle.cs_grammar.proofs.Holes.{ClosedBy, Ended, AnyName, ended_exact, name_law, name_exact, name_refused, exact_took}
use Rattle.cs_grammar.proofs.Statements.{semicolon, colon, word}
use Rattle.cs_grammar.proofs.StatementParts.{sentences_law, tests_law, while_pair, if_pair, do_pair, nothing_single, goto_single, return_single, label_single}
use Rattle.cs_grammar.proofs.StatementSites.{branch_refused, branch_alone, branch_other_refused, branch_other_took}
use Rattle.cs_grammar.proofs.StatementFirsts.{lone_refused}
use Rattle.cs_expr_parser.specs.Positions.{kind_or_end}
use Rattle.cs_expr_parser.specs.Parts.{Spells}
use Rattle.cs_declarator_parser.specs.declared.source.Scope.TheVariants as scope
use Rattle.cs_decl_parser.specs.declared.form.Form.{Form}
use Rattle.cs_decl_parser.specs.declared.form.Form.TheVariants as form
use Rattle.cs_expr_parser.specs.declared.stop.Stop.{Stop}
use Rattle.cs_expr_parser.specs.declared.stop.Stop.TheVariants as stop
use Rattle.cs_declarator_parser.specs.declared.stop.Taken.{Taken}
use Rattle.cs_decl_parser.specs.Nodes.{IsNode}
use Rattle.cs_decl_parser.specs.Forms.{least, form_of, is_labelled}
use Rattle.cs_declarator_parser.specs.Answers.{Stops, IsExactly, IsTaken}
use Rattle.cs_expr_parser.proofs.Standing.{spells_one, spells_none, spells_more, spells_as}
use Rattle.cs_declarator_parser.proofs.PartStops.{Standing, StandingExactly, IsPlainStop, stops_in, stops_pass, stops_plain, stops_full, pair_first_stops}
use Rattle.cs_declarator_parser.proofs.PartStops.{pair_second_stops, pair_stands, single_stops, single_stands, no_fits, exactly_stands, closed_stops}
use Rattle.cs_declarator_parser.proofs.PartStops.{closed_missing, closed_stands}
use Rattle.cs_decl_parser.proofs.StatementForms.{Yields, form_yields, form_full, label_name, no_colon}

-- one token that is a keyword
pub word_stands : (tokens : List Token) (at : ℕ) (k : Keyword) → kind_or_end tokens at ≡ token.Keyword k
    → Spells tokens at (at + 1) (λ rest. token.Keyword k ∷ rest)
word_stands tokens at k e = spells_one tokens at (token.Keyword k) e (λ x. cc)

-- one token that is a punctuator
pub punctuator_stands : (tokens : List Token) (at : ℕ) (m : Punctuator) → kind_or_end tokens at ≡ token.Punctuator m
    → Spells tokens at (at + 1) (λ rest. token.Punctuator m ∷ rest)
punctuator_stands tokens at m e = spells_one tokens at (token.Punctuator m) e (λ x. cc)

-- a phrase that was taken, with its tokens
pub taken_stands : {A : Type 0} (C : Class) (view : A → C.Tree) (limit : ℕ) (tokens : List Token) (from : ℕ) (deep : Bool) (taken : Taken A)
    → IsTaken C view limit tokens from deep taken → Standing C limit tokens from taken.next deep (view taken.tree)
taken_stands C view limit tokens from deep taken t = record { spelled = t.spelled; took = t.took }

pub exact_stands : {A : Type 0} (C : Class) (view : A → C.Tree) (limit : ℕ) (tokens : List Token) (from : ℕ) (taken : Taken A)
    → IsExactly C view limit tokens from taken → StandingExactly C limit tokens from taken.next (view taken.tree)
exact_stands C view limit tokens from taken t = record { spelled = t.spelled; exactly = t.exactly }

-- a statement that was taken, as the result
pub node_taken : (names : Names) (limit : ℕ) (tokens : List Token) (from : ℕ) (tree : Sentence) (tall next : ℕ) (whole : Taken RawStmt)
    → IsNode tree tall next whole → tall ≡ sentence_height tree → Standing (Sentences names) limit tokens from next false tree
    → IsTaken (Sentences names) statement_of limit tokens from false whole
node_taken names limit tokens from tree tall next whole n h s = record {
  height_is = n.height_is ∙ h ∙ ap sentence_height (sym n.tree_is);
  spelled = subst (λ (k : ℕ). Spells tokens from k (sentence_text (statement_of whole.tree))) (sym n.next_is)
      (subst (λ (e : Sentence). Spells tokens from next (sentence_text e)) (sym n.tree_is) s.spelled);
  took =
      subst (λ (k : ℕ). Took (Sentences names) limit (statement_of whole.tree) (kind_or_end tokens k) false) (sym n.next_is)
      (subst (λ (e : Sentence). Took (Sentences names) limit e (kind_or_end tokens next) false) (sym n.tree_is) s.took);
}

-- the limit doesn't allow the lowest statement of the form
pub statement_full : (names : Names) (limit : ℕ) (tokens : List Token) (from : ℕ) (s : Stop) → from ≤ length tokens
    → limit < least (form_of names (kind_or_end tokens from) (kind_or_end tokens (from + 1))) → s ≡ stop.Refused from TooDeep
    → Stops (Sentences names) limit tokens from s
statement_full names limit tokens from s within full is =
    stops_full (Sentences names) limit tokens from s within is (form_full names (kind_or_end tokens from) (kind_or_end tokens (from + 1)) limit full)

-- the first tokens are those of the form
pub reported_form : (names : Names) (tokens : List Token) (from : ℕ) (f : Form)
    → form_of names (kind_or_end tokens from) (kind_or_end tokens (from + 1)) ≡ f
    → Yields names f (kind_or_end tokens from) (kind_or_end tokens (from + 1))
reported_form names tokens from f e =
    subst (λ (x : Form). Yields names x (kind_or_end tokens from) (kind_or_end tokens (from + 1))) e
    (form_yields names (kind_or_end tokens from) (kind_or_end tokens (from + 1)))

-- a typedef name that no colon follows
pub unlabelled_stops : (names : Names) (limit : ℕ) (tokens : List Token) (from : ℕ) (s : Stop) → 2 ≤ limit
    → form_of names (kind_or_end tokens from) (kind_or_end tokens (from + 1)) ≡ form.Unlabelled → IsPlainStop scope.Block tokens (from + 1) s
    → Stops (Sentences names) limit tokens from s
unlabelled_stops names limit tokens from s some e is =
    let t = reported_form names tokens from form.Unlabelled e in
    stops_plain (Sentences names) limit tokens from (from + 1) scope.Block (token.Name t.0 ∷ []) s (spells_one tokens from (token.Name t.0) t.1 (λ x. cc)) is
    (lone_refused names limit t.0 (kind_or_end tokens (from + 1)) some t.2 (no_colon (kind_or_end tokens (from + 1)) t.3))

-- `while`
pub while_test_stops : (names : Names) (limit : ℕ) (tokens : List Token) (from : ℕ) → 2 ≤ limit → kind_or_end tokens from ≡ word keyword.While
    → (s : Stop) → Stops (Tests names) (limit - 1) tokens (from + 1) s → Stops (Sentences names) limit tokens from s
while_test_stops names limit tokens from enough k s r =
    pair_first_stops (while_pair names) limit (limit - 1) (omega arith, omega arith, omega arith) tokens from (from + 1)
    (word_stands tokens from keyword.While k) s r

pub while_body_stops : (names : Names) (limit : ℕ) (tokens : List Token) (from : ℕ) (test : Taken RawExpr) → 2 ≤ limit
    → kind_or_end tokens from ≡ word keyword.While → IsExactly (Tests names) written (limit - 1) tokens (from + 1) test
    → (s : Stop) → Stops (Sentences names) (limit - 1) tokens test.next s → Stops (Sentences names) limit tokens from s
while_body_stops names limit tokens from test enough k t s r =
    pair_second_stops (while_pair names) limit (limit - 1) (omega arith, omega arith, omega arith) tokens from (from + 1) test.next
    (word_stands tokens from keyword.While k) (written test.tree) (exact_stands (Tests names) written (limit - 1) tokens (from + 1) test t) s r

pub while_taken : (names : Names) (limit : ℕ) (tokens : List Token) (from : ℕ) (test : Taken RawExpr) (body whole : Taken RawStmt) → 2 ≤ limit
    → kind_or_end tokens from ≡ word keyword.While → IsExactly (Tests names) written (limit - 1) tokens (from + 1) test
    → IsTaken (Sentences names) statement_of (limit - 1) tokens test.next false body
    → IsNode (While (written test.tree) (statement_of body.tree)) (max test.height body.height + 1) body.next whole
    → IsTaken (Sentences names) statement_of limit tokens from false whole
while_taken names limit tokens from test body whole enough k t b n =
    let th = t.height_is in
    let bh = b.height_is in
    node_taken names limit tokens from (While (written test.tree) (statement_of body.tree)) (max test.height body.height + 1) body.next whole n
    (omega (arith, th, bh))
    (pair_stands (while_pair names) limit (limit - 1) (omega arith, omega arith, omega arith) tokens from (from + 1) test.next body.next
    (word_stands tokens from keyword.While k) (written test.tree) (exact_stands (Tests names) written (limit - 1) tokens (from + 1) test t) false
    (statement_of body.tree)
    (taken_stands (Sentences names) statement_of (limit - 1) tokens test.next false body b))

-- `if`
pub if_test_stops : (names : Names) (limit : ℕ) (tokens : List Token) (from : ℕ) → 2 ≤ limit → kind_or_end tokens from ≡ word keyword.If
    → (s : Stop) → Stops (Tests names) (limit - 1) tokens (from + 1) s → Stops (Sentences names) limit tokens from s
if_test_stops names limit tokens from enough k s r =
    pair_first_stops (if_pair names) limit (limit - 1) (omega arith, omega arith, omega arith) tokens from (from + 1) (word_stands tokens from keyword.If k) s r

branches_stop : (names : Names) (limit : ℕ) (tokens : List Token) (from : ℕ) (test : Taken RawExpr) → 2 ≤ limit
    → kind_or_end tokens from ≡ word keyword.If → IsExactly (Tests names) written (limit - 1) tokens (from + 1) test
    → (s : Stop) → Stops (Branches names) (limit - 1) tokens test.next s → Stops (Sentences names) limit tokens from s
branches_stop names limit tokens from test enough k t s r =
    pair_second_stops (if_pair names) limit (limit - 1) (omega arith, omega arith, omega arith) tokens from (from + 1) test.next
    (word_stands tokens from keyword.If k) (written test.tree) (exact_stands (Tests names) written (limit - 1) tokens (from + 1) test t) s r

pub if_body_stops : (names : Names) (limit : ℕ) (tokens : List Token) (from : ℕ) (test : Taken RawExpr) → 2 ≤ limit
    → kind_or_end tokens from ≡ word keyword.If → IsExactly (Tests names) written (limit - 1) tokens (from + 1) test
    → (s : Stop) → Stops (Sentences names) (limit - 1) tokens test.next s → Stops (Sentences names) limit tokens from s
if_body_stops names limit tokens from test enough k t s r =
    branches_stop names limit tokens from test enough k t s
    (stops_pass (Branches names) (Sentences names) (limit - 1) (limit - 1) tokens test.next
    (λ front at deep here x. branch_refused names (limit - 1) front (kind_or_end tokens at) deep x) s r)

pub if_taken : (names : Names) (limit : ℕ) (tokens : List Token) (from : ℕ) (test : Taken RawExpr) (body whole : Taken RawStmt) → 2 ≤ limit
    → kind_or_end tokens from ≡ word keyword.If → IsExactly (Tests names) written (limit - 1) tokens (from + 1) test
    → IsTaken (Sentences names) statement_of (limit - 1) tokens test.next false body → (kind_or_end tokens body.next ≡ word keyword.Else → ⊥)
    → IsNode (If (written test.tree) (statement_of body.tree)) (max test.height body.height + 1) body.next whole
    → IsTaken (Sentences names) statement_of limit tokens from false whole
if_taken names limit tokens from test body whole enough k t b other n =
    let th = t.height_is in
    let bh = b.height_is in
    node_taken names limit tokens from (If (written test.tree) (statement_of body.tree)) (max test.height body.height + 1) body.next whole n
    (omega (arith, th, bh))
    (pair_stands (if_pair names) limit (limit - 1) (omega arith, omega arith, omega arith) tokens from (from + 1) test.next body.next
    (word_stands tokens from keyword.If k) (written test.tree) (exact_stands (Tests names) written (limit - 1) tokens (from + 1) test t) false
    (statement_of body.tree, None)
    (record { spelled = b.spelled; took = branch_alone names (limit - 1) (statement_of body.tree) (kind_or_end tokens body.next) b.took other }))

else_stands : (names : Names) (limit : ℕ) (tokens : List Token) (from : ℕ) (body : Taken RawStmt)
    → IsTaken (Sentences names) statement_of limit tokens from false body → kind_or_end tokens body.next ≡ word keyword.Else
    → Spells tokens from (body.next + 1) (λ rest. sentence_text (statement_of body.tree) (word keyword.Else ∷ rest))
else_stands names limit tokens from body b k =
    spells_more tokens from body.next (body.next + 1) (sentence_text (statement_of body.tree)) (λ rest. word keyword.Else ∷ rest) b.spelled
    (word_stands tokens body.next keyword.Else k)

else_took : (names : Names) (limit : ℕ) (tokens : List Token) (from : ℕ) (body : Taken RawStmt)
    → IsTaken (Sentences names) statement_of limit tokens from false body → kind_or_end tokens body.next ≡ word keyword.Else
    → Took (Sentences names) limit (statement_of body.tree) (word keyword.Else) false
else_took names limit tokens from body b k = subst (λ (x : TokenKind). Took (Sentences names) limit (statement_of body.tree) x false) k b.took

pub else_stops : (names : Names) (limit : ℕ) (tokens : List Token) (from : ℕ) (test : Taken RawExpr) (body : Taken RawStmt) → 2 ≤ limit
    → kind_or_end tokens from ≡ word keyword.If → IsExactly (Tests names) written (limit - 1) tokens (from + 1) test
    → IsTaken (Sentences names) statement_of (limit - 1) tokens test.next false body → kind_or_end tokens body.next ≡ word keyword.Else
    → (s : Stop) → Stops (Sentences names) (limit - 1) tokens (body.next + 1) s → Stops (Sentences names) limit tokens from s
else_stops names limit tokens from test body enough k t b e s r =
    branches_stop names limit tokens from test enough k t s
    (stops_in (Branches names) (Sentences names) (limit - 1) (limit - 1) tokens test.next (body.next + 1)
    (sentence_text (statement_of body.tree) (word keyword.Else ∷ []))
    (spells_as tokens test.next (body.next + 1) (λ rest. sentence_text (statement_of body.tree) (word keyword.Else ∷ rest))
    (λ rest. sentence_text (statement_of body.tree) (word keyword.Else ∷ []) ++ rest) (else_stands names (limit - 1) tokens test.next body b e)
    (λ rest. sym (sentence_append (statement_of body.tree) (word keyword.Else ∷ []) rest)))
    (λ front at deep here x.
    branch_other_refused names (limit - 1) (statement_of body.tree) (else_took names (limit - 1) tokens test.next body b e) front (kind_or_end tokens at)
    deep x) s r)

pub else_taken : (names : Names) (limit : ℕ) (tokens : List Token) (from : ℕ) (test : Taken RawExpr) (body other whole : Taken RawStmt) → 2 ≤ limit
    → kind_or_end tokens from ≡ word keyword.If → IsExactly (Tests names) written (limit - 1) tokens (from + 1) test
    → IsTaken (Sentences names) statement_of (limit - 1) tokens test.next false body → kind_or_end tokens body.next ≡ word keyword.Else
    → IsTaken (Sentences names) statement_of (limit - 1) tokens (body.next + 1) false other
    → IsNode (IfElse (written test.tree) (statement_of body.tree) (statement_of other.tree)) (max (max test.height body.height) other.height + 1) other.next
    whole → IsTaken (Sentences names) statement_of limit tokens from false whole
else_taken names limit tokens from test body other whole enough k t b e o n =
    let th = t.height_is in
    let bh = b.height_is in
    let oh = o.height_is in
    node_taken names limit tokens from (IfElse (written test.tree) (statement_of body.tree) (statement_of other.tree))
    (max (max test.height body.height) other.height + 1) other.next whole n (omega (arith, th, bh, oh))
    (pair_stands (if_pair names) limit (limit - 1) (omega arith, omega arith, omega arith) tokens from (from + 1) test.next other.next
    (word_stands tokens from keyword.If k) (written test.tree) (exact_stands (Tests names) written (limit - 1) tokens (from + 1) test t) false
    (statement_of body.tree, Some (statement_of other.tree))
    (record {
      spelled = spells_more tokens test.next (body.next + 1) other.next (λ rest. sentence_text (statement_of body.tree) (word keyword.Else ∷ rest))
          (sentence_text (statement_of other.tree)) (else_stands names (limit - 1) tokens test.next body b e) o.spelled;
      took = branch_other_took names (limit - 1) (statement_of body.tree) (else_took names (limit - 1) tokens test.next body b e) (statement_of other.tree)
          (kind_or_end tokens other.next) false o.took;
    }))

-- `do`
pub do_body_stops : (names : Names) (limit : ℕ) (tokens : List Token) (from : ℕ) → 2 ≤ limit → kind_or_end tokens from ≡ word keyword.Do
    → (s : Stop) → Stops (Sentences names) (limit - 1) tokens (from + 1) s → Stops (Sentences names) limit tokens from s
do_body_stops names limit tokens from enough k s r =
    pair_first_stops (do_pair names) limit (limit - 1) (omega arith, omega arith, omega arith) tokens from (from + 1) (word_stands tokens from keyword.Do k) s
    (closed_stops (Sentences names) (word keyword.While) (sentences_law names) (λ part more reported. tt) (limit - 1) tokens (from + 1) s r)

pub do_while_missing : (names : Names) (limit : ℕ) (tokens : List Token) (from : ℕ) (body : Taken RawStmt) (s : Stop) → 2 ≤ limit
    → kind_or_end tokens from ≡ word keyword.Do → IsTaken (Sentences names) statement_of (limit - 1) tokens (from + 1) false body
    → (kind_or_end tokens body.next ≡ word keyword.While → ⊥) → IsPlainStop scope.Block tokens body.next s
    → Stops (Sentences names) limit tokens from s
do_while_missing names limit tokens from body s enough k b other is =
    pair_first_stops (do_pair names) limit (limit - 1) (omega arith, omega arith, omega arith) tokens from (from + 1) (word_stands tokens from keyword.Do k) s
    (closed_missing (Sentences names) (word keyword.While) (sentences_law names) (λ part more reported. tt) (limit - 1) tokens (from + 1) body.next scope.Block
    (statement_of body.tree) s
    (taken_stands (Sentences names) statement_of (limit - 1) tokens (from + 1) false body b) other is)

do_body : (names : Names) (limit : ℕ) (tokens : List Token) (from : ℕ) (body : Taken RawStmt)
    → IsTaken (Sentences names) statement_of limit tokens from false body → kind_or_end tokens body.next ≡ word keyword.While
    → StandingExactly (ClosedBy (Sentences names) (word keyword.While)) limit tokens from (body.next + 1) (statement_of body.tree)
do_body names limit tokens from body b w =
    closed_stands (Sentences names) (word keyword.While) (λ part more reported. tt) (λ x. cc) limit tokens from body.next (statement_of body.tree)
    (taken_stands (Sentences names) statement_of limit tokens from false body b) w

pub do_test_stops : (names : Names) (limit : ℕ) (tokens : List Token) (from : ℕ) (body : Taken RawStmt) → 2 ≤ limit
    → kind_or_end tokens from ≡ word keyword.Do → IsTaken (Sentences names) statement_of (limit - 1) tokens (from + 1) false body
    → kind_or_end tokens body.next ≡ word keyword.While → (s : Stop) → Stops (Tests names) (limit - 1) tokens (body.next + 1) s
    → Stops (Sentences names) limit tokens from s
do_test_stops names limit tokens from body enough k b w s r =
    pair_second_stops (do_pair names) limit (limit - 1) (omega arith, omega arith, omega arith) tokens from (from + 1) (body.next + 1)
    (word_stands tokens from keyword.Do k) (statement_of body.tree) (do_body names (limit - 1) tokens (from + 1) body b w) s
    (closed_stops (Tests names) semicolon (tests_law names) (λ part more. tt) (limit - 1) tokens (body.next + 1) s r)

pub do_semicolon_missing : (names : Names) (limit : ℕ) (tokens : List Token) (from : ℕ) (body : Taken RawStmt) (test : Taken RawExpr) (s : Stop)
    → 2 ≤ limit → kind_or_end tokens from ≡ word keyword.Do → IsTaken (Sentences names) statement_of (limit - 1) tokens (from + 1) false body
    → kind_or_end tokens body.next ≡ word keyword.While → IsExactly (Tests names) written (limit - 1) tokens (body.next + 1) test
    → (kind_or_end tokens test.next ≡ semicolon → ⊥) → IsPlainStop scope.Block tokens test.next s → Stops (Sentences names) limit tokens from s
do_semicolon_missing names limit tokens from body test s enough k b w t other is =
    pair_second_stops (do_pair names) limit (limit - 1) (omega arith, omega arith, omega arith) tokens from (from + 1) (body.next + 1)
    (word_stands tokens from keyword.Do k) (statement_of body.tree) (do_body names (limit - 1) tokens (from + 1) body b w) s
    (closed_missing (Tests names) semicolon (tests_law names) (λ part more. tt) (limit - 1) tokens (body.next + 1) test.next scope.Block (written test.tree) s
    (exactly_stands (Tests names) (limit - 1) tokens (body.next + 1) test.next (written test.tree)
    (exact_stands (Tests names) written (limit - 1) tokens (body.next + 1) test t)) other is)

pub do_taken : (names : Names) (limit : ℕ) (tokens : List Token) (from : ℕ) (body whole : Taken RawStmt) (test : Taken RawExpr) → 2 ≤ limit
    → kind_or_end tokens from ≡ word keyword.Do → IsTaken (Sentences names) statement_of (limit - 1) tokens (from + 1) false body
    → kind_or_end tokens body.next ≡ word keyword.While → IsExactly (Tests names) written (limit - 1) tokens (body.next + 1) test
    → kind_or_end tokens test.next ≡ semicolon
    → IsNode (Do (statement_of body.tree) (written test.tree)) (max body.height test.height + 1) (test.next + 1) whole
    → IsTaken (Sentences names) statement_of limit tokens from false whole
do_taken names limit tokens from body whole test enough k b w t c n =
    let th = t.height_is in
    let bh = b.height_is in
    node_taken names limit tokens from (Do (statement_of body.tree) (written test.tree)) (max body.height test.height + 1) (test.next + 1) whole n
    (omega (arith, th, bh))
    (pair_stands (do_pair names) limit (limit - 1) (omega arith, omega arith, omega arith) tokens from (from + 1) (body.next + 1) (test.next + 1)
    (word_stands tokens from keyword.Do k) (statement_of body.tree) (do_body names (limit - 1) tokens (from + 1) body b w) false (written test.tree)
    (exactly_stands (ClosedBy (Tests names) semicolon) (limit - 1) tokens (body.next + 1) (test.next + 1) (written test.tree)
    (closed_stands (Tests names) semicolon (λ part more. tt) (λ x. cc) (limit - 1) tokens (body.next + 1) test.next (written test.tree)
    (exactly_stands (Tests names) (limit - 1) tokens (body.next + 1) test.next (written test.tree)
    (exact_stands (Tests names) written (limit - 1) tokens (body.next + 1) test t)) c)))

-- a label
label_stands : (tokens : List Token) (from : ℕ) (n : List ℕ) → kind_or_end tokens from ≡ token.Name n → kind_or_end tokens (from + 1) ≡ colon
    → Spells tokens from (from + 1 + 1) (λ rest. token.Name n ∷ colon ∷ rest)
label_stands tokens from n k c =
    spells_more tokens from (from + 1) (from + 1 + 1) (λ rest. token.Name n ∷ rest) (λ rest. colon ∷ rest)
    (spells_one tokens from (token.Name n) k (λ x. cc)) (punctuator_stands tokens (from + 1) punctuator.Colon c)

label_tokens : (tokens : List Token) (from : ℕ) (n : List ℕ) → kind_or_end tokens from ≡ token.Name n
    → is_labelled (kind_or_end tokens from) (kind_or_end tokens (from + 1)) ≡ true
    → Spells tokens from (from + 2) (λ rest. token.Name n ∷ colon ∷ rest)
label_tokens tokens from n k e =
    let l = label_name (kind_or_end tokens from) (kind_or_end tokens (from + 1)) e in
    let two : from + 1 + 1 ≡ from + 2 = omega arith in
    subst (λ (m : ℕ). Spells tokens from m (λ rest. token.Name n ∷ colon ∷ rest)) two (label_stands tokens from n k l.2)

pub label_stops : (names : Names) (limit : ℕ) (tokens : List Token) (from : ℕ) (n : List ℕ) → 2 ≤ limit → kind_or_end tokens from ≡ token.Name n
    → is_labelled (kind_or_end tokens from) (kind_or_end tokens (from + 1)) ≡ true
    → (s : Stop) → Stops (Sentences names) (limit - 1) tokens (from + 2) s → Stops (Sentences names) limit tokens from s
label_stops names limit tokens from n enough k e s r =
    single_stops (label_single names n) limit (limit - 1) (omega arith, omega arith) tokens from (from + 2) (label_tokens tokens from n k e)
    (no_fits tokens (from + 2)) s r

pub label_taken : (names : Names) (limit : ℕ) (tokens : List Token) (from : ℕ) (n : List ℕ) (body whole : Taken RawStmt) → 2 ≤ limit
    → kind_or_end tokens from ≡ token.Name n → is_labelled (kind_or_end tokens from) (kind_or_end tokens (from + 1)) ≡ true
    → IsTaken (Sentences names) statement_of (limit - 1) tokens (from + 2) false body
    → IsNode (Label n (statement_of body.tree)) (body.height + 1) body.next whole → IsTaken (Sentences names) statement_of limit tokens from false whole
label_taken names limit tokens from n body whole enough k e b nd =
    let bh = b.height_is in
    node_taken names limit tokens from (Label n (statement_of body.tree)) (body.height + 1) body.next whole nd (omega (arith, bh))
    (single_stands (label_single names n) limit (limit - 1) (omega arith, omega arith) tokens from (from + 2) body.next (label_tokens tokens from n k e) false
    (statement_of body.tree) (λ following near. tt)
    (taken_stands (Sentences names) statement_of (limit - 1) tokens (from + 2) false body b))

pub unnamed_label : (tokens : List Token) (from : ℕ) → is_labelled (kind_or_end tokens from) (kind_or_end tokens (from + 1)) ≡ true
    → ((n : List ℕ) → kind_or_end tokens from ≡ token.Name n → ⊥) → ⊥
unnamed_label tokens from e none = let l = label_name (kind_or_end tokens from) (kind_or_end tokens (from + 1)) e in none l.0 l.1

-- `;`
pub nothing_taken : (names : Names) (limit : ℕ) (tokens : List Token) (from : ℕ) (whole : Taken RawStmt) → 1 ≤ limit
    → kind_or_end tokens from ≡ semicolon → IsNode Nothing 1 (from + 1) whole → IsTaken (Sentences names) statement_of limit tokens from false whole
nothing_taken names limit tokens from whole some k n =
    node_taken names limit tokens from Nothing 1 (from + 1) whole n refl
    (single_stands (nothing_single names) limit (limit - 1) (omega arith, omega arith) tokens from (from + 1) (from + 1)
    (punctuator_stands tokens from punctuator.Semicolon k) false tt (λ following near. tt)
    (record {
      spelled = spells_none tokens (from + 1) (let m = punctuator_stands tokens from punctuator.Semicolon k in m.within);
      took = exact_took Ended (limit - 1) tt (ended_exact (limit - 1)) (kind_or_end tokens (from + 1));
    }))

-- `goto`
pub goto_name_missing : (names : Names) (limit : ℕ) (tokens : List Token) (from : ℕ) (s : Stop) → 1 ≤ limit
    → kind_or_end tokens from ≡ word keyword.Goto → ((n : List ℕ) → kind_or_end tokens (from + 1) ≡ token.Name n → ⊥)
    → IsPlainStop scope.Block tokens (from + 1) s → Stops (Sentences names) limit tokens from s
goto_name_missing names limit tokens from s some k none is =
    let w = word_stands tokens from keyword.Goto k in
    single_stops (goto_single names) limit (limit - 1) (omega arith, omega arith) tokens from (from + 1) w (no_fits tokens (from + 1)) s
    (closed_stops AnyName semicolon name_law (λ part more. tt) (limit - 1) tokens (from + 1) s
    (stops_plain AnyName (limit - 1) tokens (from + 1) (from + 1) scope.Block [] s (spells_none tokens (from + 1) w.within) is
    (name_refused (limit - 1) (kind_or_end tokens (from + 1)) none)))

goto_name : (limit : ℕ) (tokens : List Token) (at : ℕ) (n : List ℕ) → kind_or_end tokens at ≡ token.Name n
    → Standing AnyName limit tokens at (at + 1) false n
goto_name limit tokens at n k = record {
  spelled = spells_one tokens at (token.Name n) k (λ x. cc);
  took = exact_took AnyName limit n (name_exact limit n) (kind_or_end tokens (at + 1));
}

two_on : (from : ℕ) → from + 1 + 1 ≡ from + 2
two_on from = omega arith

pub goto_semicolon_missing : (names : Names) (limit : ℕ) (tokens : List Token) (from : ℕ) (n : List ℕ) (s : Stop) → 1 ≤ limit
    → kind_or_end tokens from ≡ word keyword.Goto → kind_or_end tokens (from + 1) ≡ token.Name n
    → (kind_or_end tokens (from + 2) ≡ semicolon → ⊥) → IsPlainStop scope.Block tokens (from + 2) s → Stops (Sentences names) limit tokens from s
goto_semicolon_missing names limit tokens from n s some k name other is =
    let t = subst (λ (m : ℕ). Standing AnyName (limit - 1) tokens (from + 1) m false n) (two_on from) (goto_name (limit - 1) tokens (from + 1) n name) in
    single_stops (goto_single names) limit (limit - 1) (omega arith, omega arith) tokens from (from + 1) (word_stands tokens from keyword.Goto k)
    (no_fits tokens (from + 1)) s
    (closed_missing AnyName semicolon name_law (λ part more. tt) (limit - 1) tokens (from + 1) (from + 2) scope.Block n s t other is)

three_on : (from : ℕ) → from + 2 + 1 ≡ from + 3
three_on from = omega arith

pub goto_taken : (names : Names) (limit : ℕ) (tokens : List Token) (from : ℕ) (n : List ℕ) (whole : Taken RawStmt) → 1 ≤ limit
    → kind_or_end tokens from ≡ word keyword.Goto → kind_or_end tokens (from + 1) ≡ token.Name n → kind_or_end tokens (from + 2) ≡ semicolon
    → IsNode (Goto n) 1 (from + 3) whole → IsTaken (Sentences names) statement_of limit tokens from false whole
goto_taken names limit tokens from n whole some k name c nd =
    let t = subst (λ (m : ℕ). Standing AnyName (limit - 1) tokens (from + 1) m false n) (two_on from) (goto_name (limit - 1) tokens (from + 1) n name) in
    let e = subst (λ (m : ℕ). StandingExactly (ClosedBy AnyName semicolon) (limit - 1) tokens (from + 1) m n) (three_on from)
    (closed_stands AnyName semicolon (λ part more. tt) (λ x. cc) (limit - 1) tokens (from + 1) (from + 2) n t c) in
    node_taken names limit tokens from (Goto n) 1 (from + 3) whole nd refl
    (single_stands (goto_single names) limit (limit - 1) (omega arith, omega arith) tokens from (from + 1) (from + 3) (word_stands tokens from keyword.Goto k)
    false n (λ following near. tt)
    (exactly_stands (ClosedBy AnyName semicolon) (limit - 1) tokens (from + 1) (from + 3) n e))

-- `return`
abbrev pub Values : Names → Class
Values names = ClosedSome names 0 (Unit {0}) semicolon

pub return_stops : (names : Names) (limit : ℕ) (tokens : List Token) (from : ℕ) → 1 ≤ limit → kind_or_end tokens from ≡ word keyword.Return
    → (s : Stop) → Stops (Values names) (limit - 1) tokens (from + 1) s → Stops (Sentences names) limit tokens from s
return_stops names limit tokens from some k s r =
    single_stops (return_single names) limit (limit - 1) (omega arith, omega arith) tokens from (from + 1) (word_stands tokens from keyword.Return k)
    (no_fits tokens (from + 1)) s r

pub return_taken : (names : Names) (limit : ℕ) (tokens : List Token) (from : ℕ) (value : Taken (Option RawExpr)) (whole : Taken RawStmt) → 1 ≤ limit
    → kind_or_end tokens from ≡ word keyword.Return → IsExactly (Values names) (option_map written) (limit - 1) tokens (from + 1) value
    → IsNode (Return (option_map written value.tree)) (value.height + 1) value.next whole
    → IsTaken (Sentences names) statement_of limit tokens from false whole
return_taken names limit tokens from value whole some k v n =
    let vh = v.height_is in
    node_taken names limit tokens from (Return (option_map written value.tree)) (value.height + 1) value.next whole n (omega (arith, vh))
    (single_stands (return_single names) limit (limit - 1) (omega arith, omega arith) tokens from (from + 1) value.next
    (word_stands tokens from keyword.Return k) false (option_map written value.tree) (λ following near. tt)
    (exactly_stands (Values names) (limit - 1) tokens (from + 1) value.next (option_map written value.tree)
    (exact_stands (Values names) (option_map written) (limit - 1) tokens (from + 1) value v)))

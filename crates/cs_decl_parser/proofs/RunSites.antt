-- Each return of the parts that parse expression statements and jumps, over indices of tokens.
use Rattle.std.proofs.Common.{◌≡◌, ℕ, ◌+◌, ◌-◌, ◌<◌, ◌≤◌, ◌⊎◌, inl, inr, Bool, true, false, List, [], ◌∷◌, ◌++◌}
use Rattle.std.proofs.Common.{length, refl, sym, ap, ◌∙◌, subst, arith}
use Rattle.std.proofs.lemmas.Bool.{false≢true, cases_lt, not_from_false}
use Rattle.cs_ast.specs.declared.token.Token.{Token}
use Rattle.cs_ast.specs.declared.token.TokenKind.{TokenKind}
use Rattle.cs_ast.specs.declared.token.TokenKind.TheVariants as token
use Rattle.cs_ast.specs.declared.token.Keyword.{Keyword}
use Rattle.cs_ast.specs.declared.token.Keyword.TheVariants as keyword
use Rattle.cs_ast.specs.declared.token.Punctuator.{Punctuator}
use Rattle.cs_ast.specs.declared.token.Punctuator.TheVariants as punctuator
use Rattle.cs_ast.specs.declared.raw.expression.RawExpr.{RawExpr}
use Rattle.cs_ast.specs.declared.raw.statement.RawStmt.{RawStmt}
use Rattle.cs_ast.specs.RawTree.{Named, Written}
use Rattle.cs_ast.specs.RawView.{written}
use Rattle.cs_ast.specs.RawStatements.{Sentence, Runs, Continue, Break}
use Rattle.cs_ast.specs.RawStatementView.{statement_of}
use Rattle.cs_grammar.specs.TypeWords.{Names, is_among}
use Rattle.cs_grammar.specs.Text.{Kinds, text}
use Rattle.cs_grammar.specs.Phrases.{IsPhrase}
use Rattle.cs_grammar.specs.FirstTokens.{begins_expression, opens_expression, is_sizeof}
use Rattle.cs_grammar.specs.FileFirstTokens.{begins_sentence, punctuator_begins_sentence, keyword_begins_sentence}
use Rattle.cs_grammar.specs.FileClasses.{Sentences}
use Rattle.cs_grammar.specs.Parsing.{Class, Expressions, Near, Begins, BeginsLow, Refused}
use Rattle.cs_grammar.proofs.Texts.{text_append}
use Rattle.cs_grammar.proofs.FileBeginnings.{expression_sentence}
use Rattle.cs_grammar.proofs.Holes.{ClosedBy, Ended, ended_law, ended_exact, exact_took}
use Rattle.cs_grammar.proofs.Tails.{first_or, near_other}
use Rattle.cs_grammar.proofs.Pairs.{single_refused}
use Rattle.cs_grammar.proofs.Statements.{semicolon, colon, runs_first, name_colon, begins_other_sentence, IsRun}
use Rattle.cs_grammar.proofs.StatementParts.{expression_height, runs_single, continue_single, break_single}
use Rattle.cs_grammar.proofs.StatementFirsts.{expression_example, sentence_not, begins_low, sentence_low, no_other}
use Rattle.cs_expr_parser.specs.Positions.{kind_or_end}
use Rattle.cs_expr_parser.specs.Parts.{Spells}
use Rattle.cs_declarator_parser.specs.declared.source.Scope.TheVariants as scope
use Rattle.cs_decl_parser.specs.declared.form.Form.TheVariants as form
use Rattle.cs_expr_parser.specs.declared.stop.Stop.{Stop}
use Rattle.cs_declarator_parser.specs.declared.stop.Taken.{Taken}
use Rattle.cs_decl_parser.specs.Nodes.{IsNode}
use Rattle.cs_decl_parser.specs.Forms.{form_of, IsJump}
use Rattle.cs_declarator_parser.specs.Answers.{Stops, IsExactly, IsTaken}
use Rattle.cs_expr_parser.proofs.Standing.{spells_none}
use Rattle.cs_expr_parser.proofs.Stopping.{refused_here}
use Rattle.cs_decl_parser.proofs.SecondTokens.{second_front}
use Rattle.cs_declarator_parser.proofs.PartStops.{Standing, IsPlainStop, stops_pass, first_front, near_start, single_stops, single_stands, no_fits}
use Rattle.cs_declarator_parser.proofs.PartStops.{exactly_stands, closed_missing, closed_stands}
use Rattle.cs_decl_parser.proofs.StatementForms.{run_name, no_colon}
use Rattle.cs_decl_parser.proofs.StatementSites.{word_stands, exact_stands, node_taken, reported_form}

abbrev pub Closed : Names → Class
Closed names = ClosedBy (Expressions names 0) semicolon

punctuator_expression : (names : Names) (m : Punctuator) → punctuator_begins_sentence m ≡ true → begins_other_sentence (token.Punctuator m) ≡ false
    → begins_expression names (token.Punctuator m) ≡ true
punctuator_expression names punctuator.OpenBrace e f = absurd (false≢true (sym f))
punctuator_expression names punctuator.Semicolon e f = absurd (false≢true (sym f))
punctuator_expression names _ e f = e

keyword_expression : (names : Names) (k : Keyword) → keyword_begins_sentence k ≡ true → begins_other_sentence (token.Keyword k) ≡ false
    → begins_expression names (token.Keyword k) ≡ true
keyword_expression names keyword.Sizeof e f = refl
keyword_expression names keyword.Break e f = absurd (false≢true (sym f))
keyword_expression names keyword.Continue e f = absurd (false≢true (sym f))
keyword_expression names keyword.Do e f = absurd (false≢true (sym f))
keyword_expression names keyword.For e f = absurd (false≢true (sym f))
keyword_expression names keyword.Goto e f = absurd (false≢true (sym f))
keyword_expression names keyword.If e f = absurd (false≢true (sym f))
keyword_expression names keyword.Return e f = absurd (false≢true (sym f))
keyword_expression names keyword.Switch e f = absurd (false≢true (sym f))
keyword_expression names keyword.While e f = absurd (false≢true (sym f))
keyword_expression names _ e f = absurd (false≢true e)

-- a token that begins a statement, and none of another form, begins an expression
begins_run : (names : Names) (t : TokenKind) → begins_sentence t ≡ true → begins_other_sentence t ≡ false
    → ((n : List ℕ) → t ≡ token.Name n → is_among names n ≡ false) → begins_expression names t ≡ true
begins_run names (token.Name n) e f free = not_from_false (is_among names n) (free n refl)
begins_run names (token.Number n) e f free = refl
begins_run names (token.Character v) e f free = refl
begins_run names (token.Text b) e f free = refl
begins_run names (token.Punctuator m) e f free = punctuator_expression names m e f
begins_run names (token.Keyword k) e f free = keyword_expression names k e f
begins_run names (token.Unsupported w) e f free = absurd (false≢true e)
begins_run names token.Attribute e f free = absurd (false≢true e)

punctuator_not_low : (m : Punctuator) → opens_expression m ≡ true → begins_low (token.Punctuator m) ≡ false
punctuator_not_low punctuator.OpenBrace e = absurd (false≢true e)
punctuator_not_low punctuator.Semicolon e = absurd (false≢true e)
punctuator_not_low _ e = refl

keyword_not_low : (k : Keyword) → is_sizeof k ≡ true → begins_low (token.Keyword k) ≡ false
keyword_not_low keyword.Sizeof e = refl
keyword_not_low _ e = absurd (false≢true e)

expression_not_low : (names : Names) (t : TokenKind) → begins_expression names t ≡ true → begins_low t ≡ false
expression_not_low names (token.Name n) e = refl
expression_not_low names (token.Number n) e = refl
expression_not_low names (token.Character v) e = refl
expression_not_low names (token.Text b) e = refl
expression_not_low names (token.Punctuator m) e = punctuator_not_low m e
expression_not_low names (token.Keyword k) e = keyword_not_low k e
expression_not_low names (token.Unsupported w) e = absurd (false≢true e)
expression_not_low names token.Attribute e = absurd (false≢true e)

-- a token that begins an expression begins one with the token that closes it
closed_example : (names : Names) (t : TokenKind) → begins_expression names t ≡ true → Begins (Closed names) (t ∷ [])
closed_example names t e =
    let b = expression_example names t e in
    record {
      phrase = b.phrase;
      more = b.more ++ semicolon ∷ [];
      is_phrase = b.is_phrase;
      spelled = sym (text_append b.phrase [] (semicolon ∷ [])) ∙ ap (λ (x : Kinds). x ++ semicolon ∷ []) b.spelled;
    }

-- if the limit is small, an expression statement is refused at its first token
little_front : (names : Names) (front : Kinds) → (front ≡ []) ⊎ BeginsLow (Closed names) 0 front → front ≡ []
little_front names front (inl none) = none
little_front names front (inr b) = let h = expression_height b.phrase in let l = b.low in absurd (omega (arith, h, l))

little_deep : (names : Names) (limit : ℕ) (next : TokenKind) (deep : Bool) → limit < 2 → begins_other_sentence next ≡ false
    → ((n : List ℕ) → next ≡ token.Name n → is_among names n ≡ false) → (b : Bool) → begins_sentence next ≡ b
    → Refused (Closed names) 0 [] next deep → Refused (Sentences names) limit [] next deep
little_deep names limit next true full plain free true e r =
    let x = begins_run names next e plain free in
    sentence_low names limit next full e (expression_not_low names next x)
little_deep names limit next false full plain free true e r =
    let b = closed_example names next (begins_run names next e plain free) in
    let v = r.never b.phrase [] (next ∷ b.more) b.is_phrase tt (inr (b.more, refl)) b.spelled in
    absurd (false≢true v.reported)
little_deep names limit next false full plain free false e r = sentence_not names limit next e
little_deep names limit next true full plain free false e r =
    let b = r.further refl in
    absurd (false≢true (sym e ∙ expression_sentence names next (runs_first names b.phrase (semicolon ∷ []) next b.more b.is_phrase b.spelled)))

-- the first tokens are those of an expression statement
pub record StandsRun (names : Names) (tokens : List Token) (from : ℕ) : Type 0 where
  pub plain : begins_other_sentence (kind_or_end tokens from) ≡ false
  pub free : (n : List ℕ) → kind_or_end tokens from ≡ token.Name n → is_among names n ≡ false
  pub no_label : (n : List ℕ) → kind_or_end tokens from ≡ token.Name n → kind_or_end tokens (from + 1) ≡ colon → ⊥

pub run_stands : (names : Names) (tokens : List Token) (from : ℕ) → form_of names (kind_or_end tokens from) (kind_or_end tokens (from + 1)) ≡ form.Run
    → StandsRun names tokens from
run_stands names tokens from e =
    let at : (n : List ℕ) → kind_or_end tokens from ≡ token.Name n → form_of names (token.Name n) (kind_or_end tokens (from + 1)) ≡ form.Run = λ n k.
    ap (λ (t : TokenKind). form_of names t (kind_or_end tokens (from + 1))) (sym k) ∙ e in
    record {
      plain = reported_form names tokens from form.Run e;
      free = λ n k. (run_name names n (kind_or_end tokens (from + 1)) (at n k)).1;
      no_label = λ n k c. no_colon (kind_or_end tokens (from + 1)) (run_name names n (kind_or_end tokens (from + 1)) (at n k)).0 c;
    }

near_plain : (first : TokenKind) (tokens : Kinds) → begins_other_sentence first ≡ false → Near first tokens
    → (t : TokenKind) (more : Kinds) → tokens ≡ t ∷ more → begins_other_sentence t ≡ false
near_plain first tokens e near t more same =
    elim near [
      | inl none ↦ let z = sym same ∙ none in absurd cc
      | inr m ↦
          let z : t ∷ more ≡ first ∷ m.0 = sym same ∙ m.1 in
          let k : t ≡ first = cc in
          ap begins_other_sentence k ∙ e
    ]

second_colon : (fs following more : Kinds) (next : TokenKind) → (first_or fs next ≡ colon → ⊥) → Near next following
    → fs ++ following ≡ colon ∷ more → ⊥
second_colon [] following more next other near same = near_other colon next following more other near (sym same)
second_colon (g ∷ gs) following more next other near same = other cc

-- a name isn't refused as an expression if the limit allows it
no_name_refused : (names : Names) (limit : ℕ) (n : List ℕ) (deep : Bool) → 1 ≤ limit → is_among names n ≡ false
    → Refused (Closed names) limit [] (token.Name n) deep → ⊥
no_name_refused names limit n deep some free r =
    let v = r.never (Named n) [] (token.Name n ∷ semicolon ∷ []) (omega arith, free) tt (inr (semicolon ∷ [], refl)) refl in
    let h = v.high in
    omega (arith, h, some)

run_unlabelled : (names : Names) (limit : ℕ) (tokens : List Token) (from at : ℕ) (front : Kinds) (deep : Bool) → StandsRun names tokens from
    → 1 ≤ limit → Spells tokens from at (λ rest. front ++ rest) → Refused (Closed names) limit front (kind_or_end tokens at) deep
    → (following : Kinds) → Near (kind_or_end tokens at) following
    → (n : List ℕ) (more : Kinds) → front ++ following ≡ token.Name n ∷ colon ∷ more → ⊥
run_unlabelled names limit tokens from at [] deep st some here r following near n more same =
    let k = refused_here tokens from at [] here refl in
    elim near [
      | inl none ↦ let z = sym same ∙ none in cc
      | inr m ↦
          let z : token.Name n ∷ colon ∷ more ≡ kind_or_end tokens at ∷ m.0 = sym same ∙ m.1 in
          let e : kind_or_end tokens at ≡ token.Name n = cc in
          no_name_refused names limit n deep some (st.free n (sym k ∙ e)) (subst (λ (t : TokenKind). Refused (Closed names) limit [] t deep) e r)
    ]
run_unlabelled names limit tokens from at (f ∷ fs) deep st some here r following near n more same =
    let name : f ≡ token.Name n = cc in
    let k : f ≡ kind_or_end tokens from = first_front tokens from at (f ∷ fs) here in
    let s : first_or fs (kind_or_end tokens at) ≡ kind_or_end tokens (from + 1) =
    first_front tokens (from + 1) at fs (second_front tokens from at f fs here (λ a. let z = sym name ∙ a in cc)) in
    let rest : fs ++ following ≡ colon ∷ more = cc in
    second_colon fs following more (kind_or_end tokens at) (λ c. st.no_label n (sym k ∙ name) (sym s ∙ c)) near rest

run_lift : (names : Names) (limit : ℕ) (tokens : List Token) (from : ℕ) → StandsRun names tokens from
    → (front : Kinds) (at : ℕ) (deep : Bool) → Spells tokens from at (λ rest. front ++ rest)
    → Refused (Closed names) (limit - 1) front (kind_or_end tokens at) deep → Refused (Sentences names) limit front (kind_or_end tokens at) deep
run_lift names limit tokens from st front at deep here x =
    elim (cases_lt limit 2) [
      | inl full ↦
          let zero : limit - 1 ≡ 0 = omega (arith, full) in
          let x0 = subst (λ (m : ℕ). Refused (Closed names) m front (kind_or_end tokens at) deep) zero x in
          let none = little_front names front x0.begun in
          let k = refused_here tokens from at front here none in
          subst (λ (y : Kinds). Refused (Sentences names) limit y (kind_or_end tokens at) deep) (sym none)
          (little_deep names limit (kind_or_end tokens at) deep full (ap begins_other_sentence k ∙ st.plain) (λ n e. st.free n (sym k ∙ e))
          (begins_sentence (kind_or_end tokens at)) refl (subst (λ (y : Kinds). Refused (Closed names) 0 y (kind_or_end tokens at) deep) none x0))
      | inr enough ↦
          single_refused (runs_single names) limit (limit - 1) (omega (arith, enough), omega (arith, enough)) front (kind_or_end tokens at) deep
          (λ following near. record {
            plain = near_plain (kind_or_end tokens from) (front ++ following) st.plain (near_start tokens from at front here following near);
            unlabelled = run_unlabelled names (limit - 1) tokens from at front deep st (omega (arith, enough)) here x following near;
          }) x
    ]

-- an expression statement was refused
pub run_stops : (names : Names) (limit inner : ℕ) (tokens : List Token) (from : ℕ) → inner ≡ limit - 1
    → form_of names (kind_or_end tokens from) (kind_or_end tokens (from + 1)) ≡ form.Run → (s : Stop) → Stops (Closed names) inner tokens from s
    → Stops (Sentences names) limit tokens from s
run_stops names limit inner tokens from less e s r =
    let r' = subst (λ (m : ℕ). Stops (Closed names) m tokens from s) less r in
    stops_pass (Sentences names) (Closed names) limit (limit - 1) tokens from (run_lift names limit tokens from (run_stands names tokens from e)) s r'

text_run : (names : Names) (e : Written) (following : Kinds) → IsPhrase names 0 e → IsRun (text e (semicolon ∷ following))
text_run names e following is = record {
  plain = λ first more same. no_other names first (runs_first names e (semicolon ∷ following) first more is same);
  unlabelled = λ n more same. let f = name_colon e (semicolon ∷ following) n more same in let z = f.1 in cc;
}

-- it was taken
pub run_taken : (names : Names) (limit inner : ℕ) (tokens : List Token) (from : ℕ) (value : Taken RawExpr) (whole : Taken RawStmt) → inner ≡ limit - 1
    → from ≤ length tokens → IsExactly (Closed names) written inner tokens from value
    → IsNode (Runs (written value.tree)) (value.height + 1) value.next whole → IsTaken (Sentences names) statement_of limit tokens from false whole
run_taken names limit inner tokens from value whole less within v n =
    let t = subst (λ (m : ℕ). IsExactly (Closed names) written m tokens from value) less v in
    let h = t.height_is in
    let l = t.exactly.low in
    let some = expression_height (written value.tree) in
    let enough : 2 ≤ limit = omega (arith, l, some) in
    node_taken names limit tokens from (Runs (written value.tree)) (value.height + 1) value.next whole n (omega (arith, h))
    (single_stands (runs_single names) limit (limit - 1) (omega (arith, enough), omega (arith, enough)) tokens from from value.next
    (spells_none tokens from within) false (written value.tree) (λ following near. text_run names (written value.tree) following t.exactly.is_phrase)
    (exactly_stands (Closed names) (limit - 1) tokens from value.next (written value.tree)
    (exact_stands (Closed names) written (limit - 1) tokens from value t)))

ended_stands : (limit : ℕ) (tokens : List Token) (from : ℕ) → from ≤ length tokens → Standing Ended limit tokens from from false tt
ended_stands limit tokens from within = record {
  spelled = spells_none tokens from within;
  took = exact_took Ended limit tt (ended_exact limit) (kind_or_end tokens from);
}

-- no semicolon follows `continue` or `break`
jump_missing : (names : Names) (limit : ℕ) (tokens : List Token) (from : ℕ) (tree : Sentence) (s : Stop) (k : TokenKind) → 1 ≤ limit
    → kind_or_end tokens from ≡ k → IsJump k tree → (kind_or_end tokens (from + 1) ≡ semicolon → ⊥)
    → IsPlainStop scope.Block tokens (from + 1) s → Stops (Sentences names) limit tokens from s
jump_missing names limit tokens from tree s (token.Keyword keyword.Continue) some k j other is =
    let w = word_stands tokens from keyword.Continue k in
    single_stops (continue_single names) limit (limit - 1) (omega arith, omega arith) tokens from (from + 1) w (no_fits tokens (from + 1)) s
    (closed_missing Ended semicolon ended_law (λ part more. tt) (limit - 1) tokens (from + 1) (from + 1) scope.Block tt s
    (ended_stands (limit - 1) tokens (from + 1) w.within) other is)
jump_missing names limit tokens from tree s (token.Keyword keyword.Break) some k j other is =
    let w = word_stands tokens from keyword.Break k in
    single_stops (break_single names) limit (limit - 1) (omega arith, omega arith) tokens from (from + 1) w (no_fits tokens (from + 1)) s
    (closed_missing Ended semicolon ended_law (λ part more. tt) (limit - 1) tokens (from + 1) (from + 1) scope.Block tt s
    (ended_stands (limit - 1) tokens (from + 1) w.within) other is)
jump_missing names limit tokens from tree s _ some k j other is = absurd j

pub jump_stops : (names : Names) (limit : ℕ) (tokens : List Token) (from : ℕ) (tree : Sentence) (s : Stop) → 1 ≤ limit
    → IsJump (kind_or_end tokens from) tree → (kind_or_end tokens (from + 1) ≡ semicolon → ⊥) → IsPlainStop scope.Block tokens (from + 1) s
    → Stops (Sentences names) limit tokens from s
jump_stops names limit tokens from tree s some j other is = jump_missing names limit tokens from tree s (kind_or_end tokens from) some refl j other is

two_on : (from : ℕ) → from + 1 + 1 ≡ from + 2
two_on from = omega arith

-- a semicolon does
jump_there : (names : Names) (limit : ℕ) (tokens : List Token) (from : ℕ) (tree : Sentence) (whole : Taken RawStmt) (k : TokenKind) → 1 ≤ limit
    → kind_or_end tokens from ≡ k → IsJump k tree → kind_or_end tokens (from + 1) ≡ semicolon → IsNode tree 1 (from + 2) whole
    → IsTaken (Sentences names) statement_of limit tokens from false whole
jump_there names limit tokens from tree whole (token.Keyword keyword.Continue) some k j c n =
    let w = word_stands tokens from keyword.Continue k in
    let n' = subst (λ (x : Sentence). IsNode x 1 (from + 2) whole) j n in
    node_taken names limit tokens from Continue 1 (from + 2) whole n' refl
    (subst (λ (m : ℕ). Standing (Sentences names) limit tokens from m false Continue) (two_on from)
    (single_stands (continue_single names) limit (limit - 1) (omega arith, omega arith) tokens from (from + 1) (from + 1 + 1) w false tt (λ following near. tt)
    (exactly_stands (ClosedBy Ended semicolon) (limit - 1) tokens (from + 1) (from + 1 + 1) tt
    (closed_stands Ended semicolon (λ part more. tt) (λ x. cc) (limit - 1) tokens (from + 1) (from + 1) tt
    (ended_stands (limit - 1) tokens (from + 1) w.within) c))))
jump_there names limit tokens from tree whole (token.Keyword keyword.Break) some k j c n =
    let w = word_stands tokens from keyword.Break k in
    let n' = subst (λ (x : Sentence). IsNode x 1 (from + 2) whole) j n in
    node_taken names limit tokens from Break 1 (from + 2) whole n' refl
    (subst (λ (m : ℕ). Standing (Sentences names) limit tokens from m false Break) (two_on from)
    (single_stands (break_single names) limit (limit - 1) (omega arith, omega arith) tokens from (from + 1) (from + 1 + 1) w false tt (λ following near. tt)
    (exactly_stands (ClosedBy Ended semicolon) (limit - 1) tokens (from + 1) (from + 1 + 1) tt
    (closed_stands Ended semicolon (λ part more. tt) (λ x. cc) (limit - 1) tokens (from + 1) (from + 1) tt
    (ended_stands (limit - 1) tokens (from + 1) w.within) c))))
jump_there names limit tokens from tree whole _ some k j c n = absurd j

pub jump_taken : (names : Names) (limit : ℕ) (tokens : List Token) (from : ℕ) (tree : Sentence) (whole : Taken RawStmt) → 1 ≤ limit
    → IsJump (kind_or_end tokens from) tree → kind_or_end tokens (from + 1) ≡ semicolon → IsNode tree 1 (from + 2) whole
    → IsTaken (Sentences names) statement_of limit tokens from false whole
jump_taken names limit tokens from tree whole some j c n = jump_there names limit tokens from tree whole (kind_or_end tokens from) some refl j c n

-- Statements that are refused at their first token, expression statements, and names without a colon: for the contracts of every
-- parser of statements.
use Rattle.std.proofs.Common.{◌≡◌, ℕ, ◌+◌, ◌<◌, ◌≤◌, inl, inr, Bool, true, false, List, [], ◌∷◌, ◌++◌, None, refl, sym, ap}
use Rattle.std.proofs.Common.{◌∙◌, subst, arith}
use Rattle.std.proofs.lemmas.Bool.{false≢true, both_ways, not-true}
use Rattle.cs_ast.specs.declared.token.TokenKind.{TokenKind}
use Rattle.cs_ast.specs.declared.token.TokenKind.TheVariants as token
use Rattle.cs_ast.specs.declared.token.Keyword.{Keyword}
use Rattle.cs_ast.specs.declared.token.Keyword.TheVariants as keyword
use Rattle.cs_ast.specs.declared.token.Punctuator.{Punctuator}
use Rattle.cs_ast.specs.declared.token.Punctuator.TheVariants as punctuator
use Rattle.cs_ast.specs.declared.raw.operator.Step.TheVariants.{Up, Down}
use Rattle.cs_ast.specs.declared.raw.operator.PrefixOp.{PrefixOp}
use Rattle.cs_ast.specs.declared.raw.operator.PrefixOp.TheVariants as prefix
use Rattle.cs_ast.specs.RawTree.{Written, Named, Numeral, Character, Literal, Enclosed, StepBefore, Prefix, SizeOf}
use Rattle.cs_ast.specs.RawStatements.{NoFirst, Sentence, Block, Nothing, Runs, If, IfElse, While, Do, For, Switch, Goto, Continue, Break, Return, Label}
use Rattle.cs_ast.specs.RawStatements.{NoItem, NoSwitchItem}
use Rattle.cs_ast.specs.RawFileHeight.{sentence_height}
use Rattle.cs_grammar.specs.TypeWords.{Names, is_among}
use Rattle.cs_grammar.specs.Text.{Kinds, text}
use Rattle.cs_grammar.specs.Punctuators.{prefix_punctuator}
use Rattle.cs_grammar.specs.Phrases.{IsPhrase}
use Rattle.cs_grammar.specs.FirstTokens.{begins_expression, opens_expression, is_sizeof}
use Rattle.cs_grammar.specs.FileFirstTokens.{begins_sentence, punctuator_begins_sentence, keyword_begins_sentence}
use Rattle.cs_grammar.specs.FileText.{some_text, sentence_text, items_text}
use Rattle.cs_grammar.specs.FilePhrases.{IsSentence}
use Rattle.cs_grammar.specs.FileClasses.{Sentences}
use Rattle.cs_grammar.specs.Parsing.{Expressions, Near, Begins, BeginsLow, Took, Refused}
use Rattle.cs_grammar.proofs.Levels.{text_law}
use Rattle.cs_grammar.proofs.Texts.{text_append}
use Rattle.cs_grammar.proofs.FileBeginnings.{sentence_begins, some_first, first_passes}
use Rattle.cs_grammar.proofs.Holes.{ClosedBy, closed_refused, closed_wrong, closed_exact, exact_took}
use Rattle.cs_grammar.proofs.Tails.{full_refused, none_refused, near_other}
use Rattle.cs_grammar.proofs.Pairs.{single_refused, single_took}
use Rattle.cs_grammar.proofs.Statements.{semicolon, colon, word, runs_first, name_colon, begins_other_sentence, IsRun}
use Rattle.cs_grammar.proofs.StatementParts.{nought, expression_height, sentence_some, runs_single}

-- an expression that begins with this token
prefix_example : (names : Names) (op : PrefixOp) → Begins (Expressions names 0) (token.Punctuator (prefix_punctuator op) ∷ [])
prefix_example names op = record { phrase = Prefix op nought; more = text nought []; is_phrase = (omega arith, (omega arith, tt)); spelled = refl }

punctuator_example : (names : Names) (m : Punctuator) → opens_expression m ≡ true → Begins (Expressions names 0) (token.Punctuator m ∷ [])
punctuator_example names punctuator.OpenParenthesis e =
    record { phrase = Enclosed nought; more = text nought (token.Punctuator punctuator.CloseParenthesis ∷ []); is_phrase = (omega arith, tt); spelled = refl }
punctuator_example names punctuator.Increment e = record {
  phrase = StepBefore Up nought;
  more = text nought [];
  is_phrase = (omega arith, (omega arith, tt));
  spelled = refl;
}
punctuator_example names punctuator.Decrement e = record {
  phrase = StepBefore Down nought;
  more = text nought [];
  is_phrase = (omega arith, (omega arith, tt));
  spelled = refl;
}
punctuator_example names punctuator.Ampersand e = prefix_example names prefix.Address
punctuator_example names punctuator.Star e = prefix_example names prefix.Through
punctuator_example names punctuator.Plus e = prefix_example names prefix.Plus
punctuator_example names punctuator.Minus e = prefix_example names prefix.Minus
punctuator_example names punctuator.Tilde e = prefix_example names prefix.Complement
punctuator_example names punctuator.Exclamation e = prefix_example names prefix.Not
punctuator_example names _ e = absurd cc

keyword_example : (names : Names) (k : Keyword) → is_sizeof k ≡ true → Begins (Expressions names 0) (token.Keyword k ∷ [])
keyword_example names keyword.Sizeof e = record { phrase = SizeOf nought; more = text nought []; is_phrase = (omega arith, (omega arith, tt)); spelled = refl }
keyword_example names _ e = absurd cc

pub expression_example : (names : Names) (t : TokenKind) → begins_expression names t ≡ true → Begins (Expressions names 0) (t ∷ [])
expression_example names (token.Name n) e = record { phrase = Named n; more = []; is_phrase = (omega arith, not-true (is_among names n) e); spelled = refl }
expression_example names (token.Number n) e = record { phrase = Numeral n; more = []; is_phrase = (omega arith, tt); spelled = refl }
expression_example names (token.Character v) e = record { phrase = Character v; more = []; is_phrase = (omega arith, tt); spelled = refl }
expression_example names (token.Text b) e = record { phrase = Literal b; more = []; is_phrase = (omega arith, tt); spelled = refl }
expression_example names (token.Punctuator m) e = punctuator_example names m e
expression_example names (token.Keyword k) e = keyword_example names k e
expression_example names (token.Unsupported w) e = absurd cc
expression_example names token.Attribute e = absurd cc

-- an expression statement that begins with this token
run_example : (names : Names) (t : TokenKind) → begins_expression names t ≡ true → Begins (Sentences names) (t ∷ [])
run_example names t e =
    let b = expression_example names t e in
    record {
      phrase = Runs b.phrase;
      more = b.more ++ semicolon ∷ [];
      is_phrase = b.is_phrase;
      spelled = sym (text_append b.phrase [] (semicolon ∷ [])) ∙ ap (λ (x : Kinds). x ++ semicolon ∷ []) b.spelled;
    }

made_example : (names : Names) (t : TokenKind) (s : Sentence) (more : Kinds) → IsSentence names s → sentence_text s [] ≡ t ∷ more
    → Begins (Sentences names) (t ∷ [])
made_example names t s more is same = record { phrase = s; more = more; is_phrase = is; spelled = same }

punctuator_sentence : (names : Names) (m : Punctuator) → punctuator_begins_sentence m ≡ true → Begins (Sentences names) (token.Punctuator m ∷ [])
punctuator_sentence names punctuator.OpenBrace e =
    made_example names (token.Punctuator punctuator.OpenBrace) (Block NoItem) (token.Punctuator punctuator.CloseBrace ∷ []) tt refl
punctuator_sentence names punctuator.Semicolon e = made_example names semicolon Nothing [] tt refl
punctuator_sentence names punctuator.OpenParenthesis e = run_example names (token.Punctuator punctuator.OpenParenthesis) refl
punctuator_sentence names punctuator.Increment e = run_example names (token.Punctuator punctuator.Increment) refl
punctuator_sentence names punctuator.Decrement e = run_example names (token.Punctuator punctuator.Decrement) refl
punctuator_sentence names punctuator.Ampersand e = run_example names (token.Punctuator punctuator.Ampersand) refl
punctuator_sentence names punctuator.Star e = run_example names (token.Punctuator punctuator.Star) refl
punctuator_sentence names punctuator.Plus e = run_example names (token.Punctuator punctuator.Plus) refl
punctuator_sentence names punctuator.Minus e = run_example names (token.Punctuator punctuator.Minus) refl
punctuator_sentence names punctuator.Tilde e = run_example names (token.Punctuator punctuator.Tilde) refl
punctuator_sentence names punctuator.Exclamation e = run_example names (token.Punctuator punctuator.Exclamation) refl
punctuator_sentence names _ e = absurd cc

keyword_sentence : (names : Names) (k : Keyword) → keyword_begins_sentence k ≡ true → Begins (Sentences names) (token.Keyword k ∷ [])
keyword_sentence names keyword.Break e = record { phrase = Break; more = semicolon ∷ []; is_phrase = tt; spelled = refl }
keyword_sentence names keyword.Continue e = record { phrase = Continue; more = semicolon ∷ []; is_phrase = tt; spelled = refl }
keyword_sentence names keyword.Goto e = record { phrase = Goto []; more = token.Name [] ∷ semicolon ∷ []; is_phrase = tt; spelled = refl }
keyword_sentence names keyword.Return e = record { phrase = Return None; more = semicolon ∷ []; is_phrase = tt; spelled = refl }
keyword_sentence names keyword.Sizeof e = run_example names (word keyword.Sizeof) refl
keyword_sentence names keyword.If e =
    record {
      phrase = If nought Nothing;
      more = token.Punctuator punctuator.OpenParenthesis ∷ text nought (token.Punctuator punctuator.CloseParenthesis ∷ semicolon ∷ []);
      is_phrase = ((omega arith, tt), tt);
      spelled = refl;
    }
keyword_sentence names keyword.While e =
    record {
      phrase = While nought Nothing;
      more = token.Punctuator punctuator.OpenParenthesis ∷ text nought (token.Punctuator punctuator.CloseParenthesis ∷ semicolon ∷ []);
      is_phrase = ((omega arith, tt), tt);
      spelled = refl;
    }
keyword_sentence names keyword.Do e =
    record {
      phrase = Do Nothing nought;
      more = semicolon ∷ word keyword.While ∷ token.Punctuator punctuator.OpenParenthesis
          ∷ text nought (token.Punctuator punctuator.CloseParenthesis ∷ semicolon ∷ []);
      is_phrase = (tt, (omega arith, tt));
      spelled = refl;
    }
keyword_sentence names keyword.For e =
    record {
      phrase = For NoFirst None None Nothing;
      more = token.Punctuator punctuator.OpenParenthesis ∷ semicolon ∷ semicolon ∷ token.Punctuator punctuator.CloseParenthesis ∷ semicolon ∷ [];
      is_phrase = (tt, tt, tt, tt);
      spelled = refl;
    }
keyword_sentence names keyword.Switch e =
    record {
      phrase = Switch nought NoSwitchItem;
      more = token.Punctuator punctuator.OpenParenthesis ∷ text nought
          (token.Punctuator punctuator.CloseParenthesis ∷ token.Punctuator punctuator.OpenBrace ∷ token.Punctuator punctuator.CloseBrace ∷ []);
      is_phrase = ((omega arith, tt), tt);
      spelled = refl;
    }
keyword_sentence names _ e = absurd cc

-- a statement that begins with this token
pub sentence_example : (names : Names) (t : TokenKind) → begins_sentence t ≡ true → Begins (Sentences names) (t ∷ [])
sentence_example names (token.Name n) e = record { phrase = Label n Nothing; more = colon ∷ semicolon ∷ []; is_phrase = tt; spelled = refl }
sentence_example names (token.Number n) e = run_example names (token.Number n) refl
sentence_example names (token.Character v) e = run_example names (token.Character v) refl
sentence_example names (token.Text b) e = run_example names (token.Text b) refl
sentence_example names (token.Punctuator m) e = punctuator_sentence names m e
sentence_example names (token.Keyword k) e = keyword_sentence names k e
sentence_example names (token.Unsupported w) e = absurd cc
sentence_example names token.Attribute e = absurd cc

-- a statement has at least one token
pub sentence_has : (names : Names) (s : Sentence) (after : Kinds) → IsSentence names s → sentence_text s after ≡ [] → ⊥
sentence_has names s after is same = some_first begins_sentence (sentence_text s after) (sentence_begins names s after is) same

-- no statement begins with the token
pub sentence_not : (names : Names) (limit : ℕ) (next : TokenKind) → begins_sentence next ≡ false → Refused (Sentences names) limit [] next false
sentence_not names limit next e =
    none_refused (Sentences names) limit next (sentence_has names)
    (λ s after more is same. false≢true (sym e ∙ first_passes begins_sentence (sentence_text s after) next more (sentence_begins names s after is) same))

-- the limit doesn't allow a statement
pub sentence_none : (names : Names) (limit : ℕ) (next : TokenKind) → limit < 1 → begins_sentence next ≡ true
    → Refused (Sentences names) limit [] next true
sentence_none names limit next full e =
    full_refused (Sentences names) limit next (sentence_has names) (λ s after more is same. let h = sentence_some s in omega (arith, h, full))
    (sentence_example names next e)

-- the token begins a statement without an expression or statement inside
abbrev pub begins_low : TokenKind → Bool
begins_low (token.Punctuator punctuator.OpenBrace) = true
begins_low (token.Punctuator punctuator.Semicolon) = true
begins_low (token.Keyword keyword.Goto) = true
begins_low (token.Keyword keyword.Continue) = true
begins_low (token.Keyword keyword.Break) = true
begins_low (token.Keyword keyword.Return) = true
begins_low other = false

not_low : (first t : TokenKind) (rest more : Kinds) → first ∷ rest ≡ t ∷ more → begins_low t ≡ false → begins_low first ≡ true → ⊥
not_low first t rest more same e l = let k : first ≡ t = cc in false≢true (sym e ∙ ap begins_low (sym k) ∙ l)

pub two_high : (names : Names) (s : Sentence) (after : Kinds) (t : TokenKind) (more : Kinds) → sentence_text s after ≡ t ∷ more → begins_low t ≡ false
    → 2 ≤ sentence_height s
two_high names (Runs e) after t more same l = let h = expression_height e in omega (arith, h)
two_high names (If e b) after t more same l = let h = expression_height e in omega (arith, h)
two_high names (IfElse e b o) after t more same l = let h = expression_height e in omega (arith, h)
two_high names (While e b) after t more same l = let h = expression_height e in omega (arith, h)
two_high names (Do b e) after t more same l = let h = expression_height e in omega (arith, h)
two_high names (For f e k b) after t more same l = let h = sentence_some b in omega (arith, h)
two_high names (Switch e i) after t more same l = let h = expression_height e in omega (arith, h)
two_high names (Label n b) after t more same l = let h = sentence_some b in omega (arith, h)
two_high names (Block i) after t more same l =
    absurd (not_low (token.Punctuator punctuator.OpenBrace) t (items_text i (token.Punctuator punctuator.CloseBrace ∷ after)) more same l refl)
two_high names Nothing after t more same l = absurd (not_low semicolon t after more same l refl)
two_high names (Goto n) after t more same l = absurd (not_low (word keyword.Goto) t (token.Name n ∷ semicolon ∷ after) more same l refl)
two_high names Continue after t more same l = absurd (not_low (word keyword.Continue) t (semicolon ∷ after) more same l refl)
two_high names Break after t more same l = absurd (not_low (word keyword.Break) t (semicolon ∷ after) more same l refl)
two_high names (Return v) after t more same l = absurd (not_low (word keyword.Return) t (some_text v (semicolon ∷ after)) more same l refl)

-- the limit allows only a statement without parts, and the token begins none
pub sentence_low : (names : Names) (limit : ℕ) (next : TokenKind) → limit < 2 → begins_sentence next ≡ true → begins_low next ≡ false
    → Refused (Sentences names) limit [] next true
sentence_low names limit next full e l =
    full_refused (Sentences names) limit next (sentence_has names)
    (λ s after more is same. let h = two_high names s after next more same l in omega (arith, h, full)) (sentence_example names next e)

other_punctuator : (m : Punctuator) → opens_expression m ≡ true → begins_other_sentence (token.Punctuator m) ≡ false
other_punctuator punctuator.OpenBrace e = absurd cc
other_punctuator punctuator.Semicolon e = absurd cc
other_punctuator _ e = refl

other_word : (k : Keyword) → is_sizeof k ≡ true → begins_other_sentence (token.Keyword k) ≡ false
other_word keyword.Sizeof e = refl
other_word _ e = absurd cc

-- a token that begins an expression begins no other statement
pub no_other : (names : Names) (t : TokenKind) → begins_expression names t ≡ true → begins_other_sentence t ≡ false
no_other names (token.Name n) e = refl
no_other names (token.Number n) e = refl
no_other names (token.Character v) e = refl
no_other names (token.Text b) e = refl
no_other names (token.Punctuator m) e = other_punctuator m e
no_other names (token.Keyword k) e = other_word k e
no_other names (token.Unsupported w) e = absurd cc
no_other names token.Attribute e = absurd cc

-- the next token begins no other statement and isn't a name
pub record IsPlainNext (next : TokenKind) : Type 0 where
  pub plain : begins_other_sentence next ≡ false
  pub no_name : (n : List ℕ) → next ≡ token.Name n → ⊥

run_none : (next : TokenKind) (following : Kinds) → IsPlainNext next → Near next following → IsRun following
run_none next following p near = record {
  plain = λ first more same.
      elim near [
        | inl none ↦ let z = sym same ∙ none in absurd cc
        | inr m ↦
            let z : first ∷ more ≡ next ∷ m.0 = sym same ∙ m.1 in
            let k : first ≡ next = cc in
            ap begins_other_sentence k ∙ p.plain
      ];
  unlabelled = λ n more same.
      elim near [
        | inl none ↦ let z = sym same ∙ none in cc
        | inr m ↦ let z : token.Name n ∷ colon ∷ more ≡ next ∷ m.0 = sym same ∙ m.1 in p.no_name n cc
      ];
}

second_colon : (names : Names) (limit : ℕ) (n : List ℕ) (g : TokenKind) (gs : Kinds) → BeginsLow (Expressions names 0) limit (token.Name n ∷ g ∷ gs)
    → g ≡ colon → ⊥
second_colon names limit n g gs b e =
    let s : text b.phrase [] ≡ token.Name n ∷ colon ∷ (gs ++ b.more) = b.spelled ∙ ap (λ (x : TokenKind). token.Name n ∷ x ∷ (gs ++ b.more)) e in
    let f = name_colon b.phrase [] n (gs ++ b.more) s in
    let z = f.1 in
    cc

run_label : (names : Names) (limit : ℕ) (f : TokenKind) (fs following : Kinds) (next : TokenKind) (n : List ℕ) (more : Kinds)
    → BeginsLow (Expressions names 0) limit (f ∷ fs) → (fs ≡ [] → next ≡ colon → ⊥) → Near next following
    → f ∷ (fs ++ following) ≡ token.Name n ∷ colon ∷ more → ⊥
run_label names limit f [] following next n more b other near same = near_other colon next following more (other refl) near cc
run_label names limit f (g ∷ gs) following next n more b other near same =
    let k : f ≡ token.Name n = cc in
    second_colon names limit n g gs (subst (λ (x : TokenKind). BeginsLow (Expressions names 0) limit (x ∷ g ∷ gs)) k b) cc

-- the tokens of a refused expression begin no other statement and no label
run_fits : (names : Names) (limit : ℕ) (front : Kinds) (next : TokenKind) (deep : Bool) → (front ≡ [] → IsPlainNext next)
    → ((n : List ℕ) → front ≡ token.Name n ∷ [] → next ≡ colon → ⊥) → Refused (Expressions names 0) limit front next deep
    → (following : Kinds) → Near next following → IsRun (front ++ following)
run_fits names limit [] next deep p other r following near = run_none next following (p refl) near
run_fits names limit (f ∷ fs) next deep p other r following near =
    elim r.begun [
      | inl none ↦ absurd cc
      | inr b ↦ record {
        plain = λ first more same.
            let k : f ≡ first = cc in
            no_other names first (ap (begins_expression names) (sym k) ∙ runs_first names b.phrase [] f (fs ++ b.more) b.is_phrase b.spelled);
        unlabelled = λ n more same.
            let k : f ≡ token.Name n = cc in
            run_label names limit f fs following next n more b (λ none. other n (ap (λ (x : Kinds). f ∷ x) none ∙ ap (λ (x : TokenKind). x ∷ []) k))
            near same;
      }
    ]

-- the expression of a statement was refused
pub runs_refused : (names : Names) (limit inner : ℕ) → limit ≡ 1 + inner → 1 ≤ inner
    → (front : Kinds) (next : TokenKind) (deep : Bool) → (front ≡ [] → IsPlainNext next)
    → ((n : List ℕ) → front ≡ token.Name n ∷ [] → next ≡ colon → ⊥) → Refused (Expressions names 0) inner front next deep
    → Refused (Sentences names) limit front next deep
runs_refused names limit inner less some front next deep p other r =
    single_refused (runs_single names) limit inner (less, some) front next deep (run_fits names inner front next deep p other r)
    (closed_refused (Expressions names 0) semicolon inner (text_law names 0) (λ part more. omega arith) front next deep r)

text_run : (names : Names) (e : Written) (x following : Kinds) → IsPhrase names 0 e
    → ((n : List ℕ) (more : Kinds) → e ≡ Named n → x ≡ colon ∷ more → ⊥) → IsRun (text e x)
text_run names e x following is other = record {
  plain = λ first more same. no_other names first (runs_first names e x first more is same);
  unlabelled = λ n more same. let f = name_colon e x n more same in other n more f.0 f.1;
}

-- the expression was taken, and no semicolon follows it
pub runs_wrong : (names : Names) (limit inner : ℕ) → limit ≡ 1 + inner → 1 ≤ inner
    → (e : Written) (next : TokenKind) (deep : Bool) → Took (Expressions names 0) inner e next deep → (next ≡ semicolon → ⊥)
    → ((n : List ℕ) → e ≡ Named n → next ≡ colon → ⊥) → Refused (Sentences names) limit (text e []) next deep
runs_wrong names limit inner less some e next deep t other label =
    single_refused (runs_single names) limit inner (less, some) (text e []) next deep
    (λ following near.
    subst IsRun (sym (text_append e [] following))
    (text_run names e following following t.is_phrase (λ n more same c. near_other colon next following more (label n same) near (sym c))))
    (closed_wrong (Expressions names 0) semicolon inner (text_law names 0) (λ part more. omega arith) e next deep t other)

-- an expression statement was taken
pub runs_took : (names : Names) (limit inner : ℕ) → limit ≡ 1 + inner → 1 ≤ inner
    → (e : Written) (deep : Bool) (next : TokenKind) → Took (Expressions names 0) inner e semicolon deep
    → Took (Sentences names) limit (Runs e) next false
runs_took names limit inner less some e deep next t =
    single_took (runs_single names) limit inner (less, some) e next false
    (λ following near. text_run names e (semicolon ∷ following) following t.is_phrase (λ n more same c. cc))
    (exact_took (ClosedBy (Expressions names 0) semicolon) inner e (closed_exact (Expressions names 0) semicolon inner (λ part more. omega arith) e deep t)
    next)

lone_never : (names : Names) (n : List ℕ) (next : TokenKind) → is_among names n ≡ true → (next ≡ colon → ⊥)
    → (other : Sentence) (after following : Kinds) → IsSentence names other → Near next following
    → sentence_text other after ≡ token.Name n ∷ following → ⊥
lone_never names n next among no_colon (Runs e) after following is near same =
    let f = runs_first names e (semicolon ∷ after) (token.Name n) following is same in
    both_ways (is_among names n) (not-true (is_among names n) f) among
lone_never names n next among no_colon (Label m b) after following is near same = near_other colon next following (sentence_text b after) no_colon near cc
lone_never names n next among no_colon _ after following is near same = cc

-- a typedef name begins a statement only as a label
pub lone_refused : (names : Names) (limit : ℕ) (n : List ℕ) (next : TokenKind) → 2 ≤ limit → is_among names n ≡ true → (next ≡ colon → ⊥)
    → Refused (Sentences names) limit (token.Name n ∷ []) next false
lone_refused names limit n next some among no_colon = record {
  begun = inr (record { phrase = Label n Nothing; more = colon ∷ semicolon ∷ []; is_phrase = tt; low = omega (arith, some); spelled = refl });
  never = λ other after following is shut near same. absurd (lone_never names n next among no_colon other after following is near same);
  further = λ reported. absurd (false≢true reported);
}

-- Returns of functions that parse statements: for the contracts of every parser of statements.
use Rattle.std.proofs.Common.{◌≡◌, ℕ, ◌+◌, ◌≤◌, inl, inr, Bool, true, false, [], ◌∷◌, ◌++◌, Option, Some, None, refl, sym, ap}
use Rattle.std.proofs.Common.{◌∙◌, subst, arith}
use Rattle.std.proofs.lemmas.Bool.{false≢true, both_ways, false_from_ne_true}
use Rattle.cs_ast.specs.declared.token.TokenKind.{TokenKind}
use Rattle.cs_ast.specs.declared.token.TokenKind.TheVariants as token
use Rattle.cs_ast.specs.declared.token.Keyword.TheVariants as keyword
use Rattle.cs_ast.specs.RawTree.{Written}
use Rattle.cs_ast.specs.RawStatements.{First, Sentence, Block, Nothing, Runs, If, IfElse, While, Do, For, Switch, Goto, Continue, Break, Return, Label}
use Rattle.cs_grammar.specs.TypeWords.{Names}
use Rattle.cs_grammar.specs.Text.{Kinds, text}
use Rattle.cs_grammar.specs.Phrases.{IsPhrase}
use Rattle.cs_grammar.specs.FileText.{test_text, some_text, first_text, sentence_text}
use Rattle.cs_grammar.specs.FilePhrases.{is_open, IsSentence}
use Rattle.cs_grammar.specs.FileClasses.{Tests, Firsts, Sentences, Branch, branch_text, Branches, IsBranch, HasNoElse}
use Rattle.cs_grammar.specs.Parsing.{Class, Expressions, Near, IsOver, Took, Refused, Exactly}
use Rattle.cs_grammar.specs.Composed.{Sequence}
use Rattle.cs_grammar.proofs.Levels.{text_law}
use Rattle.cs_grammar.proofs.FileTexts.{sentence_append}
use Rattle.cs_grammar.proofs.Holes.{Lawful, Tail, ClosedBy, closed_law, closed_refused, closed_wrong, closed_exact, tail_refused, tail_took}
use Rattle.cs_grammar.proofs.Tails.{Least, near_other}
use Rattle.cs_grammar.proofs.Sequences.{sequence_law, sequence_least, after_law, after_least, closed_least, after_tail, after_wrong, first_refused}
use Rattle.cs_grammar.proofs.Sequences.{exact_then_refused, exact_then_took, made_refused, made_took}
use Rattle.cs_grammar.proofs.Optional.{some_law, some_least}
use Rattle.cs_grammar.proofs.Pairs.{pair_took}
use Rattle.cs_grammar.proofs.Statements.{open_parenthesis, close_parenthesis, semicolon, colon, word, SomeBefore, ForParts, for_production}
use Rattle.cs_grammar.proofs.StatementParts.{sentence_some, expression_least, sentences_least, firsts_least, sentences_law, firsts_law, if_pair}

-- an expression between parentheses: the next token isn't a parenthesis
pub tests_missing : (names : Names) (limit : ℕ) (next : TokenKind) → (next ≡ open_parenthesis → ⊥) → Refused (Tests names) limit [] next false
tests_missing names limit next other = after_wrong open_parenthesis (ClosedBy (Expressions names 0) close_parenthesis) limit next other

test_tail : (names : Names) (limit : ℕ) → 1 ≤ limit
    → Tail (Tests names) (ClosedBy (Expressions names 0) close_parenthesis) limit limit (open_parenthesis ∷ []) (λ d. d) (λ rest. Unit {0})
test_tail names limit some = after_tail open_parenthesis (ClosedBy (Expressions names 0) close_parenthesis) limit
    (closed_least (Expressions names 0) close_parenthesis (expression_least names 0 (omega arith))) some

closed_test_law : (names : Names) → Lawful (ClosedBy (Expressions names 0) close_parenthesis)
closed_test_law names = closed_law (Expressions names 0) close_parenthesis (text_law names 0)

-- the expression was refused
pub tests_refused : (names : Names) (limit : ℕ) → 1 ≤ limit
    → (front : Kinds) (next : TokenKind) (deep : Bool) → Refused (Expressions names 0) limit front next deep
    → Refused (Tests names) limit (open_parenthesis ∷ front) next deep
tests_refused names limit some front next deep r =
    tail_refused (Tests names) (ClosedBy (Expressions names 0) close_parenthesis) limit limit (open_parenthesis ∷ []) (λ d. d) (λ rest. Unit {0})
    (closed_test_law names) (test_tail names limit some) front next deep (λ following near. tt)
    (closed_refused (Expressions names 0) close_parenthesis limit (text_law names 0) (λ part more. omega arith) front next deep r)

-- no parenthesis follows the expression
pub tests_wrong : (names : Names) (limit : ℕ) → 1 ≤ limit
    → (e : Written) (next : TokenKind) (deep : Bool) → Took (Expressions names 0) limit e next deep → (next ≡ close_parenthesis → ⊥)
    → Refused (Tests names) limit (open_parenthesis ∷ text e []) next deep
tests_wrong names limit some e next deep t other =
    tail_refused (Tests names) (ClosedBy (Expressions names 0) close_parenthesis) limit limit (open_parenthesis ∷ []) (λ d. d) (λ rest. Unit {0})
    (closed_test_law names) (test_tail names limit some) (text e []) next deep (λ following near. tt)
    (closed_wrong (Expressions names 0) close_parenthesis limit (text_law names 0) (λ part more. omega arith) e next deep t other)

-- both parentheses and the expression were taken
pub tests_exact : (names : Names) (limit : ℕ) → (e : Written) (deep : Bool) → Took (Expressions names 0) limit e close_parenthesis deep
    → Exactly (Tests names) limit e
tests_exact names limit e deep t =
    let x = closed_exact (Expressions names 0) close_parenthesis limit (λ part more. omega arith) e deep t in
    record { is_phrase = x.is_phrase; low = x.low; exact = λ other after following is same. x.exact other after following is cc }

-- the statement, with an `else` and an empty statement inside
pub record Grown (names : Names) (s : Sentence) : Type 0 where
  pub other : Sentence
  pub is_sentence : IsSentence names other
  pub spelled : (x : Kinds) → sentence_text other x ≡ sentence_text s (word keyword.Else ∷ semicolon ∷ x)

grown_if : (names : Names) (t : Written) (b : Sentence) (o : Bool) → is_open b ≡ o → IsPhrase names 0 t → IsSentence names b
    → (is_open b ≡ true → Grown names b) → Grown names (If t b)
grown_if names t b false e it ib h = record { other = IfElse t b Nothing; is_sentence = (it, e, ib, tt); spelled = λ x. refl }
grown_if names t b true e it ib h =
    let g = h e in
    record { other = If t g.other; is_sentence = (it, g.is_sentence); spelled = λ x. ap (λ (r : Kinds). word keyword.If ∷ test_text t r) (g.spelled x) }

-- an open statement can take an `else`
pub takes_else : (names : Names) (s : Sentence) → IsSentence names s → is_open s ≡ true → Grown names s
takes_else names (If t b) is e = grown_if names t b (is_open b) refl is.0 is.1 (λ o. takes_else names b is.1 o)
takes_else names (IfElse t b o) is e =
    let g = takes_else names o is.3 e in
    record {
      other = IfElse t b g.other;
      is_sentence = (is.0, is.1, is.2, g.is_sentence);
      spelled = λ x. ap (λ (r : Kinds). word keyword.If ∷ test_text t (sentence_text b (word keyword.Else ∷ r))) (g.spelled x);
    }
takes_else names (While t b) is e =
    let g = takes_else names b is.1 e in
    record {
      other = While t g.other;
      is_sentence = (is.0, g.is_sentence);
      spelled = λ x. ap (λ (r : Kinds). word keyword.While ∷ test_text t r) (g.spelled x);
    }
takes_else names (For f t l b) is e =
    let g = takes_else names b is.3 e in
    record {
      other = For f t l g.other;
      is_sentence = (is.0, is.1, is.2, g.is_sentence);
      spelled =
          λ x. ap (λ (r : Kinds). word keyword.For ∷ open_parenthesis ∷ first_text f (some_text t (semicolon ∷ some_text l (close_parenthesis ∷ r))))
          (g.spelled x);
    }
takes_else names (Label n b) is e =
    let g = takes_else names b is e in
    record { other = Label n g.other; is_sentence = g.is_sentence; spelled = λ x. ap (λ (r : Kinds). token.Name n ∷ colon ∷ r) (g.spelled x) }
takes_else names (Block i) is e = absurd (false≢true e)
takes_else names Nothing is e = absurd (false≢true e)
takes_else names (Runs x) is e = absurd (false≢true e)
takes_else names (Do b t) is e = absurd (false≢true e)
takes_else names (Switch v i) is e = absurd (false≢true e)
takes_else names (Goto n) is e = absurd (false≢true e)
takes_else names Continue is e = absurd (false≢true e)
takes_else names Break is e = absurd (false≢true e)
takes_else names (Return v) is e = absurd (false≢true e)

-- a statement that was taken before an `else` isn't open
pub before_else : (names : Names) (limit : ℕ) (s : Sentence) → Took (Sentences names) limit s (word keyword.Else) false → is_open s ≡ false
before_else names limit s t =
    false_from_ne_true (is_open s)
    (λ o.
    let g = takes_else names s t.is_phrase o in
    elim (t.only g.other [] (word keyword.Else ∷ semicolon ∷ []) g.is_sentence (λ k. tt) (inr (semicolon ∷ [], refl)) (g.spelled [])) [
      | inl e ↦ let z = e.1 in cc
      | inr over ↦ false≢true over.reported
    ])

abbrev branch : Sentence → Option Sentence → Branch
branch b o = (b, o)

branch_never : (names : Names) (limit : ℕ) (front : Kinds) (next : TokenKind) (deep : Bool) → Refused (Sentences names) limit front next deep
    → (b : Sentence) (o : Option Sentence) (after following : Kinds) → IsBranch names b o → (Branches names).Shut (b, o) after → Near next following
    → branch_text b o after ≡ front ++ following → IsOver (Branches names) limit deep (b, o) following
branch_never names limit front next deep r b None after following is shut near same =
    let v = r.never b after following is (λ k. shut) near same in
    record { reported = v.reported; high = v.high; onward = v.onward }
branch_never names limit front next deep r b (Some o) after following is shut near same =
    let v = r.never b (word keyword.Else ∷ sentence_text o after) following is.1 (λ k. both_ways (is_open b) is.0 k) near same in
    record { reported = v.reported; high = let h = v.high in omega (arith, h); onward = v.onward }

-- the statement of an `if` was refused
pub branch_refused : (names : Names) (limit : ℕ) (front : Kinds) (next : TokenKind) (deep : Bool) → Refused (Sentences names) limit front next deep
    → Refused (Branches names) limit front next deep
branch_refused names limit front next deep r = record {
  begun = elim r.begun [
    | inl none ↦ inl none
    | inr b ↦ inr (record { phrase = (b.phrase, None); more = b.more; is_phrase = b.is_phrase; low = b.low; spelled = b.spelled })
  ];
  never = λ other after following is shut near same. branch_never names limit front next deep r other.0 other.1 after following is shut near same;
  further = λ reported. let b = r.further reported in record { phrase = (b.phrase, None); more = b.more; is_phrase = b.is_phrase; spelled = b.spelled };
}

alone_only : (names : Names) (limit : ℕ) (s : Sentence) (next : TokenKind) → Took (Sentences names) limit s next false
    → (next ≡ word keyword.Else → ⊥) → (b : Sentence) (o : Option Sentence) (after following : Kinds) → IsBranch names b o
    → (Branches names).Shut (b, o) after → Near next following → branch_text b o after ≡ sentence_text s following
    → (branch b o ≡ branch s None) × (after ≡ following)
alone_only names limit s next t other b None after following is shut near same =
    elim (t.only b after following is (λ k. shut) near same) [
      | inl e ↦ (ap (λ (x : Sentence). branch x None) e.0, e.1)
      | inr over ↦ absurd (false≢true over.reported)
    ]
alone_only names limit s next t other b (Some o) after following is shut near same =
    elim (t.only b (word keyword.Else ∷ sentence_text o after) following is.1 (λ k. both_ways (is_open b) is.0 k) near same) [
      | inl e ↦ absurd (near_other (word keyword.Else) next following (sentence_text o after) other near e.1)
      | inr over ↦ absurd (false≢true over.reported)
    ]

-- the statement of an `if` was taken, and no `else` follows it
pub branch_alone : (names : Names) (limit : ℕ) (s : Sentence) (next : TokenKind) → Took (Sentences names) limit s next false
    → (next ≡ word keyword.Else → ⊥) → Took (Branches names) limit (s, None) next false
branch_alone names limit s next t other = record {
  is_phrase = t.is_phrase;
  low = t.low;
  only = λ whole after following is shut near same. inl (alone_only names limit s next t other whole.0 whole.1 after following is shut near same);
  further = λ reported. absurd (false≢true reported);
  joined = λ reported more shut. false≢true reported;
}

else_invert : (names : Names) (limit : ℕ) (s : Sentence) → Took (Sentences names) limit s (word keyword.Else) false
    → (b : Sentence) (o : Option Sentence) (after following : Kinds) → IsBranch names b o → (Branches names).Shut (b, o) after
    → branch_text b o after ≡ sentence_text s (word keyword.Else ∷ following)
    → (part : Sentence) × (branch b o ≡ branch s (Some part)) × IsSentence names part × (following ≡ sentence_text part after)
else_invert names limit s t b None after following is shut same =
    absurd (elim (t.only b after (word keyword.Else ∷ following) is (λ k. shut) (inr (following, refl)) same) [
      | inl e ↦ subst HasNoElse e.1 shut
      | inr over ↦ false≢true over.reported
    ])
else_invert names limit s t b (Some o) after following is shut same =
    elim (t.only b (word keyword.Else ∷ sentence_text o after) (word keyword.Else ∷ following) is.1 (λ k. both_ways (is_open b) is.0 k)
    (inr (following, refl)) same) [
      | inl e ↦ let k = e.1 in (o, ap (λ (x : Sentence). branch x (Some o)) e.0, is.2, cc)
      | inr over ↦ absurd (false≢true over.reported)
    ]

-- the statement of an `if` was taken, and an `else` follows it
pub branch_else : (names : Names) (limit : ℕ) (s : Sentence) → Took (Sentences names) limit s (word keyword.Else) false
    → Tail (Branches names) (Sentences names) limit limit (sentence_text s (word keyword.Else ∷ [])) (λ other. (s, Some other)) (λ rest. Unit {0})
branch_else names limit s t =
    let closed = before_else names limit s t in
    let low' = t.low in
    let some = sentence_some s in
    record {
      started = inr (record {
        phrase = (s, Some Nothing);
        more = semicolon ∷ [];
        is_phrase = (closed, t.is_phrase, tt);
        low = omega (arith, low', some);
        spelled = sym (sentence_append s (word keyword.Else ∷ []) (semicolon ∷ []));
      });
      invert = λ whole after following is shut fit same. else_invert names limit s t whole.0 whole.1 after following is shut
          (same ∙ sentence_append s (word keyword.Else ∷ []) following);
      shut = λ part after shut. shut;
      spelled = λ part after. sym (sentence_append s (word keyword.Else ∷ []) (sentence_text part after));
      is_phrase = λ part is. (closed, t.is_phrase, is);
      low = λ part is low. omega (arith, low', low);
      rises = λ part high. omega (arith, high);
    }

-- the statement after an `else` was refused
pub branch_other_refused : (names : Names) (limit : ℕ) (s : Sentence) → Took (Sentences names) limit s (word keyword.Else) false
    → (front : Kinds) (next : TokenKind) (deep : Bool) → Refused (Sentences names) limit front next deep
    → Refused (Branches names) limit (sentence_text s (word keyword.Else ∷ []) ++ front) next deep
branch_other_refused names limit s t front next deep r =
    tail_refused (Branches names) (Sentences names) limit limit (sentence_text s (word keyword.Else ∷ [])) (λ other. (s, Some other)) (λ rest. Unit {0})
    (sentences_law names) (branch_else names limit s t) front next deep (λ following near. tt) r

-- the statement after an `else` was taken
pub branch_other_took : (names : Names) (limit : ℕ) (s : Sentence) → Took (Sentences names) limit s (word keyword.Else) false
    → (other : Sentence) (next : TokenKind) (deep : Bool) → Took (Sentences names) limit other next deep
    → Took (Branches names) limit (s, Some other) next deep
branch_other_took names limit s t other next deep t' =
    tail_took (Branches names) (Sentences names) limit limit (sentence_text s (word keyword.Else ∷ [])) (λ other. (s, Some other)) (λ rest. Unit {0})
    (sentences_law names) (branch_else names limit s t) other next deep (λ following near. tt) t'

-- `if ( e ) s`, with no `else` after it
pub if_took : (names : Names) (limit inner : ℕ) → (limit ≡ 1 + inner) → 1 ≤ inner → (e : Written) → Exactly (Tests names) inner e
    → (s : Sentence) (next : TokenKind) → Took (Sentences names) inner s next false → (next ≡ word keyword.Else → ⊥)
    → Took (Sentences names) limit (If e s) next false
if_took names limit inner less some e x s next t other =
    pair_took (if_pair names) limit inner (less, some, some) e x (s, None) next false (branch_alone names inner s next t other)

-- `if ( e ) s else o`
pub if_else_took : (names : Names) (limit inner : ℕ) → (limit ≡ 1 + inner) → 1 ≤ inner → (e : Written) → Exactly (Tests names) inner e
    → (s : Sentence) → Took (Sentences names) inner s (word keyword.Else) false
    → (o : Sentence) (next : TokenKind) (deep : Bool) → Took (Sentences names) inner o next deep → Took (Sentences names) limit (IfElse e s o) next deep
if_else_took names limit inner less some e x s t o next deep t' =
    pair_took (if_pair names) limit inner (less, some, some) e x (s, Some o) next deep (branch_other_took names inner s t o next deep t')

-- `for`, part by part
abbrev LastParts : Names → Class
LastParts names = Sequence (SomeBefore names close_parenthesis) (Sentences names)

abbrev TestParts : Names → Class
TestParts names = Sequence (SomeBefore names semicolon) (LastParts names)

abbrev FirstParts : Names → Class
FirstParts names = Sequence (Firsts names) (TestParts names)

some_before_law : (names : Names) (close : TokenKind) → Lawful (SomeBefore names close)
some_before_law names close = some_law names 0 (Unit {0}) close

abbrev some_before_least : (names : Names) (close : TokenKind) → Least (SomeBefore names close)
some_before_least names close = some_least names 0 (Unit {0}) close tt

abbrev last_least : (names : Names) → Least (LastParts names)
last_least names = sequence_least (SomeBefore names close_parenthesis) (Sentences names) (some_before_least names close_parenthesis) (sentences_least names)

abbrev test_least : (names : Names) → Least (TestParts names)
test_least names = sequence_least (SomeBefore names semicolon) (LastParts names) (some_before_least names semicolon) (last_least names)

abbrev first_least : (names : Names) → Least (FirstParts names)
first_least names = sequence_least (Firsts names) (TestParts names) (firsts_least names) (test_least names)

last_law : (names : Names) → Lawful (LastParts names)
last_law names = sequence_law (SomeBefore names close_parenthesis) (Sentences names) (some_before_law names close_parenthesis) (sentences_law names)

test_law : (names : Names) → Lawful (TestParts names)
test_law names = sequence_law (SomeBefore names semicolon) (LastParts names) (some_before_law names semicolon) (last_law names)

first_law : (names : Names) → Lawful (FirstParts names)
first_law names = sequence_law (Firsts names) (TestParts names) (firsts_law names) (test_law names)

for_inside : (names : Names) (limit inner : ℕ) → limit ≡ 1 + inner → 1 ≤ inner
    → (front : Kinds) (next : TokenKind) (deep : Bool) → Refused (FirstParts names) inner front next deep
    → Refused (Sentences names) limit (word keyword.For ∷ open_parenthesis ∷ front) next deep
for_inside names limit inner less some front next deep r =
    made_refused (Sentences names) (ForParts names) 1 (word keyword.For ∷ []) (λ part. For part.0 part.1.0 part.1.1.0 part.1.1.1) (λ rest. Unit {0}) limit
    inner less (for_production names) (after_least open_parenthesis (FirstParts names) (first_least names)) some
    (after_law open_parenthesis (FirstParts names) (first_law names)) (open_parenthesis ∷ front) next deep (λ following near. tt)
    (tail_refused (ForParts names) (FirstParts names) inner inner (open_parenthesis ∷ []) (λ d. d) (λ rest. Unit {0}) (first_law names)
    (after_tail open_parenthesis (FirstParts names) inner (first_least names) some) front next deep (λ following near. tt) r)

-- no parenthesis follows `for`
pub for_missing : (names : Names) (limit inner : ℕ) → limit ≡ 1 + inner → 1 ≤ inner → (next : TokenKind) → (next ≡ open_parenthesis → ⊥)
    → Refused (Sentences names) limit (word keyword.For ∷ []) next false
for_missing names limit inner less some next other =
    made_refused (Sentences names) (ForParts names) 1 (word keyword.For ∷ []) (λ part. For part.0 part.1.0 part.1.1.0 part.1.1.1) (λ rest. Unit {0}) limit
    inner less (for_production names) (after_least open_parenthesis (FirstParts names) (first_least names)) some
    (after_law open_parenthesis (FirstParts names) (first_law names)) [] next false (λ following near. tt)
    (after_wrong open_parenthesis (FirstParts names) inner next other)

-- the first part of a `for` was refused
pub for_first_refused : (names : Names) (limit inner : ℕ) → limit ≡ 1 + inner → 1 ≤ inner
    → (front : Kinds) (next : TokenKind) (deep : Bool) → Refused (Firsts names) inner front next deep
    → Refused (Sentences names) limit (word keyword.For ∷ open_parenthesis ∷ front) next deep
for_first_refused names limit inner less some front next deep r =
    for_inside names limit inner less some front next deep
    (first_refused (Firsts names) (TestParts names) inner (firsts_law names) (λ c d after is is' shut. tt) (test_least names) some front next deep r)

-- its test was refused
pub for_test_refused : (names : Names) (limit inner : ℕ) → limit ≡ 1 + inner → 1 ≤ inner → (f : First) → Exactly (Firsts names) inner f
    → (front : Kinds) (next : TokenKind) (deep : Bool) → Refused (SomeBefore names semicolon) inner front next deep
    → Refused (Sentences names) limit (word keyword.For ∷ open_parenthesis ∷ (first_text f [] ++ front)) next deep
for_test_refused names limit inner less some f x front next deep r =
    for_inside names limit inner less some (first_text f [] ++ front) next deep
    (exact_then_refused (Firsts names) (TestParts names) inner (firsts_law names) (test_law names) (test_least names) some f x front next deep
    (first_refused (SomeBefore names semicolon) (LastParts names) inner (some_before_law names semicolon) (λ c d after is is' shut. tt) (last_least names) some
    front next deep r))

-- its last part was refused
pub for_last_refused : (names : Names) (limit inner : ℕ) → limit ≡ 1 + inner → 1 ≤ inner → (f : First) → Exactly (Firsts names) inner f
    → (t : Option Written) → Exactly (SomeBefore names semicolon) inner t
    → (front : Kinds) (next : TokenKind) (deep : Bool) → Refused (SomeBefore names close_parenthesis) inner front next deep
    → Refused (Sentences names) limit (word keyword.For ∷ open_parenthesis ∷ (first_text f [] ++ (some_text t (semicolon ∷ []) ++ front))) next deep
for_last_refused names limit inner less some f x t y front next deep r =
    for_inside names limit inner less some (first_text f [] ++ (some_text t (semicolon ∷ []) ++ front)) next deep
    (exact_then_refused (Firsts names) (TestParts names) inner (firsts_law names) (test_law names) (test_least names) some f x
    (some_text t (semicolon ∷ []) ++ front) next deep
    (exact_then_refused (SomeBefore names semicolon) (LastParts names) inner (some_before_law names semicolon) (last_law names) (last_least names) some t y
    front next deep
    (first_refused (SomeBefore names close_parenthesis) (Sentences names) inner (some_before_law names close_parenthesis) (λ c d after is is' shut. tt)
    (sentences_least names) some front next deep r)))

-- its body was refused
pub for_body_refused : (names : Names) (limit inner : ℕ) → limit ≡ 1 + inner → 1 ≤ inner → (f : First) → Exactly (Firsts names) inner f
    → (t : Option Written) → Exactly (SomeBefore names semicolon) inner t → (l : Option Written) → Exactly (SomeBefore names close_parenthesis) inner l
    → (front : Kinds) (next : TokenKind) (deep : Bool) → Refused (Sentences names) inner front next deep
    → Refused (Sentences names) limit (word keyword.For ∷ open_parenthesis
    ∷ (first_text f [] ++ (some_text t (semicolon ∷ []) ++ (some_text l (close_parenthesis ∷ []) ++ front)))) next deep
for_body_refused names limit inner less some f x t y l z front next deep r =
    for_inside names limit inner less some (first_text f [] ++ (some_text t (semicolon ∷ []) ++ (some_text l (close_parenthesis ∷ []) ++ front))) next deep
    (exact_then_refused (Firsts names) (TestParts names) inner (firsts_law names) (test_law names) (test_least names) some f x
    (some_text t (semicolon ∷ []) ++ (some_text l (close_parenthesis ∷ []) ++ front)) next deep
    (exact_then_refused (SomeBefore names semicolon) (LastParts names) inner (some_before_law names semicolon) (last_law names) (last_least names) some t y
    (some_text l (close_parenthesis ∷ []) ++ front) next deep
    (exact_then_refused (SomeBefore names close_parenthesis) (Sentences names) inner (some_before_law names close_parenthesis) (sentences_law names)
    (sentences_least names) some l z front next deep r)))

-- a `for` was taken
pub for_took : (names : Names) (limit inner : ℕ) → limit ≡ 1 + inner → 1 ≤ inner → (f : First) → Exactly (Firsts names) inner f
    → (t : Option Written) → Exactly (SomeBefore names semicolon) inner t → (l : Option Written) → Exactly (SomeBefore names close_parenthesis) inner l
    → (s : Sentence) (next : TokenKind) (deep : Bool) → Took (Sentences names) inner s next deep → Took (Sentences names) limit (For f t l s) next deep
for_took names limit inner less some f x t y l z s next deep took =
    made_took (Sentences names) (ForParts names) 1 (word keyword.For ∷ []) (λ part. For part.0 part.1.0 part.1.1.0 part.1.1.1) (λ rest. Unit {0}) limit
    inner less (for_production names) (after_least open_parenthesis (FirstParts names) (first_least names)) some
    (after_law open_parenthesis (FirstParts names) (first_law names)) (f, (t, (l, s))) next deep (λ following near. tt)
    (tail_took (ForParts names) (FirstParts names) inner inner (open_parenthesis ∷ []) (λ d. d) (λ rest. Unit {0}) (first_law names)
    (after_tail open_parenthesis (FirstParts names) inner (first_least names) some) (f, (t, (l, s))) next deep (λ following near. tt)
    (exact_then_took (Firsts names) (TestParts names) inner (firsts_law names) (test_law names) (test_least names) some f x (t, (l, s)) next deep
    (exact_then_took (SomeBefore names semicolon) (LastParts names) inner (some_before_law names semicolon) (last_law names) (last_least names) some t y (l, s)
    next deep
    (exact_then_took (SomeBefore names close_parenthesis) (Sentences names) inner (some_before_law names close_parenthesis) (sentences_law names)
    (sentences_least names) some l z s next deep took))))

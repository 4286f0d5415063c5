-- An optional expression before the token that closes it: for the contracts of the parser of declarations and statements.
use Rattle.std.proofs.Common.{◌≡◌, ℕ, ◌<◌, ◌≤◌, inl, inr, Bool, false, [], ◌∷◌, ◌++◌, Option, Some, None, refl, sym, ap, ◌∙◌}
use Rattle.std.proofs.Common.{subst, arith, append_assoc}
use Rattle.std.proofs.lemmas.Bool.{false≢true}
use Rattle.cs_ast.specs.declared.token.TokenKind.{TokenKind}
use Rattle.cs_ast.specs.RawTree.{Written}
use Rattle.cs_grammar.specs.TypeWords.{Names}
use Rattle.cs_grammar.specs.Text.{Kinds, text}
use Rattle.cs_grammar.specs.Phrases.{IsPhrase}
use Rattle.cs_grammar.specs.FirstTokens.{begins_expression}
use Rattle.cs_grammar.specs.Continuing.{join}
use Rattle.cs_grammar.specs.Parsing.{Expressions, Near, IsOver, Took, Refused, Exactly}
use Rattle.cs_grammar.specs.Composed.{ClosedSome}
use Rattle.cs_grammar.proofs.Texts.{text_append}
use Rattle.cs_grammar.proofs.Levels.{text_law}
use Rattle.cs_grammar.proofs.Beginnings.{expression_begins}
use Rattle.cs_grammar.proofs.Holes.{Lawful, ClosedBy, closed_wrong, closed_exact}
use Rattle.cs_grammar.proofs.Tails.{Least}

pub some_law : (names : Names) (level : ℕ) (MayLack : Type 0) (close : TokenKind) → Lawful (ClosedSome names level MayLack close)
some_law names level MayLack close None x y = refl
some_law names level MayLack close (Some e) x y = text_append e (close ∷ x) y

abbrev pub some_least : (names : Names) (level : ℕ) (MayLack : Type 0) (close : TokenKind) → MayLack → Least (ClosedSome names level MayLack close)
some_least names level MayLack close lack = record { tree = None; is_phrase = lack; below = λ other is. omega arith }

-- a token that closes an expression of the level: it continues none, and begins none
pub record Closes (names : Names) (level : ℕ) (close : TokenKind) : Type 0 where
  pub shut : join close ≤ level
  pub begins_none : begins_expression names close ≡ false

-- no expression begins with a token that closes one
pub no_close : (names : Names) (level : ℕ) (close : TokenKind) → Closes names level close → (e : Written) (after more : Kinds) → IsPhrase names level e
    → text e after ≡ close ∷ more → ⊥
no_close names level close c e after more is same =
    let b = expression_begins names e after is.1 in
    let s : b.first ∷ b.others ≡ close ∷ more = sym b.are ∙ same in
    let k : b.first ≡ close = cc in
    false≢true (sym c.begins_none ∙ ap (begins_expression names) (sym k) ∙ b.passes)

-- an expression has at least one token
pub no_empty : (names : Names) (level : ℕ) (e : Written) (after : Kinds) → IsPhrase names level e → text e after ≡ [] → ⊥
no_empty names level e after is same =
    let b = expression_begins names e after is.1 in
    let s : b.first ∷ b.others ≡ [] = sym b.are ∙ same in
    cc

none_is : (names : Names) (level : ℕ) (MayLack : Type 0) (close : TokenKind) → Closes names level close
    → (other : Option Written) (after following : Kinds) → (ClosedSome names level MayLack close).Is other
    → (ClosedSome names level MayLack close).spell other after ≡ close ∷ following → (other ≡ None) × (after ≡ following)
none_is names level MayLack close c None after following is same = (refl, cc)
none_is names level MayLack close c (Some e) after following is same = absurd (no_close names level close c e (close ∷ after) following is same)

-- the next token closes it
pub some_none : (names : Names) (level : ℕ) (MayLack : Type 0) (close : TokenKind) (limit : ℕ) → Closes names level close → MayLack
    → Exactly (ClosedSome names level MayLack close) limit None
some_none names level MayLack close limit c lack = record {
  is_phrase = lack;
  low = omega arith;
  exact = λ other after following is same. none_is names level MayLack close c other after following is same;
}

-- the next token doesn't close an expression
abbrev pub IsUnclosed : TokenKind → Kinds → Type 0
IsUnclosed close following = (more : Kinds) → following ≡ close ∷ more → ⊥

some_invert : (names : Names) (level : ℕ) (MayLack : Type 0) (close : TokenKind) (whole : Option Written) (after following : Kinds)
    → (ClosedSome names level MayLack close).Is whole → IsUnclosed close following
    → (ClosedSome names level MayLack close).spell whole after ≡ following
    → (part : Written) × (whole ≡ Some part) × IsPhrase names level part × (following ≡ text part (close ∷ after))
some_invert names level MayLack close None after following is unclosed same = absurd (unclosed after (sym same))
some_invert names level MayLack close (Some e) after following is unclosed same = (e, refl, is, sym same)

some_never : (names : Names) (level : ℕ) (MayLack : Type 0) (close : TokenKind) (limit : ℕ) → Closes names level close
    → (front : Kinds) (next : TokenKind) (deep : Bool) → (front ≡ [] → next ≡ close → ⊥)
    → Refused (Expressions names level) limit front next deep → (other : Option Written) (after following : Kinds)
    → (ClosedSome names level MayLack close).Is other → Near next following
    → (ClosedSome names level MayLack close).spell other after ≡ front ++ following
    → IsOver (ClosedSome names level MayLack close) limit deep other following
some_never names level MayLack close limit c front next deep open_here r (Some e) after following is near same =
    let v = r.never e (close ∷ after) following is c.shut near same in
    record { reported = v.reported; high = v.high; onward = v.onward }
some_never names level MayLack close limit c [] next deep open_here r None after following is near same =
    absurd (elim near [ inl none ↦ let z = same ∙ none in cc | inr m ↦ let z : close ∷ after ≡ next ∷ m.0 = same ∙ m.1 in open_here refl cc ])
some_never names level MayLack close limit c (f ∷ fs) next deep open_here r None after following is near same =
    absurd (elim r.begun [
      | inl none ↦ cc
      | inr b ↦
          let e : f ≡ close = cc in
          no_close names level close c b.phrase [] (fs ++ b.more) b.is_phrase (b.spelled ∙ ap (λ (x : TokenKind). x ∷ (fs ++ b.more)) e)
    ])

-- the expression was refused
pub some_refused : (names : Names) (level : ℕ) (MayLack : Type 0) (close : TokenKind) (limit : ℕ) → Closes names level close
    → (front : Kinds) (next : TokenKind) (deep : Bool) → (front ≡ [] → next ≡ close → ⊥)
    → Refused (Expressions names level) limit front next deep → Refused (ClosedSome names level MayLack close) limit front next deep
some_refused names level MayLack close limit c front next deep open_here r = record {
  begun = elim r.begun [
    | inl none ↦ inl none
    | inr b ↦ inr (record {
      phrase = Some b.phrase;
      more = b.more ++ close ∷ [];
      is_phrase = b.is_phrase;
      low = b.low;
      spelled = sym (text_append b.phrase [] (close ∷ [])) ∙ ap (λ (x : Kinds). x ++ close ∷ []) b.spelled ∙ append_assoc front b.more (close ∷ []);
    })
  ];
  never = λ other after following is shut near same. some_never names level MayLack close limit c front next deep open_here r other after following is near
      same;
  further = λ reported.
      let b = r.further reported in
      record {
        phrase = Some b.phrase;
        more = b.more ++ close ∷ [];
        is_phrase = b.is_phrase;
        spelled = sym (text_append b.phrase [] (close ∷ [])) ∙ ap (λ (x : Kinds). x ++ close ∷ []) b.spelled
            ∙ append_assoc (front ++ next ∷ []) b.more (close ∷ []);
      };
}

unclosed_text : (names : Names) (level : ℕ) (close : TokenKind) → Closes names level close → (e : Written) (after : Kinds) → IsPhrase names level e
    → IsUnclosed close (text e after)
unclosed_text names level close c e after is more same = no_close names level close c e after more is same

-- another token follows the expression
pub some_wrong : (names : Names) (level : ℕ) (MayLack : Type 0) (close : TokenKind) (limit : ℕ) → Closes names level close
    → (e : Written) (next : TokenKind) (deep : Bool) → Took (Expressions names level) limit e next deep → (next ≡ close → ⊥)
    → Refused (ClosedSome names level MayLack close) limit (text e []) next deep
some_wrong names level MayLack close limit c e next deep t other =
    let r = closed_wrong (Expressions names level) close limit (text_law names level) (λ part more. c.shut) e next deep t other in
    record {
      begun = elim r.begun [
        | inl none ↦ inl none
        | inr b ↦ inr (record { phrase = Some b.phrase; more = b.more; is_phrase = b.is_phrase; low = b.low; spelled = b.spelled })
      ];
      never = λ whole after following is shut near same.
          let f = some_invert names level MayLack close whole after (text e [] ++ following) is
          (λ more k. unclosed_text names level close c e following t.is_phrase more (sym (text_append e [] following) ∙ k)) same in
          let v = r.never f.0 after following f.2 tt near (sym f.3) in
          record {
            reported = v.reported;
            high = subst (λ (o : Option Written). limit < (ClosedSome names level MayLack close).tall o) (sym f.1) v.high;
            onward = v.onward;
          };
      further = λ reported.
          let b = r.further reported in
          record { phrase = Some b.phrase; more = b.more; is_phrase = b.is_phrase; spelled = b.spelled };
    }

some_is : (names : Names) (level : ℕ) (MayLack : Type 0) (close : TokenKind) (limit : ℕ) → Closes names level close
    → (e : Written) → IsPhrase names level e → Exactly (ClosedBy (Expressions names level) close) limit e
    → (other : Option Written) (after following : Kinds) → (ClosedSome names level MayLack close).Is other
    → (ClosedSome names level MayLack close).spell other after ≡ text e (close ∷ following) → (other ≡ Some e) × (after ≡ following)
some_is names level MayLack close limit c e is' x None after following is same =
    absurd (no_close names level close c e (close ∷ following) after is' (sym same))
some_is names level MayLack close limit c e is' x (Some o) after following is same =
    let k = x.exact o after following is same in
    (ap Some k.0, k.1)

-- the expression was taken before the token that closes it
pub some_exact : (names : Names) (level : ℕ) (MayLack : Type 0) (close : TokenKind) (limit : ℕ) → Closes names level close
    → (e : Written) (deep : Bool) → Took (Expressions names level) limit e close deep → Exactly (ClosedSome names level MayLack close) limit (Some e)
some_exact names level MayLack close limit c e deep t = record {
  is_phrase = t.is_phrase;
  low = t.low;
  exact = λ other after following is same. some_is names level MayLack close limit c e t.is_phrase
      (closed_exact (Expressions names level) close limit (λ part more. c.shut) e deep t) other after following is same;
}

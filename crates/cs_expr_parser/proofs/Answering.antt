-- The results of `expression`, from those of the parser's parts.
use Rattle.std.proofs.Common.{◌≡◌, ℕ, ◌+◌, ◌<◌, ◌≤◌, ◌⊎◌, inl, inr, Bool, true, false, List, [], ◌∷◌, ◌++◌, Option, Some}
use Rattle.std.proofs.Common.{None, slice_get, drop, refl, sym, ap, ◌∙◌, subst, arith, append_assoc, append-nil}
use Rattle.std.specs.Option.{option_map}
use Rattle.std.proofs.Math.Seq.{drop-cons}
use Rattle.std.proofs.Math.ListN.{drop_of_length-le}
use Rattle.std.proofs.lemmas.Option.{slice_get_within, get_or_from_slice_get}
use Rattle.std.proofs.lemmas.Bool.{false≢true}
use Rattle.std.proofs.lemmas.List.{append_cancel_right}
use Rattle.cs_ast.specs.declared.place.Place.{Place}
use Rattle.cs_ast.specs.declared.token.Token.{Token}
use Rattle.cs_ast.specs.declared.token.TokenKind.{TokenKind}
use Rattle.cs_ast.specs.declared.token.TokenKind.TheVariants as token
use Rattle.cs_ast.specs.declared.raw.expression.RawExpr.{RawExpr}
use Rattle.cs_ast.specs.RawTree.{Written}
use Rattle.cs_ast.specs.RawView.{written}
use Rattle.cs_ast.specs.RawHeight.{height}
use Rattle.cs_grammar.specs.declared.refusal.Reason.{Reason}
use Rattle.cs_grammar.specs.declared.refusal.Reason.TheVariants.{Syntax, Unsupported, TooDeep}
use Rattle.cs_grammar.specs.declared.refusal.SyntaxRefusal.{SyntaxRefusal}
use Rattle.cs_grammar.specs.declared.refusal.SyntaxRefusal.TheVariants as refusal
use Rattle.cs_grammar.specs.Spelling.{unsupported_spelling}
use Rattle.cs_grammar.specs.TypeWords.{Names}
use Rattle.cs_grammar.specs.Text.{Kinds, text}
use Rattle.cs_grammar.specs.Phrases.{IsPhrase, BeginsPhrase, BeginsLowPhrase, IsLowPhrase}
use Rattle.cs_grammar.specs.Refusals.{IsReason}
use Rattle.cs_grammar.specs.Places.{HasPlaces}
use Rattle.cs_grammar.specs.Parsing.{Class, Expressions, Begins, BeginsLow, Took, Refused}
use Rattle.cs_grammar.proofs.Texts.{text_splits}
use Rattle.cs_expr_parser.specs.Positions.{kinds, kind_or_end}
use Rattle.cs_expr_parser.specs.Reasons.{reason_of, ends_in_type}
use Rattle.cs_expr_parser.specs.Parts.{Spells, IsRefused, Stops, IsTakenFrom, is_deep}
use Rattle.cs_expr_parser.specs.LastTokens.{YieldsUnsupported, IsReportedAt, IsReported}
use Rattle.cs_expr_parser.specs.declared.stop.Stop.{Stop}
use Rattle.cs_expr_parser.specs.declared.stop.Stop.TheVariants as stop
use Rattle.cs_expr_parser.specs.Expression.{first_place, place_or_end, IsRefusalBy, kind_at, GoesNoFurther, IsTaken, IsRefusedAt, IsStopped, IsRefusalFor}
use Rattle.cs_expr_parser.specs.Expression.{IsRefusal, reason_there}
use Rattle.cs_expr_parser.specs.declared.stop.Taken.{Taken}
use Rattle.cs_expr_parser.specs.declared.answer.Phrase.{Phrase}
use Rattle.cs_expr_parser.proofs.Standing.{kind_of_some, kind_of_none, past_end}
use Rattle.cs_expr_parser.proofs.Stopping.{deep_reason}
use Rattle.cs_expr_parser.proofs.EndOfInput.{no_end}
use Rattle.cs_expr_parser.proofs.Telling.{plain_not_unsupported, yields_reason, text_ends, text_plain}

-- the next token is refused as too deep exactly if some phrase of the level, of any height, continues with it
abbrev YieldsDepth : Names → ℕ → Kinds → Option TokenKind → Reason → Type 0
YieldsDepth names level front (Some next) TooDeep = BeginsPhrase names level (front ++ next ∷ [])
YieldsDepth names level front (Some next) other = BeginsPhrase names level (front ++ next ∷ []) → ⊥
YieldsDepth names level front None TooDeep = ⊥
YieldsDepth names level front None other = Unit {0}

reason_is : (names : Names) (level : ℕ) (front : Kinds) (next : TokenKind) (reason : Reason) → YieldsDepth names level front (Some next) reason
    → YieldsUnsupported names front next reason → IsReason names level front (Some next) reason
reason_is names level front next TooDeep d l = d
reason_is names level front next Unsupported d l = (d, l)
reason_is names level front next Syntax d l = (d, plain_not_unsupported names front next l.0 l.1)

reason_ends : (names : Names) (level : ℕ) (front : Kinds) (reason : Reason) → YieldsDepth names level front None reason
    → YieldsUnsupported names front token.Attribute reason → IsReason names level front None reason
reason_ends names level front TooDeep d l = d
reason_ends names level front Unsupported d l = l
reason_ends names level front Syntax d l = tt

kind_found : (tokens : List Token) (at : ℕ) (P : Option TokenKind → Type 0) → ((next : TokenKind) → kind_or_end tokens at ≡ next → P (Some next))
    → (kind_or_end tokens at ≡ token.Attribute → P None) → (found : Option Token) → slice_get tokens at ≡ found
    → P (option_map (λ (token : Token). token.kind) found)
kind_found tokens at P some none (Some t) e = some t.kind (kind_of_some tokens at t e)
kind_found tokens at P some none None e = none (kind_of_none tokens at e)

-- what holds for each token, and for the end of input, holds at an index
kind_cases : (tokens : List Token) (at : ℕ) (P : Option TokenKind → Type 0) → ((next : TokenKind) → kind_or_end tokens at ≡ next → P (Some next))
    → (kind_or_end tokens at ≡ token.Attribute → P None) → P (kind_at tokens at)
kind_cases tokens at P some none = kind_found tokens at P some none (slice_get tokens at) refl

begins_phrase : (names : Names) (level : ℕ) (front : Kinds) → Begins (Expressions names level) front → BeginsPhrase names level front
begins_phrase names level front b = record { phrase = b.phrase; more = b.more; is_phrase = b.is_phrase; spelled = b.spelled }

-- the tokens of a phrase that begins with those of another and one more
longer : (e other : Written) (next : TokenKind) (more : Kinds) → text other [] ≡ (text e [] ++ next ∷ []) ++ more
    → text other [] ≡ text e (next ∷ more)
longer e other next more same = same ∙ append_assoc (text e []) (next ∷ []) more ∙ sym (text_splits e (next ∷ more))

took_no_further : (names : Names) (level limit : ℕ) (e : Written) (next : TokenKind) (deep : Bool) → Took (Expressions names level) limit e next deep
    → BeginsLowPhrase names level limit (text e [] ++ next ∷ []) → ⊥
took_no_further names level limit e next deep t b =
    elim (t.only b.phrase [] (next ∷ b.more) b.is_phrase (omega arith) (inr (b.more, refl)) (longer e b.phrase next b.more b.spelled)) [
      | inl k ↦ let z = k.1 in cc
      | inr over ↦ absurd (let h : limit < height b.phrase = over.high in let l = b.low in omega arith)
    ]

took_never : (names : Names) (level limit : ℕ) (e : Written) (next : TokenKind) (deep : Bool) → Took (Expressions names level) limit e next deep
    → deep ≡ false → BeginsPhrase names level (text e [] ++ next ∷ []) → ⊥
took_never names level limit e next deep t flat b =
    elim (t.only b.phrase [] (next ∷ b.more) b.is_phrase (omega arith) (inr (b.more, refl)) (longer e b.phrase next b.more b.spelled)) [
      | inl k ↦ let z = k.1 in cc
      | inr over ↦ false≢true (sym flat ∙ over.reported)
    ]

took_yields : (names : Names) (level limit : ℕ) (e : Written) (next : TokenKind) (reason : Reason)
    → Took (Expressions names level) limit e next (is_deep reason) → YieldsDepth names level (text e []) (Some next) reason
took_yields names level limit e next TooDeep t =
    subst (BeginsPhrase names level) (text_splits e (next ∷ [])) (begins_phrase names level (text e (next ∷ [])) (t.further refl))
took_yields names level limit e next Unsupported t = took_never names level limit e next false t refl
took_yields names level limit e next Syntax t = took_never names level limit e next false t refl

took_ends : (names : Names) (level limit : ℕ) (e : Written) (reason : Reason) → Took (Expressions names level) limit e token.Attribute (is_deep reason)
    → YieldsDepth names level (text e []) None reason
took_ends names level limit e TooDeep t = absurd (t.joined refl [] (omega arith))
took_ends names level limit e Unsupported t = tt
took_ends names level limit e Syntax t = tt

-- a phrase that was taken, with the reason for which the token after it is refused
taken_is : (names : Names) (level limit : ℕ) (tokens : List Token) (from : ℕ) (phrase : Phrase) → phrase.height ≡ height (written phrase.tree)
    → Spells tokens from phrase.next (text (written phrase.tree)) → from < phrase.next
    → Took (Expressions names level) limit (written phrase.tree) (kind_or_end tokens phrase.next) (is_deep phrase.otherwise)
    → YieldsUnsupported names (text (written phrase.tree) []) (kind_or_end tokens phrase.next) phrase.otherwise → HasPlaces phrase.tree (drop from tokens)
    → IsTaken names level limit tokens from phrase
taken_is names level limit tokens from phrase h sp some t l p = record {
  is_phrase = t.is_phrase;
  low = t.low;
  height_is = h;
  spelled = sp;
  some = some;
  placed = p;
  only = λ other is same.
      elim (t.only other [] [] is (omega arith) (inl refl) same) [
        | inl k ↦ k.0
        | inr over ↦ absurd (over.onward refl)
      ];
  furthest =
      kind_cases tokens phrase.next (GoesNoFurther names level limit (text (written phrase.tree) []))
      (λ next k.
      took_no_further names level limit (written phrase.tree) next (is_deep phrase.otherwise)
      (subst (λ (x : TokenKind). Took (Expressions names level) limit (written phrase.tree) x (is_deep phrase.otherwise)) k t))
      (λ k. tt);
  otherwise =
      kind_cases tokens phrase.next (λ (next : Option TokenKind). IsReason names level (text (written phrase.tree) []) next phrase.otherwise)
      (λ next k.
      reason_is names level (text (written phrase.tree) []) next phrase.otherwise
      (took_yields names level limit (written phrase.tree) next phrase.otherwise
      (subst (λ (x : TokenKind). Took (Expressions names level) limit (written phrase.tree) x (is_deep phrase.otherwise)) k t))
      (subst (λ (x : TokenKind). YieldsUnsupported names (text (written phrase.tree) []) x phrase.otherwise) k l))
      (λ k.
      reason_ends names level (text (written phrase.tree) []) phrase.otherwise
      (took_ends names level limit (written phrase.tree) phrase.otherwise
      (subst (λ (x : TokenKind). Took (Expressions names level) limit (written phrase.tree) x (is_deep phrase.otherwise)) k t))
      (subst (λ (x : TokenKind). YieldsUnsupported names (text (written phrase.tree) []) x phrase.otherwise) k l));
  took = t;
}

-- the result of a part as that of `expression`
pub phrase_taken : (names : Names) (level limit : ℕ) (tokens : List Token) (from : ℕ) (taken : Taken) (phrase : Phrase)
    → IsTakenFrom names level limit tokens from taken → phrase.tree ≡ taken.tree → phrase.height ≡ taken.height → phrase.next ≡ taken.next
    → phrase.otherwise ≡ reason_of taken.deep (kind_or_end tokens taken.next) (ends_in_type (written taken.tree))
    → HasPlaces taken.tree (drop from tokens) → IsTaken names level limit tokens from phrase
phrase_taken names level limit tokens from taken phrase t tree tall next otherwise placed =
    let deep : taken.deep ≡ is_deep phrase.otherwise =
    sym (ap is_deep otherwise ∙ deep_reason taken.deep (kind_or_end tokens taken.next) (ends_in_type (written taken.tree))) in
    taken_is names level limit tokens from phrase
    (tall ∙ t.height_is ∙ ap (λ (x : RawExpr). height (written x)) (sym tree))
    (subst (λ (n : ℕ). Spells tokens from n (text (written phrase.tree))) (sym next)
    (subst (λ (x : RawExpr). Spells tokens from taken.next (text (written x))) (sym tree) t.spelled))
    (subst (λ (n : ℕ). from < n) (sym next) t.some)
    (subst (λ (d : Bool). Took (Expressions names level) limit (written phrase.tree) (kind_or_end tokens phrase.next) d) deep
    (subst (λ (n : ℕ). Took (Expressions names level) limit (written phrase.tree) (kind_or_end tokens n) taken.deep) (sym next)
    (subst (λ (x : RawExpr). Took (Expressions names level) limit (written x) (kind_or_end tokens taken.next) taken.deep) (sym tree) t.took)))
    (subst (λ (n : ℕ). YieldsUnsupported names (text (written phrase.tree) []) (kind_or_end tokens n) phrase.otherwise) (sym next)
    (subst (λ (x : RawExpr). YieldsUnsupported names (text (written x) []) (kind_or_end tokens taken.next) phrase.otherwise) (sym tree)
    (subst (YieldsUnsupported names (text (written taken.tree) []) (kind_or_end tokens taken.next)) (sym otherwise)
    (yields_reason names (text (written taken.tree) []) (kind_or_end tokens taken.next) taken.deep (ends_in_type (written taken.tree))
    (λ b. inr (text_ends names (written taken.tree) t.took.is_phrase.1 b)) (λ b. text_plain names (written taken.tree) t.took.is_phrase.1 b)))))
    (subst (λ (x : RawExpr). HasPlaces x (drop from tokens)) (sym tree) placed)

refused_no_further : (names : Names) (level limit : ℕ) (front : Kinds) (next : TokenKind) (deep : Bool)
    → Refused (Expressions names level) limit front next deep → BeginsLowPhrase names level limit (front ++ next ∷ []) → ⊥
refused_no_further names level limit front next deep r b =
    let over = r.never b.phrase [] (next ∷ b.more) b.is_phrase (omega arith) (inr (b.more, refl)) (b.spelled ∙ append_assoc front (next ∷ []) b.more) in
    let h : limit < height b.phrase = over.high in
    let l = b.low in
    omega arith

refused_never : (names : Names) (level limit : ℕ) (front : Kinds) (next : TokenKind) (deep : Bool) → Refused (Expressions names level) limit front next deep
    → deep ≡ false → BeginsPhrase names level (front ++ next ∷ []) → ⊥
refused_never names level limit front next deep r flat b =
    let over = r.never b.phrase [] (next ∷ b.more) b.is_phrase (omega arith) (inr (b.more, refl)) (b.spelled ∙ append_assoc front (next ∷ []) b.more) in
    false≢true (sym flat ∙ over.reported)

refused_yields : (names : Names) (level limit : ℕ) (front : Kinds) (next : TokenKind) (reason : Reason)
    → Refused (Expressions names level) limit front next (is_deep reason) → YieldsDepth names level front (Some next) reason
refused_yields names level limit front next TooDeep r = begins_phrase names level (front ++ next ∷ []) (r.further refl)
refused_yields names level limit front next Unsupported r = refused_never names level limit front next false r refl
refused_yields names level limit front next Syntax r = refused_never names level limit front next false r refl

-- at the end of input no higher phrase continues
refused_ends : (names : Names) (level limit : ℕ) (front : Kinds) (deep : Bool) → Refused (Expressions names level) limit front token.Attribute deep
    → Refused (Expressions names level) limit front token.Attribute false
refused_ends names level limit front false r = r
refused_ends names level limit front true r =
    let b = r.further refl in
    absurd (no_end b.phrase front b.more (b.spelled ∙ append_assoc front (token.Attribute ∷ []) b.more))

begun_is : (names : Names) (level limit : ℕ) (front : Kinds) → (front ≡ []) ⊎ BeginsLow (Expressions names level) limit front
    → (front ≡ []) ⊎ BeginsLowPhrase names level limit front
begun_is names level limit front (inl e) = inl e
begun_is names level limit front (inr b) = inr (record { phrase = b.phrase; more = b.more; is_phrase = b.is_phrase; low = b.low; spelled = b.spelled })

-- the result of a part that returns no phrase
pub stop_is : (names : Names) (level limit : ℕ) (tokens : List Token) (from : ℕ) (s : Stop) → Stops (Expressions names level) limit tokens from s
    → IsReported names tokens from s → IsStopped names level limit tokens from s
stop_is names level limit tokens from stop.Memory r t = tt
stop_is names level limit tokens from (stop.Refused at reason) r t = (r, t)

-- the refusal of a part as that of `expression`
pub phrase_refused : (names : Names) (level limit : ℕ) (tokens : List Token) (from at : ℕ) (reason : Reason)
    → IsRefused (Expressions names level) limit tokens from at reason → IsReportedAt names tokens from at reason
    → IsRefusedAt names level limit tokens from at (reason_there (kind_at tokens at) reason)
phrase_refused names level limit tokens from at reason r t = record {
  front = r.front;
  spelled = r.spelled;
  begun = begun_is names level limit r.front r.refused.begun;
  unfinished = λ l.
      let over = r.refused.never l.phrase [] [] l.is_phrase (omega arith) (inl refl) (l.spelled ∙ sym (append-nil r.front)) in
      over.onward refl;
  furthest =
      kind_cases tokens at (GoesNoFurther names level limit r.front)
      (λ next k.
      refused_no_further names level limit r.front next (is_deep reason)
      (subst (λ (x : TokenKind). Refused (Expressions names level) limit r.front x (is_deep reason)) k r.refused))
      (λ k. tt);
  why =
      let front : t.front ≡ r.front = append_cancel_right t.front r.front (kinds (drop at tokens)) (sym t.spelled.spelled ∙ r.spelled.spelled) in
      let yields : YieldsUnsupported names r.front (kind_or_end tokens at) reason =
      subst (λ (x : Kinds). YieldsUnsupported names x (kind_or_end tokens at) reason) front t.yields in
      kind_cases tokens at (λ (next : Option TokenKind). IsReason names level r.front next (reason_there next reason))
      (λ next k.
      reason_is names level r.front next reason
      (refused_yields names level limit r.front next reason
      (subst (λ (x : TokenKind). Refused (Expressions names level) limit r.front x (is_deep reason)) k r.refused))
      (subst (λ (x : TokenKind). YieldsUnsupported names r.front x reason) k yields))
      (λ k. tt);
  refused =
      kind_cases tokens at (λ (next : Option TokenKind).
      Refused (Expressions names level) limit r.front (kind_or_end tokens at) (is_deep (reason_there next reason)))
      (λ next k. r.refused)
      (λ k.
      subst (λ (x : TokenKind). Refused (Expressions names level) limit r.front x false) (sym k)
      (refused_ends names level limit r.front (is_deep reason)
      (subst (λ (x : TokenKind). Refused (Expressions names level) limit r.front x (is_deep reason)) k r.refused)));
}

pub refusal_is : (names : Names) (level limit : ℕ) (tokens : List Token) (end : Place) (from at : ℕ) (reason : Reason) (answer : SyntaxRefusal)
    → IsRefusedAt names level limit tokens from at reason → IsRefusalFor tokens end at reason answer → IsRefusal names level limit tokens end from answer
refusal_is names level limit tokens end from at reason refusal.Memory r f = tt
refusal_is names level limit tokens end from at reason (refusal.Syntax place) r f = (at, reason, f, r)
refusal_is names level limit tokens end from at reason (refusal.Unsupported place word) r f = (at, reason, f, r)
refusal_is names level limit tokens end from at reason (refusal.TooDeep place) r f = (at, reason, f, r)

-- the end of input is refused
pub refusal_at_end : (tokens : List Token) (end : Place) (at : ℕ) (reason : Reason) → slice_get tokens at ≡ None
    → IsRefusalFor tokens end at (reason_there (kind_at tokens at) reason) (refusal.Syntax end)
refusal_at_end tokens end at reason e =
    subst (λ (next : Option TokenKind). IsRefusalFor tokens end at (reason_there next reason) (refusal.Syntax end))
    (sym (ap (option_map (λ (token : Token). token.kind)) e))
    (sym (ap (first_place end) (drop_of_length-le tokens (past_end tokens at e))))

place_stands : (tokens : List Token) (end : Place) (at : ℕ) (t : Token) → slice_get tokens at ≡ Some t → t.place ≡ place_or_end tokens end at
place_stands tokens end at t e =
    let h = slice_get_within tokens at t e in
    sym (ap (first_place end) (drop-cons tokens at t h) ∙ ap (λ (x : Token). x.place) (get_or_from_slice_get tokens at t t e))

refusal_by : (tokens : List Token) (end : Place) (at : ℕ) (t : Token) (reason : Reason) (answer : SyntaxRefusal) → slice_get tokens at ≡ Some t
    → IsRefusalBy t reason answer → IsRefusalFor tokens end at reason answer
refusal_by tokens end at t Syntax (refusal.Syntax place) e r = r ∙ place_stands tokens end at t e
refusal_by tokens end at t Unsupported (refusal.Unsupported place word) e r =
    (r.0 ∙ place_stands tokens end at t e, r.1 ∙ ap unsupported_spelling (sym (kind_of_some tokens at t e)))
refusal_by tokens end at t TooDeep (refusal.TooDeep place) e r = r ∙ place_stands tokens end at t e
refusal_by tokens end at t Syntax refusal.Memory e r = tt
refusal_by tokens end at t Unsupported refusal.Memory e r = tt
refusal_by tokens end at t TooDeep refusal.Memory e r = tt
refusal_by tokens end at t Syntax (refusal.Unsupported place word) e r = absurd r
refusal_by tokens end at t Syntax (refusal.TooDeep place) e r = absurd r
refusal_by tokens end at t Unsupported (refusal.Syntax place) e r = absurd r
refusal_by tokens end at t Unsupported (refusal.TooDeep place) e r = absurd r
refusal_by tokens end at t TooDeep (refusal.Syntax place) e r = absurd r
refusal_by tokens end at t TooDeep (refusal.Unsupported place word) e r = absurd r

-- a token is refused
pub refusal_at_token : (tokens : List Token) (end : Place) (at : ℕ) (t : Token) (reason : Reason) (answer : SyntaxRefusal) → slice_get tokens at ≡ Some t
    → IsRefusalBy t reason answer → IsRefusalFor tokens end at (reason_there (kind_at tokens at) reason) answer
refusal_at_token tokens end at t reason answer e r =
    subst (λ (next : Option TokenKind). IsRefusalFor tokens end at (reason_there next reason) answer)
    (sym (ap (option_map (λ (token : Token). token.kind)) e)) (refusal_by tokens end at t reason answer e r)

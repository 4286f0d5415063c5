-- The tokens before a token decide whether it is unsupported or a syntax error: for the contract of the parser of files.
use Rattle.std.proofs.Common.{◌≡◌, ℕ, ◌↔◌, Bool, true, false, IsTrue, List, [], ◌∷◌, ◌++◌, Some, drop, take, refl, sym, ap, ◌∙◌}
use Rattle.std.proofs.Common.{subst}
use Rattle.std.proofs.lemmas.Bool.{false≢true}
use Rattle.std.proofs.lemmas.List.{append_cancel_right, take-append-drop, map-append}
use Rattle.cs_ast.specs.declared.token.Token.{Token}
use Rattle.cs_ast.specs.declared.token.TokenKind.{TokenKind}
use Rattle.cs_ast.specs.declared.token.TokenKind.TheVariants as token
use Rattle.cs_ast.specs.declared.token.Keyword.TheVariants as keyword
use Rattle.cs_ast.specs.declared.token.Punctuator.TheVariants as punctuator
use Rattle.cs_grammar.specs.declared.refusal.Reason.{Reason}
use Rattle.cs_grammar.specs.declared.refusal.Reason.TheVariants.{Syntax, Unsupported, TooDeep}
use Rattle.cs_grammar.specs.Text.{Kinds}
use Rattle.cs_grammar.specs.FilePhrases.{BeginsFile, BeginsLowFile}
use Rattle.cs_grammar.specs.FileRefusals.{MayHave, IsInside, IsUnsupportedOfFile, IsFileReason}
use Rattle.cs_grammar.specs.Roles.{declared_name, after_member, opens_list}
use Rattle.cs_expr_parser.specs.Positions.{kinds, kind_or_end}
use Rattle.cs_expr_parser.specs.Parts.{is_deep}
use Rattle.cs_declarator_parser.specs.DeclarationAnswers.{is_designator}
use Rattle.cs_decl_parser.specs.FileStops.{is_file_word, is_unsupported_after, unsupported_if, IsStoppedAt, IsTokenRefusedAt, IsPartRefusedAt}

abbrev brace : TokenKind
brace = token.Punctuator punctuator.OpenBrace

abbrev colon : TokenKind
colon = token.Punctuator punctuator.Colon

abbrev opening : TokenKind
opening = token.Punctuator punctuator.OpenParenthesis

other_after : (next : TokenKind) → (next ≡ colon → ⊥) → is_file_word next ≡ false → (is_designator next ≡ true → ⊥)
    → (next ≡ brace → ⊥) → (next ≡ opening → ⊥) → is_unsupported_after next ≡ false
other_after (token.Punctuator punctuator.Colon) other w d o p = absurd (other refl)
other_after (token.Punctuator punctuator.Dot) other w d o p = absurd (d refl)
other_after (token.Punctuator punctuator.OpenBracket) other w d o p = absurd (d refl)
other_after (token.Punctuator punctuator.OpenBrace) other w d o p = absurd (o refl)
other_after (token.Punctuator punctuator.OpenParenthesis) other w d o p = absurd (p refl)
other_after (token.Punctuator _) other w d o p = w
other_after (token.Keyword _) other w d o p = w
other_after _ other w d o p = w

-- another token is refused
pub reported_of_others : (tokens : List Token) (at : ℕ) (reason : Reason) → (kind_or_end tokens at ≡ colon → ⊥)
    → is_file_word (kind_or_end tokens at) ≡ false → (is_designator (kind_or_end tokens at) ≡ true → ⊥)
    → (kind_or_end tokens at ≡ brace → ⊥) → (kind_or_end tokens at ≡ opening → ⊥) → IsPartRefusedAt tokens at reason
    → IsTokenRefusedAt tokens at reason
reported_of_others tokens at reason other w d o p r =
    record { stopped = r.stopped; why = λ within. r.why within (other_after (kind_or_end tokens at) other w d o p) }

deep_why : (front : Kinds) (next : TokenKind) (reason : Reason) → is_deep reason ≡ true → BeginsFile (front ++ next ∷ [])
    → IsFileReason front (Some next) reason
deep_why front next TooDeep d b = b
deep_why front next Unsupported d b = absurd (false≢true d)
deep_why front next Syntax d b = absurd (false≢true d)

-- a token is refused as too deep
pub reported_of_deep : (tokens : List Token) (at : ℕ) (reason : Reason) → is_deep reason ≡ true → IsPartRefusedAt tokens at reason
    → IsTokenRefusedAt tokens at reason
reported_of_deep tokens at reason d r =
    record { stopped = r.stopped; why = λ within. deep_why r.stopped.front (kind_or_end tokens at) reason d (r.stopped.deep within d) }

-- the tokens before the one that is refused
before : (tokens : List Token) (at : ℕ) (reason : Reason) (r : IsStoppedAt tokens at reason) → r.front ≡ kinds (take at tokens)
before tokens at reason r =
    append_cancel_right r.front (kinds (take at tokens)) (kinds (drop at tokens))
    (sym r.spelled.spelled ∙ ap kinds (sym (take-append-drop at tokens)) ∙ map-append (λ (t : Token). t.kind) (take at tokens) (drop at tokens))

any_height : (front : Kinds) → BeginsLowFile 200 front → BeginsFile front
any_height front b = record { file = b.file; more = b.more; is_file = b.is_file; spelled = b.spelled }

either_flat : (out : Bool) → is_deep (unsupported_if out) ≡ false
either_flat true = refl
either_flat false = refl

either_why : (front : Kinds) (next : TokenKind) (out : Bool) → (BeginsFile (front ++ next ∷ []) → ⊥) → (IsTrue out ↔ IsUnsupportedOfFile front next)
    → IsFileReason front (Some next) (unsupported_if out)
either_why front next true none is = (none, is.0 refl)
either_why front next false none is = (none, λ left. false≢true (is.1 left))

-- the tokens before it decide whether it is unsupported, if no file continues with it
reported_after : (tokens : List Token) (at : ℕ) (reason : Reason) (out : Bool) → is_deep reason ≡ false
    → (BeginsLowFile 200 (kinds (take at tokens)) → (BeginsFile (kinds (take at tokens) ++ kind_or_end tokens at ∷ []) → ⊥)
    → IsTrue out ↔ IsUnsupportedOfFile (kinds (take at tokens)) (kind_or_end tokens at)) → IsPartRefusedAt tokens at reason
    → IsTokenRefusedAt tokens at (unsupported_if out)
reported_after tokens at reason out flat is part =
    let r = part.stopped in
    let same = before tokens at reason r in
    let next = kind_or_end tokens at in
    let reported = λ (none : BeginsFile (r.front ++ next ∷ []) → ⊥).
    subst (λ (x : Kinds). IsTrue out ↔ IsUnsupportedOfFile x next) (sym same)
    (is (subst (BeginsLowFile 200) same r.begun) (subst (λ (x : Kinds). BeginsFile (x ++ next ∷ []) → ⊥) same none)) in
    record {
      stopped = record {
        front = r.front;
        spelled = r.spelled;
        begun = r.begun;
        furthest = r.furthest;
        deep = λ within d. absurd (false≢true (sym (either_flat out) ∙ d));
        flat = λ within f. r.flat within flat;
        unfinished = r.unfinished;
      };
      why = λ within. let none = r.flat within flat in either_why r.front next out none (reported none);
    }

-- a colon is unsupported after a member's declarator
pub reported_colon : (tokens : List Token) (at : ℕ) (reason : Reason) (out : Bool) → is_deep reason ≡ false → kind_or_end tokens at ≡ colon
    → (BeginsFile (kinds (take at tokens)) → IsTrue out ↔ MayHave (kinds (take at tokens)) after_member) → IsPartRefusedAt tokens at reason
    → IsTokenRefusedAt tokens at (unsupported_if out)
reported_colon tokens at reason out flat k is r =
    reported_after tokens at reason out flat (λ b none.
    subst (λ (x : TokenKind). IsTrue out ↔ IsUnsupportedOfFile (kinds (take at tokens)) x) (sym k) (is (any_height (kinds (take at tokens)) b))) r

inside_word : (front : Kinds) (out : Bool) (next : TokenKind) → is_file_word next ≡ true → (BeginsFile front → IsTrue out ↔ IsInside front)
    → BeginsFile front → IsTrue out ↔ IsUnsupportedOfFile front next
inside_word front out (token.Keyword keyword.Static) w is = is
inside_word front out (token.Keyword keyword.Typedef) w is = is
inside_word front out (token.Keyword _) w is = absurd (false≢true w)
inside_word front out _ w is = absurd (false≢true w)

-- `static` and `typedef` are unsupported inside a block or an expression
pub reported_word : (tokens : List Token) (at : ℕ) (reason : Reason) (out : Bool) → is_deep reason ≡ false
    → is_file_word (kind_or_end tokens at) ≡ true → (BeginsFile (kinds (take at tokens)) → IsTrue out ↔ IsInside (kinds (take at tokens)))
    → IsPartRefusedAt tokens at reason → IsTokenRefusedAt tokens at (unsupported_if out)
reported_word tokens at reason out flat w is r =
    reported_after tokens at reason out flat (λ b none.
    inside_word (kinds (take at tokens)) out (kind_or_end tokens at) w is (any_height (kinds (take at tokens)) b)) r

list_punctuator : (front : Kinds) (out : Bool) (next : TokenKind) → is_designator next ≡ true → (IsTrue out ↔ MayHave front opens_list)
    → IsTrue out ↔ IsUnsupportedOfFile front next
list_punctuator front out (token.Punctuator punctuator.Dot) d is = is
list_punctuator front out (token.Punctuator punctuator.OpenBracket) d is = is
list_punctuator front out (token.Punctuator _) d is = absurd (false≢true d)
list_punctuator front out _ d is = absurd (false≢true d)

-- a dot and an opening bracket are unsupported where an initializer list may open
pub reported_list : (tokens : List Token) (at : ℕ) (reason : Reason) (out : Bool) → is_deep reason ≡ false
    → is_designator (kind_or_end tokens at) ≡ true
    → (BeginsLowFile 200 (kinds (take at tokens)) → IsTrue out ↔ MayHave (kinds (take at tokens)) opens_list) → IsPartRefusedAt tokens at reason
    → IsTokenRefusedAt tokens at (unsupported_if out)
reported_list tokens at reason out flat d is r =
    reported_after tokens at reason out flat (λ b none. list_punctuator (kinds (take at tokens)) out (kind_or_end tokens at) d (is b)) r

-- a list may open where an initializer is expected, and a file continues with a brace
pub list_reported : (front : Kinds) (awaits : Bool)
    → (MayHave front opens_list ↔ (IsTrue awaits × BeginsFile (front ++ token.Punctuator punctuator.OpenBrace ∷ [])))
    → (out : Bool) → (awaits ≡ false → out ≡ false)
    → (awaits ≡ true → IsTrue out ↔ BeginsFile (front ++ token.Punctuator punctuator.OpenBrace ∷ [])) → IsTrue out ↔ MayHave front opens_list
list_reported front true is out never on = (λ o. is.1 (refl, (on refl).0 o), λ m. (on refl).1 (is.0 m).1)
list_reported front false is out never on = (λ o. absurd (false≢true (sym (never refl) ∙ o)), λ m. absurd (false≢true (is.0 m).0))

-- a brace is unsupported after a tag inside a block or an expression, and after a type
pub reported_brace : (tokens : List Token) (at : ℕ) (reason : Reason) (out : Bool) → is_deep reason ≡ false → kind_or_end tokens at ≡ brace
    → (BeginsFile (kinds (take at tokens)) → IsTrue out ↔ IsUnsupportedOfFile (kinds (take at tokens)) brace) → IsPartRefusedAt tokens at reason
    → IsTokenRefusedAt tokens at (unsupported_if out)
reported_brace tokens at reason out flat k is r =
    reported_after tokens at reason out flat (λ b none.
    subst (λ (x : TokenKind). IsTrue out ↔ IsUnsupportedOfFile (kinds (take at tokens)) x) (sym k) (is (any_height (kinds (take at tokens)) b))) r

-- a parenthesis is unsupported where a declarator's name is allowed
pub reported_parenthesis : (tokens : List Token) (at : ℕ) (reason : Reason) (out : Bool) → is_deep reason ≡ false → kind_or_end tokens at ≡ opening
    → (BeginsLowFile 200 (kinds (take at tokens)) → (BeginsFile (kinds (take at tokens) ++ opening ∷ []) → ⊥)
    → IsTrue out ↔ MayHave (kinds (take at tokens)) declared_name) → IsPartRefusedAt tokens at reason → IsTokenRefusedAt tokens at (unsupported_if out)
reported_parenthesis tokens at reason out flat k is r =
    reported_after tokens at reason out flat
    (λ b none.
    subst (λ (x : TokenKind). IsTrue out ↔ IsUnsupportedOfFile (kinds (take at tokens)) x) (sym k)
    (is b (subst (λ (x : TokenKind). BeginsFile (kinds (take at tokens) ++ x ∷ []) → ⊥) k none))) r

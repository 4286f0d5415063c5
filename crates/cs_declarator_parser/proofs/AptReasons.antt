-- The possible reasons for a refusal of a token: for the contracts of the parts that refuse tokens.
use Rattle.std.proofs.Common.{◌≡◌, ℕ, if◌then◌else◌, Bool, true, false, List, Option, Some, None, Result, Ok, Err, slice_get, refl, sym, ap}
use Rattle.std.proofs.Common.{◌∙◌, subst}
use Rattle.std.specs.Option.{option_map}
use Rattle.std.proofs.lemmas.Bool.{false≢true}
use Rattle.cs_ast.specs.declared.token.Token.{Token}
use Rattle.cs_ast.specs.declared.token.TokenKind.{TokenKind}
use Rattle.cs_ast.specs.declared.token.TokenKind.TheVariants as token
use Rattle.cs_ast.specs.declared.token.Keyword.{Keyword}
use Rattle.cs_ast.specs.declared.token.Keyword.TheVariants as keyword
use Rattle.cs_ast.specs.declared.token.Punctuator.{Punctuator}
use Rattle.cs_ast.specs.declared.token.Punctuator.TheVariants as punctuator
use Rattle.cs_grammar.specs.declared.refusal.Reason.{Reason}
use Rattle.cs_grammar.specs.declared.refusal.Reason.TheVariants.{Syntax, Unsupported, TooDeep}
use Rattle.cs_grammar.specs.TypeWords.{Names}
use Rattle.cs_grammar.specs.Text.{Kinds}
use Rattle.cs_grammar.specs.Refusals.{IsUnsupported, IsReason}
use Rattle.cs_expr_parser.specs.LastTokens.{IsReportedAt}
use Rattle.cs_expr_parser.specs.Positions.{is_unsupported as left_anywhere, kind_or_end}
use Rattle.cs_expr_parser.specs.Expression.{kind_at}
use Rattle.cs_expr_parser.proofs.Standing.{kind_of_some, kind_of_none}
use Rattle.cs_declarator_parser.specs.declared.source.Scope.{Scope}
use Rattle.cs_declarator_parser.specs.declared.source.Scope.TheVariants.{File, Block}
use Rattle.cs_expr_parser.specs.declared.stop.Stop.{Stop}
use Rattle.cs_expr_parser.specs.declared.stop.Stop.TheVariants as stop
use Rattle.cs_declarator_parser.specs.Reasons.{is_unsupported, plain_reason}
use Rattle.cs_declarator_parser.specs.Aptness.{may_be_out, IsApt, IsStopApt, IsAnswerApt}
use Rattle.cs_declarator_parser.specs.DeclarationAnswers.{is_designator}

-- what is unsupported everywhere in a scope is unsupported somewhere in it
out_punctuator : (scope : Scope) (m : Punctuator) → is_unsupported scope (token.Punctuator m) ≡ true → may_be_out (token.Punctuator m) ≡ true
out_punctuator File punctuator.Ellipsis e = refl
out_punctuator Block punctuator.Ellipsis e = refl
out_punctuator File _ e = absurd (false≢true e)
out_punctuator Block _ e = absurd (false≢true e)

out_word : (scope : Scope) (k : Keyword) → is_unsupported scope (token.Keyword k) ≡ true → may_be_out (token.Keyword k) ≡ true
out_word Block keyword.Static e = refl
out_word Block keyword.Typedef e = refl
out_word File keyword.Static e = refl
out_word File keyword.Typedef e = refl
out_word Block _ e = absurd (false≢true e)
out_word File _ e = absurd (false≢true e)

out_may : (scope : Scope) (next : TokenKind) → is_unsupported scope next ≡ true → may_be_out next ≡ true
out_may File (token.Unsupported w) e = refl
out_may Block (token.Unsupported w) e = refl
out_may scope (token.Punctuator m) e = out_punctuator scope m e
out_may scope (token.Keyword k) e = out_word scope k e
out_may File _ e = absurd (false≢true e)
out_may Block _ e = absurd (false≢true e)

pub left_apt : (scope : Scope) (next : TokenKind) → may_be_out next ≡ true → IsApt scope next Unsupported
left_apt scope next may = record { out = λ o l. cc; kept = λ k l. false≢true (sym k ∙ may) }

pub always_apt : (scope : Scope) (next : TokenKind) → is_unsupported scope next ≡ true → IsApt scope next Unsupported
always_apt scope next out = left_apt scope next (out_may scope next out)

pub syntax_apt : (scope : Scope) (next : TokenKind) → is_unsupported scope next ≡ false → IsApt scope next Syntax
syntax_apt scope next none = record { out = λ o l. false≢true (sym none ∙ o); kept = λ k l. cc }

pub deep_apt : (scope : Scope) (next : TokenKind) → IsApt scope next TooDeep
deep_apt scope next = record { out = λ o l. cc; kept = λ k l. cc }

either_apt : (scope : Scope) (next : TokenKind) (b : Bool) → is_unsupported scope next ≡ b → IsApt scope next (if b then Unsupported else Syntax)
either_apt scope next true e = always_apt scope next e
either_apt scope next false e = syntax_apt scope next e

-- the reason for a token that no tree continues with
pub plain_apt : (scope : Scope) (next : TokenKind) → IsApt scope next (plain_reason scope next)
plain_apt scope next = either_apt scope next (is_unsupported scope next) refl

-- where a designator would begin
designator_punctuator : (scope : Scope) (m : Punctuator) → is_designator (token.Punctuator m) ≡ true → may_be_out (token.Punctuator m) ≡ true
designator_punctuator File punctuator.Dot e = refl
designator_punctuator Block punctuator.Dot e = refl
designator_punctuator File punctuator.OpenBracket e = refl
designator_punctuator Block punctuator.OpenBracket e = refl
designator_punctuator scope _ e = absurd (false≢true e)

pub designator_apt : (scope : Scope) (next : TokenKind) → is_designator next ≡ true → IsApt scope next Unsupported
designator_apt scope (token.Punctuator m) e = left_apt scope (token.Punctuator m) (designator_punctuator scope m e)
designator_apt scope _ e = absurd (false≢true e)

-- each reason is possible for a brace
pub brace_apt : (scope : Scope) (next : TokenKind) (reason : Reason) → next ≡ token.Punctuator punctuator.OpenBrace → IsApt scope next reason
brace_apt File next reason e = record {
  out = λ o l. false≢true (sym (ap (is_unsupported File) e) ∙ o);
  kept = λ k l. false≢true (sym k ∙ ap may_be_out e);
}
brace_apt Block next reason e = record {
  out = λ o l. false≢true (sym (ap (is_unsupported Block) e) ∙ o);
  kept = λ k l. false≢true (sym k ∙ ap may_be_out e);
}

-- a reason that is possible in blocks is also possible outside
file_out : (next : TokenKind) → is_unsupported File next ≡ true → is_unsupported Block next ≡ true
file_out (token.Unsupported w) e = refl
file_out (token.Punctuator punctuator.Ellipsis) e = refl
file_out (token.Punctuator _) e = absurd (false≢true e)
file_out _ e = absurd (false≢true e)

pub apt_in : (scope : Scope) (next : TokenKind) (reason : Reason) → IsApt Block next reason → IsApt scope next reason
apt_in File next reason a = record { out = λ o l. a.out (file_out next o) l; kept = a.kept }
apt_in Block next reason a = a

-- the reasons of the parser of expressions
out_left : (names : Names) (front : Kinds) (next : TokenKind) → is_unsupported Block next ≡ true → IsUnsupported names front next
out_left names front (token.Unsupported w) e = tt
out_left names front (token.Punctuator punctuator.Ellipsis) e = tt
out_left names front (token.Keyword keyword.Static) e = tt
out_left names front (token.Keyword keyword.Typedef) e = tt
out_left names front (token.Punctuator _) e = absurd (false≢true e)
out_left names front (token.Keyword _) e = absurd (false≢true e)
out_left names front _ e = absurd (false≢true e)

left_may : (names : Names) (front : Kinds) (next : TokenKind) → IsUnsupported names front next → may_be_out next ≡ true
left_may names front (token.Unsupported w) o = refl
left_may names front (token.Punctuator punctuator.Ellipsis) o = refl
left_may names front (token.Punctuator punctuator.OpenBrace) o = refl
left_may names front (token.Keyword keyword.Static) o = refl
left_may names front (token.Keyword keyword.Typedef) o = refl
left_may names front (token.Punctuator _) o = absurd o
left_may names front (token.Keyword _) o = absurd o
left_may names front _ o = absurd o

reason_apt : (names : Names) (level : ℕ) (front : Kinds) (next : TokenKind) (reason : Reason) → IsReason names level front (Some next) reason
    → IsApt Block next reason
reason_apt names level front next TooDeep r = deep_apt Block next
reason_apt names level front next Unsupported r = left_apt Block next (left_may names front next r.1)
reason_apt names level front next Syntax r = record { out = λ o l. r.1 (out_left names front next o); kept = λ k l. cc }

end_apt : (names : Names) (level : ℕ) (front : Kinds) (reason : Reason) → IsReason names level front None reason → IsApt Block token.Attribute reason
end_apt names level front Syntax r = syntax_apt Block token.Attribute refl
end_apt names level front Unsupported r = absurd r
end_apt names level front TooDeep r = absurd r

apt_found : (names : Names) (level : ℕ) (front : Kinds) (tokens : List Token) (at : ℕ) (reason : Reason) (found : Option Token)
    → slice_get tokens at ≡ found → IsReason names level front (option_map (λ (t : Token). t.kind) found) reason
    → IsApt Block (kind_or_end tokens at) reason
apt_found names level front tokens at reason (Some t) e r =
    subst (λ (x : TokenKind). IsApt Block x reason) (sym (kind_of_some tokens at t e)) (reason_apt names level front t.kind reason r)
apt_found names level front tokens at reason None e r =
    subst (λ (x : TokenKind). IsApt Block x reason) (sym (kind_of_none tokens at e)) (end_apt names level front reason r)

pub expression_apt : (names : Names) (level : ℕ) (front : Kinds) (tokens : List Token) (at : ℕ) (reason : Reason)
    → IsReason names level front (kind_at tokens at) reason → IsApt Block (kind_or_end tokens at) reason
expression_apt names level front tokens at reason r = apt_found names level front tokens at reason (slice_get tokens at) refl r

left_following : (next : TokenKind) → is_unsupported Block next ≡ true → left_anywhere next ≡ true
left_following (token.Unsupported w) e = refl
left_following (token.Punctuator punctuator.Ellipsis) e = refl
left_following (token.Punctuator _) e = absurd (false≢true e)
left_following (token.Keyword keyword.Static) e = refl
left_following (token.Keyword keyword.Typedef) e = refl
left_following (token.Keyword _) e = absurd (false≢true e)
left_following _ e = absurd (false≢true e)

-- the same inside an expression
pub reported_apt : (names : Names) (tokens : List Token) (from at : ℕ) (reason : Reason) → IsReportedAt names tokens from at reason
    → IsApt Block (kind_or_end tokens at) reason
reported_apt names tokens from at TooDeep t = deep_apt Block (kind_or_end tokens at)
reported_apt names tokens from at Unsupported t = left_apt Block (kind_or_end tokens at) (left_may names t.front (kind_or_end tokens at) t.yields)
reported_apt names tokens from at Syntax t =
    let e = t.yields.0 in
    record { out = λ o l. false≢true (sym e ∙ left_following (kind_or_end tokens at) o); kept = λ k l. cc }

-- the same for the results of the parts
pub stop_apt : (scope : Scope) (tokens : List Token) (s : Stop) → IsStopApt Block tokens s → IsStopApt scope tokens s
stop_apt scope tokens (stop.Refused at reason) a = apt_in scope (kind_or_end tokens at) reason a
stop_apt scope tokens stop.Memory a = tt

pub answer_apt : {A : Type 0} (scope : Scope) (tokens : List Token) (answer : Result A Stop) → IsAnswerApt Block tokens answer
    → IsAnswerApt scope tokens answer
answer_apt scope tokens (Ok taken) a = tt
answer_apt scope tokens (Err s) a = stop_apt scope tokens s a

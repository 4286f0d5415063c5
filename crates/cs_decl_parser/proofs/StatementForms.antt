-- The forms of statements, determined by their first tokens: for the contracts of `form_at` and `statement`.
use Rattle.std.proofs.Common.{◌≡◌, ℕ, ◌<◌, ◌≤◌, Bool, true, false, List, [], refl, sym, ap, ◌∙◌, arith}
use Rattle.std.proofs.lemmas.Bool.{false≢true}
use Rattle.cs_ast.specs.declared.token.TokenKind.{TokenKind}
use Rattle.cs_ast.specs.declared.token.TokenKind.TheVariants as token
use Rattle.cs_ast.specs.declared.token.Keyword.{Keyword}
use Rattle.cs_ast.specs.declared.token.Keyword.TheVariants as keyword
use Rattle.cs_ast.specs.declared.token.Punctuator.{Punctuator}
use Rattle.cs_ast.specs.declared.token.Punctuator.TheVariants as punctuator
use Rattle.cs_grammar.specs.TypeWords.{Names, is_among}
use Rattle.cs_grammar.specs.FileClasses.{Sentences}
use Rattle.cs_grammar.specs.Parsing.{Refused}
use Rattle.cs_grammar.proofs.Statements.{begins_other_sentence}
use Rattle.cs_grammar.proofs.StatementFirsts.{sentence_none, sentence_low}
use Rattle.cs_decl_parser.specs.declared.form.Form.{Form}
use Rattle.cs_decl_parser.specs.declared.form.Form.TheVariants as form
use Rattle.cs_decl_parser.specs.Forms.{least, keyword_form, punctuator_form, is_colon, name_form, form_of, is_labelled}

-- what a form implies for the first tokens
abbrev pub Yields : Names → Form → TokenKind → TokenKind → Type 0
Yields names form.Block first second = first ≡ token.Punctuator punctuator.OpenBrace
Yields names form.Empty first second = first ≡ token.Punctuator punctuator.Semicolon
Yields names form.If first second = first ≡ token.Keyword keyword.If
Yields names form.While first second = first ≡ token.Keyword keyword.While
Yields names form.Do first second = first ≡ token.Keyword keyword.Do
Yields names form.For first second = first ≡ token.Keyword keyword.For
Yields names form.Switch first second = first ≡ token.Keyword keyword.Switch
Yields names form.Goto first second = first ≡ token.Keyword keyword.Goto
Yields names form.Continue first second = first ≡ token.Keyword keyword.Continue
Yields names form.Break first second = first ≡ token.Keyword keyword.Break
Yields names form.Return first second = first ≡ token.Keyword keyword.Return
Yields names form.Label first second = is_labelled first second ≡ true
Yields names form.Unlabelled first second = (name : List ℕ) × (first ≡ token.Name name) × (is_among names name ≡ true) × (is_colon second ≡ false)
Yields names form.Run first second = begins_other_sentence first ≡ false

name_yields : (names : Names) (name : List ℕ) (second : TokenKind) (c : Bool) → is_colon second ≡ c → (t : Bool) → is_among names name ≡ t
    → Yields names (name_form c t) (token.Name name) second
name_yields names name second true e t f = e
name_yields names name second false e true f = (name, refl, f, e)
name_yields names name second false e false f = refl

punctuator_yields : (names : Names) (m : Punctuator) (second : TokenKind) → Yields names (punctuator_form m) (token.Punctuator m) second
punctuator_yields names punctuator.OpenBrace second = refl
punctuator_yields names punctuator.Semicolon second = refl
punctuator_yields names _ second = refl

keyword_yields : (names : Names) (k : Keyword) (second : TokenKind) → Yields names (keyword_form k) (token.Keyword k) second
keyword_yields names keyword.If second = refl
keyword_yields names keyword.While second = refl
keyword_yields names keyword.Do second = refl
keyword_yields names keyword.For second = refl
keyword_yields names keyword.Switch second = refl
keyword_yields names keyword.Goto second = refl
keyword_yields names keyword.Continue second = refl
keyword_yields names keyword.Break second = refl
keyword_yields names keyword.Return second = refl
keyword_yields names _ second = refl

pub form_yields : (names : Names) (first second : TokenKind) → Yields names (form_of names first second) first second
form_yields names (token.Name name) second = name_yields names name second (is_colon second) refl (is_among names name) refl
form_yields names (token.Punctuator m) second = punctuator_yields names m second
form_yields names (token.Keyword k) second = keyword_yields names k second
form_yields names (token.Number n) second = refl
form_yields names (token.Character v) second = refl
form_yields names (token.Text b) second = refl
form_yields names (token.Unsupported w) second = refl
form_yields names token.Attribute second = refl

name_low : (c t : Bool) → least (name_form c t) ≤ 2
name_low true t = omega arith
name_low false true = omega arith
name_low false false = omega arith

punctuator_full : (names : Names) (m : Punctuator) (limit : ℕ) → limit < least (punctuator_form m)
    → Refused (Sentences names) limit [] (token.Punctuator m) true
punctuator_full names punctuator.OpenBrace limit full = sentence_none names limit (token.Punctuator punctuator.OpenBrace) full refl
punctuator_full names punctuator.Semicolon limit full = sentence_none names limit (token.Punctuator punctuator.Semicolon) full refl
punctuator_full names _ limit full = absurd (omega (arith, full))

keyword_full : (names : Names) (k : Keyword) (limit : ℕ) → limit < least (keyword_form k) → Refused (Sentences names) limit [] (token.Keyword k) true
keyword_full names keyword.If limit full = sentence_low names limit (token.Keyword keyword.If) full refl refl
keyword_full names keyword.While limit full = sentence_low names limit (token.Keyword keyword.While) full refl refl
keyword_full names keyword.Do limit full = sentence_low names limit (token.Keyword keyword.Do) full refl refl
keyword_full names keyword.For limit full = sentence_low names limit (token.Keyword keyword.For) full refl refl
keyword_full names keyword.Switch limit full = sentence_low names limit (token.Keyword keyword.Switch) full refl refl
keyword_full names keyword.Goto limit full = sentence_none names limit (token.Keyword keyword.Goto) full refl
keyword_full names keyword.Continue limit full = sentence_none names limit (token.Keyword keyword.Continue) full refl
keyword_full names keyword.Break limit full = sentence_none names limit (token.Keyword keyword.Break) full refl
keyword_full names keyword.Return limit full = sentence_none names limit (token.Keyword keyword.Return) full refl
keyword_full names _ limit full = absurd (omega (arith, full))

-- the limit doesn't allow the lowest statement of a form
pub form_full : (names : Names) (first second : TokenKind) (limit : ℕ) → limit < least (form_of names first second)
    → Refused (Sentences names) limit [] first true
form_full names (token.Name name) second limit full =
    sentence_low names limit (token.Name name) (let l = name_low (is_colon second) (is_among names name) in omega (arith, l, full)) refl refl
form_full names (token.Punctuator m) second limit full = punctuator_full names m limit full
form_full names (token.Keyword k) second limit full = keyword_full names k limit full
form_full names (token.Number n) second limit full = absurd (omega (arith, full))
form_full names (token.Character v) second limit full = absurd (omega (arith, full))
form_full names (token.Text b) second limit full = absurd (omega (arith, full))
form_full names (token.Unsupported w) second limit full = absurd (omega (arith, full))
form_full names token.Attribute second limit full = absurd (omega (arith, full))

-- the tokens of a label
pub label_name : (first second : TokenKind) → is_labelled first second ≡ true
    → (name : List ℕ) × (first ≡ token.Name name) × (second ≡ token.Punctuator punctuator.Colon)
label_name (token.Name name) (token.Punctuator punctuator.Colon) e = (name, refl, refl)
label_name (token.Name name) _ e = absurd (false≢true e)
label_name (token.Punctuator m) second e = absurd (false≢true e)
label_name (token.Keyword k) second e = absurd (false≢true e)
label_name (token.Number n) second e = absurd (false≢true e)
label_name (token.Character v) second e = absurd (false≢true e)
label_name (token.Text b) second e = absurd (false≢true e)
label_name (token.Unsupported w) second e = absurd (false≢true e)
label_name token.Attribute second e = absurd (false≢true e)

pub no_colon : (second : TokenKind) → is_colon second ≡ false → second ≡ token.Punctuator punctuator.Colon → ⊥
no_colon second e k = false≢true (sym e ∙ ap is_colon k)

run_name_form : (c t : Bool) → name_form c t ≡ form.Run → (c ≡ false) × (t ≡ false)
run_name_form true t e = absurd cc
run_name_form false true e = absurd cc
run_name_form false false e = (refl, refl)

-- a name that begins an expression isn't a typedef name, and no colon follows it
pub run_name : (names : Names) (name : List ℕ) (second : TokenKind) → form_of names (token.Name name) second ≡ form.Run
    → (is_colon second ≡ false) × (is_among names name ≡ false)
run_name names name second e = run_name_form (is_colon second) (is_among names name) e

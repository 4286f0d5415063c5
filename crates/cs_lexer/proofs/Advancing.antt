-- A piece takes at least one byte, and a linemarker's line is bounded: for the loop of `cut`.
use Rattle.std.proofs.Common.{◌≡◌, ℕ, ◌+◌, ◌<◌, ◌≤◌, Bool, true, false, cond, ◌&&◌, List, [], ◌∷◌, length, take, drop, Option}
use Rattle.std.proofs.Common.{Some, None, nat_lt, refl, sym, subst, arith}
use Rattle.std.specs.Prelude.{◌==◌, nat_le, nat_eq}
use Rattle.std.specs.List.{take_while, starts_with}
use Rattle.std.proofs.lemmas.Bool.{and_parts}
use Rattle.std.proofs.lemmas.Bool.Decides.{nat_tests}
use Rattle.std.proofs.lemmas.List.Sums.{take_while-cons}
use Rattle.cs_lexer.specs.declared.digits.Base.{Base}
use Rattle.cs_lexer.specs.declared.digits.Base.TheVariants.{Octal, Decimal, Hexadecimal}
use Rattle.cs_lexer.specs.declared.directive.FileName.{FileName}
use Rattle.cs_lexer.specs.declared.directive.FileName.TheVariants.{Absent, Given, Bad}
use Rattle.cs_lexer.specs.declared.lexeme.Lexeme.{Lexeme}
use Rattle.cs_lexer.specs.declared.lexeme.Lexeme.TheVariants.{Gap, Marker, Token, Refused}
use Rattle.cs_lexer.specs.declared.lexeme.Fault.{Fault}
use Rattle.cs_lexer.specs.declared.lexeme.Fault.TheVariants as faults
use Rattle.cs_ast.specs.declared.token.IntegerConstant.{IntegerConstant}
use Rattle.cs_lexer.specs.Escapes.{item_at}
use Rattle.cs_lexer.specs.declared.escape.Item.{Item}
use Rattle.cs_lexer.specs.declared.escape.Item.TheVariants as items
use Rattle.cs_lexer.specs.declared.number.Suffix.{Suffix}
use Rattle.cs_ast.specs.declared.token.TokenKind.{TokenKind}
use Rattle.cs_ast.specs.declared.token.TokenKind.TheVariants as kinds
use Rattle.cs_lexer.specs.declared.piece.Class.{Class}
use Rattle.cs_lexer.specs.declared.piece.Class.TheVariants as classes
use Rattle.cs_lexer.specs.Classes.{is_space, is_letter, is_digit, is_name_byte, begins_with}
use Rattle.cs_lexer.specs.Comments.{is_inside, CommentGives}
use Rattle.cs_lexer.specs.Digits.{run, value_of, is_digit_of}
use Rattle.cs_lexer.specs.Directives.{directive_at, marker, with_line, with_name, bounded, line_number, number_part, file_name, next_line, whole_length}
use Rattle.cs_lexer.specs.Directives.{skip_blanks}
use Rattle.cs_lexer.specs.Punctuators.{PunctuatorGives}
use Rattle.cs_lexer.specs.Numbers.{number_at, base_of, is_hexadecimal, prefix_length, suffix_of, constant, is_too_wide, goes_on, is_decimal}
use Rattle.cs_lexer.specs.Quoted.{character_in, character_of, character_with, signed, closing, TextIn, TextBodyGives}
use Rattle.cs_lexer.specs.Words.{WordGives}
use Rattle.cs_lexer.specs.Pieces.{Begins, BeginsAs, other_class}
use Rattle.cs_lexer.proofs.LongestPunctuator.{punctuator_has_one}

-- a line number, if there is one, is at most 2,147,483,647
abbrev pub LineFits : Option ℕ → Type 0
LineFits None = Unit {0}
LineFits (Some line) = line ≤ 2147483647

-- a piece has at least one byte
abbrev pub Advances : Lexeme → Type 0
Advances (Gap size) = 0 < size
Advances (Marker size next name) = (0 < size) × LineFits next
Advances (Token size kind) = 0 < size
Advances (Refused fault size) = Unit {0}

some_run : (p : ℕ → Bool) (b : ℕ) (bytes : List ℕ) → p b ≡ true → 0 < length (take_while p (b ∷ bytes))
some_run p b bytes h = rw (take_while-cons p b bytes, h) (omega arith)

-- lines that begin with `#`
name_advances : (file : FileName) (next : Option ℕ) (size : ℕ) → 0 < size → LineFits next → Advances (with_name file next size)
name_advances Absent next size some fits = (some, fits)
name_advances (Given name) next size some fits = (some, fits)
name_advances Bad next size some fits = tt

next_fits : (line : ℕ) (is_ended : Bool) → line ≤ 2147483647 → LineFits (next_line line is_ended)
next_fits line true fits = fits
next_fits line false fits = tt

line_advances : (line : Option ℕ) (file : FileName) (size : ℕ) (is_ended : Bool) → 0 < size → LineFits line
    → Advances (with_line line file size is_ended)
line_advances None file size is_ended some fits = tt
line_advances (Some line) file size is_ended some fits = name_advances file (next_line line is_ended) size some (next_fits line is_ended fits)

bounded_fits : (value : Option ℕ) → LineFits (bounded value)
bounded_fits None = tt
bounded_fits (Some value) =
    elim (nat_le value 2147483647) as (λ t. nat_le value 2147483647 ≡ t → LineFits (cond t (Some value) None)) [
      | true ↦ λ e. grind (arith, nat_tests)
      | false ↦ λ _. tt
    ] refl

number_fits : (t : Bool) (value : Option ℕ) → LineFits (cond t None (bounded value))
number_fits true value = tt
number_fits false value = bounded_fits value

marker_advances : (body : List ℕ) (size : ℕ) (is_ended : Bool) → 0 < size → Advances (marker body size is_ended)
marker_advances body size is_ended some =
    line_advances (line_number (number_part body)) (file_name (drop (length (run Decimal (number_part body))) (number_part body))) size is_ended some
    (number_fits (length (run Decimal (number_part body)) == 0) (value_of Decimal (run Decimal (number_part body))))

pragma_advances : (t : Bool) (body : List ℕ) (size : ℕ) (is_ended : Bool) → 0 < size → Advances (cond t (Gap size) (marker body size is_ended))
pragma_advances true body size is_ended some = some
pragma_advances false body size is_ended some = marker_advances body size is_ended some

whole_some : (count : ℕ) (is_ended : Bool) → 0 < count → 0 < whole_length count is_ended
whole_some count true some = omega arith
whole_some count false some = some

directive_advances : (b : ℕ) (bytes : List ℕ) → (b == 35) ≡ true → Advances (directive_at (b ∷ bytes))
directive_advances b bytes is =
    let line = take_while is_inside (b ∷ bytes) in
    let is_ended = nat_lt (length line) (length (b ∷ bytes)) in
    pragma_advances (starts_with nat_eq (skip_blanks (drop 1 line)) (112 ∷ 114 ∷ 97 ∷ 103 ∷ 109 ∷ 97 ∷ [])) (skip_blanks (drop 1 line))
    (whole_length (length line) is_ended) is_ended (whole_some (length line) is_ended (some_run is_inside b bytes (grind (arith, nat_tests))))

comment_advances : (inside : List ℕ) (found : Lexeme) → CommentGives inside found → Advances found
comment_advances inside (Gap size) h = omega arith
comment_advances inside (Refused fault size) h = tt
comment_advances inside (Marker size next name) h = absurd h
comment_advances inside (Token size kind) h = absurd h

word_advances : (word : List ℕ) (found : Lexeme) → 0 < length word → WordGives word found → Advances found
word_advances word (Gap size) some h = omega arith
word_advances word (Token size kind) some h = omega arith
word_advances word (Refused fault size) some h = absurd h
word_advances word (Marker size next name) some h = absurd h

punctuator_token : (bytes : List ℕ) (size : ℕ) (kind : TokenKind) → PunctuatorGives bytes (Token size kind) → 0 < size
punctuator_token bytes size (kinds.Punctuator punctuator) h = omega (arith, h.0, punctuator_has_one punctuator)
punctuator_token bytes size _ h = absurd h

punctuator_advances : (bytes : List ℕ) (found : Lexeme) → PunctuatorGives bytes found → Advances found
punctuator_advances bytes (Token size kind) h = punctuator_token bytes size kind h
punctuator_advances bytes (Refused fault size) h = tt
punctuator_advances bytes (Gap size) h = absurd h
punctuator_advances bytes (Marker size next name) h = absurd h

text_token : (body : List ℕ) (size : ℕ) (kind : TokenKind) → TextBodyGives body (Token size kind) → 0 < size
text_token body size (kinds.Text values) h = omega (arith, h.0)
text_token body size _ h = absurd h

text_advances : (body : List ℕ) (found : Lexeme) → TextBodyGives body found → Advances found
text_advances body (Token size kind) h = text_token body size kind h
text_advances body (Refused fault size) h = tt
text_advances body (Gap size) h = absurd h
text_advances body (Marker size next name) h = absurd h

refused_advances : (found : Lexeme) → found ≡ Refused faults.Unclosed 0 → Advances found
refused_advances found is = subst Advances (sym is) tt

quoted_advances : (bytes : List ℕ) (end : Option ℕ) (found : Lexeme) → TextIn bytes end found → Advances found
quoted_advances bytes None found h = refused_advances found h
quoted_advances bytes (Some count) found h = text_advances _ found h

-- a token of at least one byte, or a fault
decided : (t : Bool) (fault : Fault) (before size : ℕ) (kind : TokenKind) → 0 < size → Advances (cond t (Refused fault before) (Token size kind))
decided true fault before size kind some = tt
decided false fault before size kind some = some

item_advances : (item : Item) (count : ℕ) → Advances (character_with item count)
item_advances (items.Refused fault) count = tt
item_advances (items.Byte byte size) count = decided (nat_lt size count) faults.BadByte (size + 1) (count + 2) (kinds.Character (signed byte)) (omega arith)

body_advances : (body : List ℕ) → Advances (character_of body)
body_advances [] = tt
body_advances (b ∷ bytes) = item_advances (item_at (b ∷ bytes)) (length (b ∷ bytes))

character_advances : (bytes : List ℕ) (end : Option ℕ) → Advances (character_in bytes end)
character_advances bytes None = tt
character_advances bytes (Some count) = body_advances (take count bytes)

-- integer constants
judged_advances : (wide bad : Bool) (size : ℕ) (number : IntegerConstant) → 0 < size
    → Advances (cond wide (Refused faults.WideNumber 0) (cond bad (Refused faults.BadByte size) (Token size (kinds.Number number))))
judged_advances true bad size number some = tt
judged_advances false bad size number some = decided bad faults.BadByte size size (kinds.Number number) some

constant_advances : (base : Base) (value : Option ℕ) (suffix : Suffix) (size : ℕ) (bytes : List ℕ) → 0 < size
    → Advances (constant base value suffix size bytes)
constant_advances base None suffix size bytes some = tt
constant_advances base (Some value) suffix size bytes some =
    judged_advances (is_too_wide base suffix value) (goes_on (drop size bytes)) size
    (record { value = value; decimal = is_decimal base; unsigned = suffix.unsigned; length = suffix.length }) some

some_digits : (b : ℕ) (bytes : List ℕ) (hexadecimal octal : Bool) → is_digit b ≡ true → (b == 48) ≡ octal
    → (let base = cond hexadecimal Hexadecimal (cond octal Octal Decimal) in
    0 < prefix_length base + length (run base (drop (prefix_length base) (b ∷ bytes))))
some_digits b bytes true octal digit first = omega arith
some_digits b bytes false true digit first = omega (arith, some_run (is_digit_of Octal) b bytes (grind (arith, nat_tests)))
some_digits b bytes false false digit first = omega (arith, some_run (is_digit_of Decimal) b bytes digit)

number_advances : (b : ℕ) (bytes : List ℕ) → is_digit b ≡ true → Advances (number_at (b ∷ bytes))
number_advances b bytes digit =
    let base = base_of (b ∷ bytes) in
    let digits = drop (prefix_length base) (b ∷ bytes) in
    let some : 0 < prefix_length base + length (run base digits) = some_digits b bytes (is_hexadecimal (b ∷ bytes)) (b == 48) digit refl in
    constant_advances base (value_of base (run base digits)) (suffix_of (drop (length (run base digits)) digits))
    (prefix_length base + length (run base digits) + (suffix_of (drop (length (run base digits)) digits)).bytes) (b ∷ bytes) (omega arith)

-- two classes and the test that selects one
choose : (t : Bool) (one other : Class) (bytes : List ℕ) (found : Lexeme) → (t ≡ true → BeginsAs one bytes found → Advances found)
    → (t ≡ false → BeginsAs other bytes found → Advances found) → BeginsAs (cond t one other) bytes found → Advances found
choose true one other bytes found here elsewhere h = here refl h
choose false one other bytes found here elsewhere h = elsewhere refl h

other_advances : (b : ℕ) (bytes : List ℕ) (found : Lexeme) → BeginsAs (other_class b) (b ∷ bytes) found → Advances found
other_advances b bytes found =
    choose (is_digit b) classes.Number _ (b ∷ bytes) found (λ digit is. subst Advances (sym is) (number_advances b bytes digit)) (λ _.
    choose (b == 39) classes.Character _ (b ∷ bytes) found (λ _ is. subst Advances (sym is) (character_advances bytes (closing 39 false bytes))) (λ _.
    choose (b == 34) classes.Text classes.Punctuator (b ∷ bytes) found (λ _ h. quoted_advances bytes (closing 34 false bytes) found h)
    (λ _ h. punctuator_advances (b ∷ bytes) found h)))

-- a piece at the front of some bytes has at least one byte
pub advances : (is_line_start : Bool) (bytes : List ℕ) (found : Lexeme) → 0 < length bytes → Begins is_line_start bytes found → Advances found
advances is_line_start [] found some = absurd (omega arith)
advances is_line_start (b ∷ bytes) found some =
    choose (is_line_start && (b == 35)) classes.Directive _ (b ∷ bytes) found
    (λ e is. subst Advances (sym is) (directive_advances b bytes (and_parts is_line_start (b == 35) e).1)) (λ _.
    choose (is_space b) classes.Space _ (b ∷ bytes) found (λ e is. subst Advances (sym is) (some_run is_space b bytes e)) (λ _.
    choose ((b == 47) && begins_with 42 bytes) classes.BlockComment _ (b ∷ bytes) found (λ _ h. comment_advances _ found h) (λ _.
    choose ((b == 47) && begins_with 47 bytes) classes.LineComment _ (b ∷ bytes) found
    (λ e is.
    subst Advances (sym is) (some_run is_inside b bytes (let slash : (b == 47) ≡ true = (and_parts (b == 47) (begins_with 47 bytes) e).0 in
    grind (arith, nat_tests)))) (λ _.
    choose (is_letter b) classes.Word _ (b ∷ bytes) found (λ e h. word_advances _ found (some_run is_name_byte b bytes (rw e refl)) h) (λ _.
    other_advances b bytes found)))))

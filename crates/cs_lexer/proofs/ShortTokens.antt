-- The tokens of a text plus the bytes of their string literals are no more than its bytes: for `lexed_texts_are_bounded`.
use Rattle.std.proofs.Common.{ℕ, zero, suc, ◌+◌, ◌<◌, ◌≤◌, Bool, true, false, cond, List, [], ◌∷◌, ◌++◌, length, length-append}
use Rattle.std.proofs.Common.{length-drop, length-take, take, drop, Option, Some, None, sym, ap, subst, arith}
use Rattle.std.specs.Prelude.{nat_lt, nat_le, ◌&&◌, ◌==◌, codes, is_some, unwrap_or, nat_eq}
use Rattle.std.specs.List.{sum_by, take_while, starts_with}
use Rattle.std.proofs.lemmas.List.Sums.{sum_by-cons, sum_by_push}
use Rattle.cs_ast.specs.declared.place.Place.{Place}
use Rattle.cs_ast.specs.declared.token.Token.{Token}
use Rattle.cs_ast.specs.declared.token.TokenKind.{TokenKind}
use Rattle.cs_ast.specs.declared.token.TokenKind.TheVariants as token
use Rattle.cs_lexer.specs.declared.digits.Base.{Base}
use Rattle.cs_lexer.specs.declared.digits.Base.TheVariants.{Octal, Decimal, Hexadecimal}
use Rattle.cs_lexer.specs.declared.directive.FileName.{FileName}
use Rattle.cs_lexer.specs.declared.directive.FileName.TheVariants.{Absent, Given, Bad}
use Rattle.cs_lexer.specs.declared.escape.Item.{Item}
use Rattle.cs_lexer.specs.declared.escape.Item.TheVariants as items
use Rattle.cs_lexer.specs.declared.lexeme.Fault.TheVariants.{BadByte, WideNumber}
use Rattle.cs_lexer.specs.declared.lexeme.Lexeme.{Lexeme}
use Rattle.cs_lexer.specs.declared.lexeme.Lexeme.TheVariants as found
use Rattle.cs_lexer.specs.declared.number.Suffix.{Suffix}
use Rattle.cs_lexer.specs.declared.piece.Class.{Class}
use Rattle.cs_lexer.specs.declared.piece.Class.TheVariants as class
use Rattle.cs_lexer.specs.declared.spot.Spot.{Spot}
use Rattle.cs_lexer.specs.Attributes.{has_group, group_length, without_attributes}
use Rattle.cs_lexer.specs.Comments.{is_inside, CommentGives}
use Rattle.cs_lexer.specs.Cuttings.{Reaches, begins, gap, marker, token as one_token, token_at}
use Rattle.cs_lexer.specs.Digits.{run, value_of}
use Rattle.cs_lexer.specs.Directives.{line_number, number_part, file_name, with_line, marker as marker_of, whole_length, line_of, skip_blanks, directive_at}
use Rattle.cs_lexer.specs.Escapes.{simple, byte_of, coded, begins_hexadecimal, numeric, simple_or, escape, item_at, Advances}
use Rattle.cs_lexer.specs.Classes.{is_octal_digit}
use Rattle.cs_ast.specs.TokenSizes.{token_size}
use Rattle.cs_lexer.specs.Extent.{token_extent, LexedTokensAreShort}
use Rattle.cs_lexer.specs.Punctuators.{IsPunctuatorToken, PunctuatorGives}
use Rattle.cs_lexer.specs.Numbers.{base_of, prefix_length, suffix_of, goes_on, is_decimal, is_too_wide, constant, number_at}
use Rattle.cs_lexer.specs.Pieces.{class_of, BeginsAs}
use Rattle.cs_lexer.specs.Quoted.{closing, signed, character_with, character_of, character_in, Reads, begins as reads_none, item, IsTextToken, TextBodyGives}
use Rattle.cs_lexer.specs.Quoted.{TextIn}
use Rattle.cs_lexer.specs.Texts.{first_text, text_of_kind, after_text, joined_to, joined}
use Rattle.cs_lexer.specs.Words.{WordIs, WordGives}
use Rattle.cs_lexer.proofs.Advancing.{advances}

-- -- pieces: a string literal has fewer bytes than its piece, and than the remaining bytes

abbrev KindFits : ℕ → ℕ → TokenKind → Type 0
KindFits left size (token.Text bytes) = (length bytes < size) × (length bytes < left)
KindFits left size other = Unit {0}

abbrev PieceFits : ℕ → Lexeme → Type 0
PieceFits left (found.Token size kind) = KindFits left size kind
PieceFits left (found.Gap size) = Unit {0}
PieceFits left (found.Marker size next name) = Unit {0}
PieceFits left (found.Refused fault size) = Unit {0}

either-fits : (left : ℕ) (b : Bool) (one other : Lexeme) → PieceFits left one → PieceFits left other → PieceFits left (cond b one other)
either-fits left true one other h k = h
either-fits left false one other h k = k

-- lines that begin with `#`
with_line-fits : (left : ℕ) (line : Option ℕ) (file : FileName) (size : ℕ) (is_ended : Bool) → PieceFits left (with_line line file size is_ended)
with_line-fits left None file size is_ended = tt
with_line-fits left (Some line) Absent size is_ended = tt
with_line-fits left (Some line) (Given name) size is_ended = tt
with_line-fits left (Some line) Bad size is_ended = tt

line-fits : (left : ℕ) (body : List ℕ) (size : ℕ) (is_ended : Bool) → PieceFits left (line_of body size is_ended)
line-fits left body size is_ended =
    either-fits left (starts_with nat_eq body (codes "pragma")) (found.Gap size) (marker_of body size is_ended) tt
    (with_line-fits left (line_number (number_part body)) (file_name (drop (length (run Decimal (number_part body))) (number_part body))) size is_ended)

directive-fits : (left : ℕ) (bytes : List ℕ) → PieceFits left (directive_at bytes)
directive-fits left bytes =
    let line = take_while is_inside bytes in
    line-fits left (skip_blanks (drop 1 line)) (whole_length (length line) (nat_lt (length line) (length bytes))) (nat_lt (length line) (length bytes))

comment-fits : (left : ℕ) (inside : List ℕ) (piece : Lexeme) → CommentGives inside piece → PieceFits left piece
comment-fits left inside (found.Token size kind) h = absurd h
comment-fits left inside (found.Gap size) h = tt
comment-fits left inside (found.Refused fault size) h = tt
comment-fits left inside (found.Marker size next name) h = tt

word_is-fits : (left size : ℕ) (word : List ℕ) (kind : TokenKind) → WordIs word kind → KindFits left size kind
word_is-fits left size word (token.Text bytes) h = absurd h
word_is-fits left size word other h = tt

word-fits : (left : ℕ) (word : List ℕ) (piece : Lexeme) → WordGives word piece → PieceFits left piece
word-fits left word (found.Token size kind) h = word_is-fits left size word kind h.1
word-fits left word (found.Gap size) h = tt
word-fits left word (found.Marker size next name) h = tt
word-fits left word (found.Refused fault size) h = tt

punctuator_is-fits : (left : ℕ) (bytes : List ℕ) (size : ℕ) (kind : TokenKind) → IsPunctuatorToken bytes size kind → KindFits left size kind
punctuator_is-fits left bytes size (token.Text values) h = absurd h
punctuator_is-fits left bytes size other h = tt

punctuator-fits : (left : ℕ) (bytes : List ℕ) (piece : Lexeme) → PunctuatorGives bytes piece → PieceFits left piece
punctuator-fits left bytes (found.Token size kind) h = punctuator_is-fits left bytes size kind h
punctuator-fits left bytes (found.Gap size) h = tt
punctuator-fits left bytes (found.Marker size next name) h = tt
punctuator-fits left bytes (found.Refused fault size) h = tt

constant-fits : (left : ℕ) (base : Base) (value : Option ℕ) (suffix : Suffix) (size : ℕ) (bytes : List ℕ)
    → PieceFits left (constant base value suffix size bytes)
constant-fits left base None suffix size bytes = tt
constant-fits left base (Some value) suffix size bytes =
    let made = found.Token size (token.Number (record { value = value; decimal = is_decimal base; unsigned = suffix.unsigned; length = suffix.length })) in
    either-fits left (is_too_wide base suffix value) (found.Refused WideNumber 0) (cond (goes_on (drop size bytes)) (found.Refused BadByte size) made) tt
    (either-fits left (goes_on (drop size bytes)) (found.Refused BadByte size) made tt tt)

number-fits : (left : ℕ) (bytes : List ℕ) → PieceFits left (number_at bytes)
number-fits left bytes =
    let base = base_of bytes in
    let digits = drop (prefix_length base) bytes in
    let count = length (run base digits) in
    let suffix = suffix_of (drop count digits) in
    constant-fits left base (value_of base (run base digits)) suffix (prefix_length base + count + suffix.bytes) bytes

character_with-fits : (left : ℕ) (item : Item) (count : ℕ) → PieceFits left (character_with item count)
character_with-fits left (items.Refused fault) count = tt
character_with-fits left (items.Byte byte size) count =
    either-fits left (nat_lt size count) (found.Refused BadByte (size + 1)) (found.Token (count + 2) (token.Character (signed byte))) tt tt

character_of-fits : (left : ℕ) (bytes : List ℕ) → PieceFits left (character_of bytes)
character_of-fits left [] = tt
character_of-fits left (b ∷ bytes) = character_with-fits left (item_at (b ∷ bytes)) (length (b ∷ bytes))

character-fits : (left : ℕ) (bytes : List ℕ) (count : Option ℕ) → PieceFits left (character_in bytes count)
character-fits left bytes None = tt
character-fits left bytes (Some count) = character_of-fits left (take count bytes)

-- ---- string literals

-- a byte is written with at least one byte
either-advances : (b : Bool) (one other : Item) → Advances one → Advances other → Advances (cond b one other)
either-advances true one other h k = h
either-advances false one other h k = k

byte_of-advances : (value : Option ℕ) (size : ℕ) → 0 < size → Advances (byte_of value size)
byte_of-advances None size some = tt
byte_of-advances (Some value) size some = either-advances (nat_le value 255) (items.Byte value size) (items.Refused WideNumber) some tt

coded-advances : (base : Base) (bytes : List ℕ) (before : ℕ) → 0 < before → Advances (coded base bytes before)
coded-advances base bytes before some = byte_of-advances (value_of base (run base bytes)) (before + length (run base bytes)) (omega arith)

numeric-advances : (b : ℕ) (bytes : List ℕ) → Advances (numeric b bytes)
numeric-advances b bytes =
    let hexadecimal : Item = cond ((b == 120) && begins_hexadecimal bytes) (coded Hexadecimal bytes 2) (items.Refused BadByte) in
    let hexadecimal_advances : Advances hexadecimal =
    either-advances ((b == 120) && begins_hexadecimal bytes) (coded Hexadecimal bytes 2) (items.Refused BadByte)
    (coded-advances Hexadecimal bytes 2 (omega arith)) tt in
    either-advances (is_octal_digit b) (coded Octal (take 3 (b ∷ bytes)) 1) hexadecimal (coded-advances Octal (take 3 (b ∷ bytes)) 1 (omega arith))
    hexadecimal_advances

simple_or-advances : (simple_one : Option ℕ) (other : Item) → Advances other → Advances (simple_or simple_one other)
simple_or-advances None other h = h
simple_or-advances (Some byte) other h = omega arith

escape-advances : (bytes : List ℕ) → Advances (escape bytes)
escape-advances [] = tt
escape-advances (b ∷ bytes) = simple_or-advances (simple b) (numeric b bytes) (numeric-advances b bytes)

item-advances : (bytes : List ℕ) → Advances (item_at bytes)
item-advances [] = tt
item-advances (b ∷ bytes) = either-advances (b == 92) (escape bytes) (items.Byte b 1) (escape-advances bytes) (omega arith)

-- a body represents no more bytes than it has
reads_no_more : (body values rest : List ℕ) → Reads body values rest → length values + length rest ≤ length body
reads_no_more body values rest reads_none = omega arith
reads_no_more body values rest (item {values = earlier} {rest = left} {byte} {size} before some is) =
    let more : 0 < size = subst Advances is (item-advances left) in
    omega (arith, reads_no_more body earlier left before, length-append earlier (byte ∷ []), length-drop size left)

text_is-fits : (left : ℕ) (body : List ℕ) (size : ℕ) (kind : TokenKind) → length body < left → IsTextToken body size kind → KindFits left size kind
text_is-fits left body size (token.Text values) within h =
    let read = reads_no_more body values [] h.1 in
    (omega (arith, h.0, read), omega (arith, read))
text_is-fits left body size other within h = tt

text_body-fits : (left : ℕ) (body : List ℕ) (piece : Lexeme) → length body < left → TextBodyGives body piece → PieceFits left piece
text_body-fits left body (found.Token size kind) within h = text_is-fits left body size kind within h
text_body-fits left body (found.Gap size) within h = tt
text_body-fits left body (found.Marker size next name) within h = tt
text_body-fits left body (found.Refused fault size) within h = tt

text-fits : (left : ℕ) (bytes : List ℕ) (count : Option ℕ) (piece : Lexeme) → length bytes < left → TextIn bytes count piece → PieceFits left piece
text-fits left bytes None piece within h = subst (PieceFits left) (sym h) tt
text-fits left bytes (Some count) piece within h = text_body-fits left (take count bytes) piece (omega (arith, length-take count bytes)) h

piece-fits : (c : Class) (bytes : List ℕ) (piece : Lexeme) → 0 < length bytes → BeginsAs c bytes piece → PieceFits (length bytes) piece
piece-fits class.Directive bytes piece some h = subst (PieceFits (length bytes)) (sym h) (directive-fits (length bytes) bytes)
piece-fits class.Space bytes piece some h = subst (PieceFits (length bytes)) (sym h) tt
piece-fits class.BlockComment bytes piece some h = comment-fits (length bytes) (drop 2 bytes) piece h
piece-fits class.LineComment bytes piece some h = subst (PieceFits (length bytes)) (sym h) tt
piece-fits class.Word bytes piece some h = word-fits (length bytes) _ piece h
piece-fits class.Number bytes piece some h = subst (PieceFits (length bytes)) (sym h) (number-fits (length bytes) bytes)
piece-fits class.Character bytes piece some h =
    subst (PieceFits (length bytes)) (sym h) (character-fits (length bytes) (drop 1 bytes) (closing 39 false (drop 1 bytes)))
piece-fits class.Text bytes piece some h =
    text-fits (length bytes) (drop 1 bytes) (closing 34 false (drop 1 bytes)) piece (omega (arith, length-drop 1 bytes)) h
piece-fits class.Punctuator bytes piece some h = punctuator-fits (length bytes) bytes piece h

-- ---- tokens

abbrev extent : List Token → ℕ
extent list = sum_by token_extent list

-- a token and the bytes after it are no more than the bytes before it
one_less : (bytes : List ℕ) (size : ℕ) (kind : TokenKind) → 0 < length bytes → 0 < size → KindFits (length bytes) size kind
    → token_size kind + length (drop size bytes) ≤ length bytes
one_less bytes size (token.Text values) some more h = omega (arith, h.0, h.1, length-drop size bytes)
one_less bytes size other some more h = omega (arith, length-drop size bytes)

pieces-short : (text : List ℕ) (files : List (List ℕ)) (list : List Token) (spot : Spot) (rest : List ℕ) → Reaches text files list spot rest
    → extent list + length rest ≤ length text
pieces-short text files list spot rest begins = omega arith
pieces-short text files list spot rest (gap {files = fs} {spot = at} {rest = left} size before some piece) =
    omega (arith, pieces-short text fs list at left before, length-drop size left)
pieces-short text files list spot rest (marker {files = fs} {spot = at} {rest = left} size next name before some piece) =
    omega (arith, pieces-short text fs list at left before, length-drop size left)
pieces-short text files list spot rest (one_token {files = fs} {list = earlier} {spot = at} {rest = left} size kind before some piece) =
    let more : 0 < size = advances at.is_line_start left (found.Token size kind) some piece in
    omega (
      arith,
      pieces-short text fs earlier at left before,
      sum_by_push token_extent earlier (token_at kind at.place),
      one_less left size kind some more (piece-fits (class_of at.is_line_start left) left (found.Token size kind) some piece),
    )

kept-short : (skipped : ℕ) (list : List Token) → extent (without_attributes skipped list) ≤ extent list
kept-short skipped [] = omega arith
kept-short (suc skipped) (t ∷ ts) = omega (arith, kept-short skipped ts, sum_by-cons token_extent t ts)
kept-short zero (t ∷ ts) = by_test (has_group t ts) (kept-short (group_length ts) ts) (kept-short 0 ts)
  where
    by_test : (b : Bool) → extent (without_attributes (group_length ts) ts) ≤ extent ts → extent (without_attributes 0 ts) ≤ extent ts
        → extent (cond b (without_attributes (group_length ts) ts) (t ∷ without_attributes 0 ts)) ≤ extent (t ∷ ts)
    by_test true following next = omega (arith, following, sum_by-cons token_extent t ts)
    by_test false following next = omega (arith, next, sum_by-cons token_extent t ts, sum_by-cons token_extent t (without_attributes 0 ts))

-- the bytes of a string literal at the front, and the extent after it, are no more than the whole extent
front-short : (list : List Token) → length (unwrap_or (first_text list) []) + extent (after_text list) ≤ extent list
front-short [] = omega arith
front-short (t ∷ ts) = by_kind t.kind t.place
  where
    by_kind : (kind : TokenKind) (place : Place)
        → length (unwrap_or (text_of_kind kind) []) + extent (cond (is_some (text_of_kind kind)) ts (token_at kind place ∷ ts))
        ≤ extent (token_at kind place ∷ ts)
    by_kind (token.Text bytes) place = omega (arith, sum_by-cons token_extent (token_at (token.Text bytes) place) ts)
    by_kind other place = omega arith

joined_to-short : (kind : TokenKind) (place : Place) (list : List Token)
    → extent (joined_to (text_of_kind kind) (token_at kind place) list) ≤ token_size kind + extent list
joined_to-short (token.Text bytes) place list =
    let more = unwrap_or (first_text list) [] in
    let made = token_at (token.Text (bytes ++ more)) place in
    omega (arith, sum_by-cons token_extent made (after_text list), length-append bytes more, front-short list)
joined_to-short other place list = omega (arith, sum_by-cons token_extent (token_at other place) list)

joined-short : (list : List Token) → extent (joined list) ≤ extent list
joined-short [] = omega arith
joined-short (t ∷ ts) = omega (arith, joined_to-short t.kind t.place (joined ts), joined-short ts, sum_by-cons token_extent t ts)

pub lexed_tokens_are_short : LexedTokensAreShort
lexed_tokens_are_short text lexed h =
    omega (
      arith,
      ap extent h.tokens_are,
      joined-short (without_attributes 0 h.pieces),
      kept-short 0 h.pieces,
      pieces-short text lexed.files.items h.pieces h.whole.spot [] h.whole.reaches,
    )

-- The lexer accepts no constant that is too wide: for the tokens of lexed files.
use Rattle.std.proofs.Common.{◌-◌, ◌≡◌, ℕ, zero, suc, ◌+◌, ◌^◌, ◌<◌, Bool, true, false, cond, List, [], ◌∷◌, length, take, drop}
use Rattle.std.proofs.Common.{Option, Some, None, refl, sym, subst, arith}
use Rattle.std.specs.Prelude.{pos, negsuc, nat_le, nat_lt, not, ◌&&◌, codes, IfSome, is_some, FitsSigned, nat_eq}
use Rattle.std.specs.Int.{w32}
use Rattle.std.specs.Str.Parse.{digits_value}
use Rattle.std.specs.List.{All, AllByRecursion, take_while, starts_with}
use Rattle.std.proofs.lemmas.Bool.{ltb-true, leb-false}
use Rattle.std.proofs.lemmas.Int.{ints}
use Rattle.std.proofs.lemmas.List.Elements.{All-nil, All-push, All-same, All-from_recursion, recursion_from_All}
use Rattle.cs_ast.specs.declared.token.Token.{Token}
use Rattle.cs_ast.specs.declared.token.TokenKind.{TokenKind}
use Rattle.cs_ast.specs.declared.token.TokenKind.TheVariants as token
use Rattle.cs_lexer.specs.declared.digits.Base.{Base}
use Rattle.cs_lexer.specs.declared.digits.Base.TheVariants.{Decimal}
use Rattle.cs_lexer.specs.declared.directive.FileName.{FileName}
use Rattle.cs_lexer.specs.declared.directive.FileName.TheVariants.{Absent, Given, Bad}
use Rattle.cs_lexer.specs.declared.escape.Item.{Item}
use Rattle.cs_lexer.specs.declared.escape.Item.TheVariants as items
use Rattle.cs_lexer.specs.declared.lexeme.Fault.TheVariants.{BadByte, WideNumber}
use Rattle.cs_lexer.specs.declared.lexeme.Lexeme.{Lexeme}
use Rattle.cs_lexer.specs.declared.lexeme.Lexeme.TheVariants as found
use Rattle.cs_lexer.specs.declared.number.Suffix.{Suffix}
use Rattle.cs_lexer.specs.declared.piece.Class.{Class}
use Rattle.cs_lexer.specs.declared.piece.Class.TheVariants as class
use Rattle.cs_lexer.specs.declared.spot.Spot.{Spot}
use Rattle.cs_lexer.specs.Attributes.{has_group, group_length, without_attributes}
use Rattle.cs_lexer.specs.Comments.{is_inside, CommentGives}
use Rattle.cs_lexer.specs.Cuttings.{Reaches, begins, gap, marker, token as one_token, token_at}
use Rattle.cs_lexer.specs.Digits.{radix, run, value_of}
use Rattle.cs_lexer.specs.Directives.{line_number, number_part, file_name, with_line, marker as marker_of, whole_length, line_of, skip_blanks, directive_at}
use Rattle.cs_lexer.specs.Escapes.{item_at}
use Rattle.cs_lexer.specs.Lexing.{tokens_of}
use Rattle.cs_lexer.specs.Punctuators.{IsPunctuatorToken, PunctuatorGives}
use Rattle.cs_lexer.specs.Numbers.{base_of, prefix_length, suffix_of, goes_on, is_decimal, is_too_wide, constant, number_at}
use Rattle.cs_lexer.specs.Pieces.{class_of, BeginsAs}
use Rattle.cs_lexer.specs.Quoted.{closing, signed, character_with, character_of, character_in, IsTextToken, TextBodyGives, TextIn}
use Rattle.cs_lexer.specs.Texts.{text_of_kind, after_text, joined_to, joined}
use Rattle.cs_lexer.specs.Words.{WordIs, WordGives}
use Rattle.cs_ast.specs.HeldTokens.{IsHeldToken, IsHeld}
use Rattle.cs_lexer.specs.Held.{LexedTokensAreHeld}

-- ---- pieces

-- a piece that is a token isn't too wide
abbrev PieceIsHeld : Lexeme → Type 0
PieceIsHeld (found.Token size kind) = IsHeldToken kind
PieceIsHeld (found.Gap size) = Unit {0}
PieceIsHeld (found.Marker size next name) = Unit {0}
PieceIsHeld (found.Refused fault size) = Unit {0}

either-held : (b : Bool) (one other : Lexeme) → PieceIsHeld one → PieceIsHeld other → PieceIsHeld (cond b one other)
either-held true one other h k = h
either-held false one other h k = k

-- lines that begin with `#`
with_line-held : (line : Option ℕ) (file : FileName) (size : ℕ) (is_ended : Bool) → PieceIsHeld (with_line line file size is_ended)
with_line-held None file size is_ended = tt
with_line-held (Some line) Absent size is_ended = tt
with_line-held (Some line) (Given name) size is_ended = tt
with_line-held (Some line) Bad size is_ended = tt

line-held : (body : List ℕ) (size : ℕ) (is_ended : Bool) → PieceIsHeld (line_of body size is_ended)
line-held body size is_ended =
    either-held (starts_with nat_eq body (codes "pragma")) (found.Gap size) (marker_of body size is_ended) tt
    (with_line-held (line_number (number_part body)) (file_name (drop (length (run Decimal (number_part body))) (number_part body))) size is_ended)

directive-held : (bytes : List ℕ) → PieceIsHeld (directive_at bytes)
directive-held bytes =
    let line = take_while is_inside bytes in
    line-held (skip_blanks (drop 1 line)) (whole_length (length line) (nat_lt (length line) (length bytes))) (nat_lt (length line) (length bytes))

comment-held : (inside : List ℕ) (piece : Lexeme) → CommentGives inside piece → PieceIsHeld piece
comment-held inside (found.Gap size) h = tt
comment-held inside (found.Refused fault size) h = tt
comment-held inside (found.Token size kind) h = absurd h
comment-held inside (found.Marker size next name) h = tt

word_is-held : (word : List ℕ) (kind : TokenKind) → WordIs word kind → IsHeldToken kind
word_is-held word (token.Number constant) h = absurd h
word_is-held word (token.Character value) h = absurd h
word_is-held word other h = tt

word-held : (word : List ℕ) (piece : Lexeme) → WordGives word piece → PieceIsHeld piece
word-held word (found.Token size kind) h = word_is-held word kind h.1
word-held word (found.Gap size) h = tt
word-held word (found.Marker size next name) h = tt
word-held word (found.Refused fault size) h = tt

punctuator_is-held : (bytes : List ℕ) (size : ℕ) (kind : TokenKind) → IsPunctuatorToken bytes size kind → IsHeldToken kind
punctuator_is-held bytes size (token.Number constant) h = absurd h
punctuator_is-held bytes size (token.Character value) h = absurd h
punctuator_is-held bytes size other h = tt

punctuator-held : (bytes : List ℕ) (piece : Lexeme) → PunctuatorGives bytes piece → PieceIsHeld piece
punctuator-held bytes (found.Token size kind) h = punctuator_is-held bytes size kind h
punctuator-held bytes (found.Gap size) h = tt
punctuator-held bytes (found.Marker size next name) h = tt
punctuator-held bytes (found.Refused fault size) h = tt

text_is-held : (body : List ℕ) (size : ℕ) (kind : TokenKind) → IsTextToken body size kind → IsHeldToken kind
text_is-held body size (token.Number constant) h = absurd h
text_is-held body size (token.Character value) h = absurd h
text_is-held body size other h = tt

text_body-held : (body : List ℕ) (piece : Lexeme) → TextBodyGives body piece → PieceIsHeld piece
text_body-held body (found.Token size kind) h = text_is-held body size kind h
text_body-held body (found.Gap size) h = tt
text_body-held body (found.Marker size next name) h = tt
text_body-held body (found.Refused fault size) h = tt

text-held : (bytes : List ℕ) (count : Option ℕ) (piece : Lexeme) → TextIn bytes count piece → PieceIsHeld piece
text-held bytes None piece h = subst PieceIsHeld (sym h) tt
text-held bytes (Some count) piece h = text_body-held (take count bytes) piece h

-- ---- integer constants

value_of-fits : (base : Base) (digits : List ℕ) → IfSome (value_of base digits) (λ v. v < 2 ^ 64)
value_of-fits base digits = by_test _ refl
  where
    by_test : (b : Bool) → nat_lt (digits_value (radix base) digits) (2 ^ 64) ≡ b
        → IfSome (cond b (Some (digits_value (radix base) digits)) None) (λ v. v < 2 ^ 64)
    by_test true is = ltb-true _ _ is
    by_test false is = tt

-- a decimal one without `u` is narrow
narrow : (decimal unsigned wide : Bool) → (decimal && (not unsigned && wide)) ≡ false → decimal ≡ true → unsigned ≡ false → wide ≡ false
narrow true false false h d u = refl
narrow true false true h d u = absurd cc
narrow true true wide h d u = absurd cc
narrow false unsigned wide h d u = absurd cc

constant-held : (base : Base) (value : Option ℕ) (suffix : Suffix) (size : ℕ) (bytes : List ℕ) → IfSome value (λ v. v < 2 ^ 64)
    → PieceIsHeld (constant base value suffix size bytes)
constant-held base None suffix size bytes h = tt
constant-held base (Some value) suffix size bytes h = by_test (is_too_wide base suffix value) refl
  where
    made : Lexeme
    made = found.Token size (token.Number (record { value = value; decimal = is_decimal base; unsigned = suffix.unsigned; length = suffix.length }))

    by_test : (b : Bool) → is_too_wide base suffix value ≡ b
        → PieceIsHeld (cond b (found.Refused WideNumber 0) (cond (goes_on (drop size bytes)) (found.Refused BadByte size) made))
    by_test true is = tt
    by_test false is =
        either-held (goes_on (drop size bytes)) (found.Refused BadByte size) made tt
        (record {
          fits = h;
          fits_signed = λ decimal unsigned. leb-false (2 ^ 63) value (narrow (is_decimal base) suffix.unsigned (nat_le (2 ^ 63) value) is decimal unsigned);
        })

number-held : (bytes : List ℕ) → PieceIsHeld (number_at bytes)
number-held bytes =
    let base = base_of bytes in
    let digits = drop (prefix_length base) bytes in
    let count = length (run base digits) in
    let suffix = suffix_of (drop count digits) in
    constant-held base (value_of base (run base digits)) suffix (prefix_length base + count + suffix.bytes) bytes (value_of-fits base (run base digits))

-- ---- characters

signed-fits : (byte : ℕ) → FitsSigned w32 (signed byte)
signed-fits byte = by_test (nat_lt byte 128) refl
  where
    by_test : (b : Bool) → nat_lt byte 128 ≡ b → FitsSigned w32 (cond b (pos byte) (negsuc (255 - byte)))
    by_test true is = let low = ltb-true byte 128 is in omega (arith, ints, low)
    by_test false is = omega (arith, ints)

character_with-held : (item : Item) (count : ℕ) → PieceIsHeld (character_with item count)
character_with-held (items.Refused fault) count = tt
character_with-held (items.Byte byte size) count =
    either-held (nat_lt size count) (found.Refused BadByte (size + 1)) (found.Token (count + 2) (token.Character (signed byte))) tt (signed-fits byte)

character_of-held : (bytes : List ℕ) → PieceIsHeld (character_of bytes)
character_of-held [] = tt
character_of-held (b ∷ bytes) = character_with-held (item_at (b ∷ bytes)) (length (b ∷ bytes))

character-held : (bytes : List ℕ) (count : Option ℕ) → PieceIsHeld (character_in bytes count)
character-held bytes None = tt
character-held bytes (Some count) = character_of-held (take count bytes)

piece-held : (c : Class) (bytes : List ℕ) (piece : Lexeme) → BeginsAs c bytes piece → PieceIsHeld piece
piece-held class.Directive bytes piece h = subst PieceIsHeld (sym h) (directive-held bytes)
piece-held class.Space bytes piece h = subst PieceIsHeld (sym h) tt
piece-held class.BlockComment bytes piece h = comment-held (drop 2 bytes) piece h
piece-held class.LineComment bytes piece h = subst PieceIsHeld (sym h) tt
piece-held class.Word bytes piece h = word-held _ piece h
piece-held class.Number bytes piece h = subst PieceIsHeld (sym h) (number-held bytes)
piece-held class.Character bytes piece h = subst PieceIsHeld (sym h) (character-held (drop 1 bytes) (closing 39 false (drop 1 bytes)))
piece-held class.Text bytes piece h = text-held (drop 1 bytes) (closing 34 false (drop 1 bytes)) piece h
piece-held class.Punctuator bytes piece h = punctuator-held bytes piece h

-- ---- tokens

pieces-held : (text : List ℕ) (files : List (List ℕ)) (list : List Token) (spot : Spot) (rest : List ℕ) → Reaches text files list spot rest
    → All IsHeld list
pieces-held text files list spot rest begins = All-nil IsHeld
pieces-held text files list spot rest (gap {files = fs} {spot = at} {rest = left} size before some piece) = pieces-held text fs list at left before
pieces-held text files list spot rest (marker {files = fs} {spot = at} {rest = left} size next name before some piece) = pieces-held text fs list at left before
pieces-held text files list spot rest (one_token {list = earlier} {spot = at} {rest = left} size kind before some piece) =
    All-push IsHeld earlier (token_at kind at.place) (pieces-held text files earlier at left before)
    (piece-held (class_of at.is_line_start left) left (found.Token size kind) piece)

kept-held : (skipped : ℕ) (list : List Token) → AllByRecursion IsHeld list → AllByRecursion IsHeld (without_attributes skipped list)
kept-held skipped [] h = tt
kept-held (suc skipped) (t ∷ ts) h = kept-held skipped ts h.1
kept-held zero (t ∷ ts) h = by_test (has_group t ts) (kept-held (group_length ts) ts h.1) (kept-held 0 ts h.1)
  where
    by_test : (b : Bool) → AllByRecursion IsHeld (without_attributes (group_length ts) ts) → AllByRecursion IsHeld (without_attributes 0 ts)
        → AllByRecursion IsHeld (cond b (without_attributes (group_length ts) ts) (t ∷ without_attributes 0 ts))
    by_test true following next = following
    by_test false following next = (h.0, next)

following-held : (list : List Token) → AllByRecursion IsHeld list → AllByRecursion IsHeld (after_text list)
following-held [] h = tt
following-held (t ∷ ts) h = by_test (is_some (text_of_kind t.kind))
  where
    by_test : (b : Bool) → AllByRecursion IsHeld (cond b ts (t ∷ ts))
    by_test true = h.1
    by_test false = h

joined_to-held : (bytes : Option (List ℕ)) (t : Token) (list : List Token) → IsHeld t → AllByRecursion IsHeld list
    → AllByRecursion IsHeld (joined_to bytes t list)
joined_to-held None t list h k = (h, k)
joined_to-held (Some bytes) t list h k = (tt, following-held list k)

joined-held : (list : List Token) → AllByRecursion IsHeld list → AllByRecursion IsHeld (joined list)
joined-held [] h = tt
joined-held (t ∷ ts) h = joined_to-held (text_of_kind t.kind) t (joined ts) h.0 (joined-held ts h.1)

pub lexed_tokens_are_held : LexedTokensAreHeld
lexed_tokens_are_held text lexed h =
    let pieces = recursion_from_All IsHeld h.pieces (pieces-held text lexed.files.items h.pieces h.whole.spot [] h.whole.reaches) in
    All-same IsHeld lexed.list.items (tokens_of h.pieces) h.tokens_are
    (All-from_recursion IsHeld (tokens_of h.pieces) (joined-held (without_attributes 0 h.pieces) (kept-held 0 h.pieces pieces)))

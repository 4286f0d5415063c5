-- Integer constants (C11 6.4.4.1).
use Rattle.std.specs.Prelude.{ℕ, ◌+◌, ◌^◌, Bool, true, false, not, ◌&&◌, ◌||◌, ◌==◌, List, [], ◌∷◌, length, drop, Option, Some}
use Rattle.std.specs.Prelude.{None, nat_le, if◌then◌else◌}
use Rattle.cs_lexer.specs.declared.digits.Base.{Base}
use Rattle.cs_lexer.specs.declared.digits.Base.TheVariants.{Octal, Decimal, Hexadecimal}
use Rattle.cs_ast.specs.declared.token.Length.{Length}
use Rattle.cs_ast.specs.declared.token.Length.TheVariants.{Plain, Long, LongLong}
use Rattle.cs_lexer.specs.declared.number.Suffix.{Suffix}
use Rattle.cs_ast.specs.declared.token.TokenKind.TheVariants.{Number}
use Rattle.cs_lexer.specs.declared.lexeme.Fault.TheVariants.{BadByte, WideNumber}
use Rattle.cs_lexer.specs.declared.lexeme.Lexeme.{Lexeme}
use Rattle.cs_lexer.specs.declared.lexeme.Lexeme.TheVariants.{Token, Refused}
use Rattle.cs_lexer.specs.Classes.{is_hexadecimal_digit, is_name_byte, begins_with}
use Rattle.cs_lexer.specs.Digits.{run, value_of}

-- whether bytes begin with `0x` or `0X` and a hexadecimal digit
abbrev pub is_hexadecimal : List ℕ → Bool
is_hexadecimal [] = false
is_hexadecimal (a ∷ []) = false
is_hexadecimal (a ∷ b ∷ []) = false
is_hexadecimal (a ∷ b ∷ c ∷ bytes) = (a == 48) && (((b == 120) || (b == 88)) && is_hexadecimal_digit c)

abbrev pub begins_twice : ℕ → List ℕ → Bool
begins_twice byte [] = false
begins_twice byte (b ∷ bytes) = (b == byte) && begins_with byte bytes

abbrev pub base_of : List ℕ → Base
base_of bytes = if is_hexadecimal bytes then Hexadecimal else (if begins_with 48 bytes then Octal else Decimal)

-- the number of bytes before the digits
abbrev pub prefix_length : Base → ℕ
prefix_length Octal = 0
prefix_length Decimal = 0
prefix_length Hexadecimal = 2

-- `u` or `U`
abbrev pub begins_unsigned : List ℕ → Bool
begins_unsigned bytes = begins_with 117 bytes || begins_with 85 bytes

-- `ll` or `LL`, or else `l` or `L`
abbrev pub longs : List ℕ → Length
longs bytes = if begins_twice 108 bytes || begins_twice 76 bytes then LongLong else (if begins_with 108 bytes || begins_with 76 bytes then Long else Plain)

abbrev pub width : Length → ℕ
width Plain = 0
width Long = 1
width LongLong = 2

abbrev pub unsigned_first : Length → Suffix
unsigned_first length = record { unsigned = true; length = length; bytes = 1 + width length }

abbrev pub longs_first : Length → Bool → Suffix
longs_first length unsigned = record { unsigned = unsigned; length = length; bytes = width length + (if unsigned then 1 else 0) }

-- the longest suffix that bytes begin with: `u` and `l`s in either order
abbrev pub suffix_of : List ℕ → Suffix
suffix_of bytes = if begins_unsigned bytes then unsigned_first (longs (drop 1 bytes))
    else longs_first (longs bytes) (begins_unsigned (drop (width (longs bytes)) bytes))

-- the bytes that aren't allowed directly after a number: a letter, a digit, `_` or `.`
abbrev pub goes_on : List ℕ → Bool
goes_on [] = false
goes_on (b ∷ bytes) = is_name_byte b || (b == 46)

abbrev pub is_decimal : Base → Bool
is_decimal Decimal = true
is_decimal Octal = false
is_decimal Hexadecimal = false

-- a decimal constant without `u` is at most 2^63 - 1
abbrev pub is_too_wide : Base → Suffix → ℕ → Bool
is_too_wide base suffix value = is_decimal base && (not suffix.unsigned && nat_le (2 ^ 63) value)

-- the constant with this value and suffix, which takes this number of the bytes
abbrev pub constant : Base → Option ℕ → Suffix → ℕ → List ℕ → Lexeme
constant base None suffix size bytes = Refused WideNumber 0
constant base (Some value) suffix size bytes =
    if is_too_wide base suffix value then Refused WideNumber 0
    else (if goes_on (drop size bytes) then Refused BadByte size
    else Token size (Number (record { value = value; decimal = is_decimal base; unsigned = suffix.unsigned; length = suffix.length })))

-- the integer constant that bytes begin with: the longest prefix of digits of its base, then its suffix
abbrev pub number_at : List ℕ → Lexeme
number_at bytes = (let base = base_of bytes in let digits = drop (prefix_length base) bytes in let count = length (run base digits) in
    let suffix = suffix_of (drop count digits) in
    constant base (value_of base (run base digits)) suffix (prefix_length base + count + suffix.bytes) bytes)

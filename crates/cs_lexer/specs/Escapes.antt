-- The bytes that character constants and string literals represent (C11 6.4.4.4).
use Rattle.std.specs.Prelude.{ℕ, ◌+◌, ◌<◌, Bool, false, ◌&&◌, ◌==◌, nat_le, List, [], ◌∷◌, length, take, Option, Some, None}
use Rattle.std.specs.Prelude.{if◌then◌else◌}
use Rattle.cs_lexer.specs.declared.digits.Base.{Base}
use Rattle.cs_lexer.specs.declared.digits.Base.TheVariants.{Octal, Hexadecimal}
use Rattle.cs_lexer.specs.declared.lexeme.Fault.TheVariants.{BadByte, WideNumber}
use Rattle.cs_lexer.specs.declared.escape.Item.{Item}
use Rattle.cs_lexer.specs.declared.escape.Item.TheVariants.{Byte, Refused}
use Rattle.cs_lexer.specs.Classes.{is_octal_digit, is_hexadecimal_digit}
use Rattle.cs_lexer.specs.Digits.{run, value_of}

-- the byte that a backslash and one other byte represent: ' " ? \ and a b f n r t v
abbrev pub simple : ℕ → Option ℕ
simple b =
    if b == 39 then Some 39 else (if b == 34 then Some 34 else (if b == 63 then Some 63 else (if b == 92 then Some 92 else
    (if b == 97 then Some 7 else (if b == 98 then Some 8 else (if b == 102 then Some 12 else (if b == 110 then Some 10 else
    (if b == 114 then Some 13 else (if b == 116 then Some 9 else (if b == 118 then Some 11 else None))))))))))

-- the byte with this value, which takes this number of source bytes
abbrev pub byte_of : Option ℕ → ℕ → Item
byte_of None size = Refused WideNumber
byte_of (Some value) size = if nat_le value 255 then Byte value size else Refused WideNumber

-- the byte that the leading digits represent, with the number of source bytes before them
abbrev pub coded : Base → List ℕ → ℕ → Item
coded base bytes before = byte_of (value_of base (run base bytes)) (before + length (run base bytes))

abbrev pub begins_hexadecimal : List ℕ → Bool
begins_hexadecimal [] = false
begins_hexadecimal (b ∷ bytes) = is_hexadecimal_digit b

-- at most three octal digits, or `x` and all hexadecimal digits that follow
abbrev pub numeric : ℕ → List ℕ → Item
numeric b bytes =
    if is_octal_digit b then coded Octal (take 3 (b ∷ bytes)) 1
    else (if (b == 120) && begins_hexadecimal bytes then coded Hexadecimal bytes 2 else Refused BadByte)

-- the escape with this byte after its backslash
abbrev pub simple_or : Option ℕ → Item → Item
simple_or (Some byte) other = Byte byte 2
simple_or None other = other

-- the escape that these bytes are the rest of, after its backslash
abbrev pub escape : List ℕ → Item
escape [] = Refused BadByte
escape (b ∷ bytes) = simple_or (simple b) (numeric b bytes)

-- the first byte that these bytes represent
abbrev pub item_at : List ℕ → Item
item_at [] = Refused BadByte
item_at (b ∷ bytes) = if b == 92 then escape bytes else Byte b 1

-- each byte takes at least one source byte
abbrev pub Advances : Item → Type 0
Advances (Byte byte size) = 0 < size
Advances (Refused fault) = Unit {0}

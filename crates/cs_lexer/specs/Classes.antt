-- Classes of bytes (C11 5.2.1).
use Rattle.std.specs.Prelude.{ℕ, Bool, false, ◌||◌, ◌&&◌, nat_le, ◌==◌, List, [], ◌∷◌}

-- white space within a line: space, tab, vertical tab, form feed, carriage return
abbrev pub is_blank : ℕ → Bool
is_blank b = (b == 32) || ((b == 9) || ((b == 11) || ((b == 12) || (b == 13))))

-- white space: a blank or a line feed
abbrev pub is_space : ℕ → Bool
is_space b = is_blank b || (b == 10)

-- an ASCII letter or an underscore
abbrev pub is_letter : ℕ → Bool
is_letter b = (nat_le 97 b && nat_le b 122) || ((nat_le 65 b && nat_le b 90) || (b == 95))

abbrev pub is_digit : ℕ → Bool
is_digit b = nat_le 48 b && nat_le b 57

abbrev pub is_octal_digit : ℕ → Bool
is_octal_digit b = nat_le 48 b && nat_le b 55

abbrev pub is_hexadecimal_digit : ℕ → Bool
is_hexadecimal_digit b = is_digit b || ((nat_le 97 b && nat_le b 102) || (nat_le 65 b && nat_le b 70))

-- a byte that can continue a name
abbrev pub is_name_byte : ℕ → Bool
is_name_byte b = is_letter b || is_digit b

-- whether the first byte is this one
abbrev pub begins_with : ℕ → List ℕ → Bool
begins_with byte [] = false
begins_with byte (b ∷ bytes) = b == byte

-- Digits and their values (C11 6.4.4.1).
use Rattle.std.specs.Prelude.{ℕ, ◌^◌, Bool, List, Option, Some, None, nat_lt, if◌then◌else◌}
use Rattle.std.specs.List.{take_while}
use Rattle.std.specs.Str.Parse.{digits_value}
use Rattle.cs_lexer.specs.declared.digits.Base.{Base}
use Rattle.cs_lexer.specs.declared.digits.Base.TheVariants.{Octal, Decimal, Hexadecimal}
use Rattle.cs_lexer.specs.Classes.{is_digit, is_octal_digit, is_hexadecimal_digit}

abbrev pub radix : Base → ℕ
radix Octal = 8
radix Decimal = 10
radix Hexadecimal = 16

abbrev pub is_digit_of : Base → ℕ → Bool
is_digit_of Octal b = is_octal_digit b
is_digit_of Decimal b = is_digit b
is_digit_of Hexadecimal b = is_hexadecimal_digit b

-- the longest prefix of digits
abbrev pub run : Base → List ℕ → List ℕ
run base bytes = take_while (is_digit_of base) bytes

-- the value of digits, if it fits 64 bits
abbrev pub value_of : Base → List ℕ → Option ℕ
value_of base digits = if nat_lt (digits_value (radix base) digits) (2 ^ 64) then Some (digits_value (radix base) digits) else None

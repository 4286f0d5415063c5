-- Lines that begin with `#`: linemarkers and pragmas (C11 6.10.4, 6.10.6).
use Rattle.std.specs.Prelude.{ℕ, ◌+◌, Bool, true, false, not, ◌&&◌, ◌==◌, nat_lt, nat_le, nat_eq, List, [], ◌∷◌, length, take, drop, codes}
use Rattle.std.specs.Prelude.{Option, Some, None, if◌then◌else◌}
use Rattle.std.specs.List.{take_while, list_all, starts_with}
use Rattle.std.specs.Str.{is_utf8}
use Rattle.cs_lexer.specs.declared.digits.Base.TheVariants.{Decimal}
use Rattle.cs_lexer.specs.declared.lexeme.Fault.TheVariants.{BadLine}
use Rattle.cs_lexer.specs.declared.lexeme.Lexeme.{Lexeme}
use Rattle.cs_lexer.specs.declared.lexeme.Lexeme.TheVariants.{Gap, Marker, Refused}
use Rattle.cs_lexer.specs.declared.directive.FileName.{FileName}
use Rattle.cs_lexer.specs.declared.directive.FileName.TheVariants.{Absent, Given, Bad}
use Rattle.cs_lexer.specs.Classes.{is_blank, begins_with}
use Rattle.cs_lexer.specs.Comments.{is_inside}
use Rattle.cs_lexer.specs.Digits.{run, value_of}
use Rattle.cs_lexer.specs.Quoted.{closing}

abbrev pub blank_count : List ℕ → ℕ
blank_count bytes = length (take_while is_blank bytes)

-- the bytes after the leading blanks
abbrev pub skip_blanks : List ℕ → List ℕ
skip_blanks bytes = drop (blank_count bytes) bytes

abbrev pub begins_blank : List ℕ → Bool
begins_blank [] = false
begins_blank (b ∷ bytes) = is_blank b

-- the word `line` and blanks may come before a marker's number
abbrev pub number_part : List ℕ → List ℕ
number_part bytes = if starts_with nat_eq bytes (codes "line") && begins_blank (drop 4 bytes) then skip_blanks (drop 4 bytes) else bytes

-- a line number is at most 2,147,483,647
abbrev pub bounded : Option ℕ → Option ℕ
bounded None = None
bounded (Some value) = if nat_le value 2147483647 then Some value else None

-- the line number that the leading digits are
abbrev pub line_number : List ℕ → Option ℕ
line_number bytes = if length (run Decimal bytes) == 0 then None else bounded (value_of Decimal (run Decimal bytes))

-- a backslash and the byte after it represent that byte; `escaped`: such a backslash is before the first byte
abbrev pub unescaped : Bool → List ℕ → List ℕ
unescaped escaped [] = []
unescaped escaped (b ∷ bytes) = if (b == 92) && not escaped then unescaped true bytes else b ∷ unescaped false bytes

-- the name with these bytes between its quotes is valid UTF-8
abbrev pub name_of : List ℕ → FileName
name_of body = if is_utf8 (unescaped false body) then Given (unescaped false body) else Bad

abbrev pub name_in : List ℕ → Option ℕ → FileName
name_in bytes None = Bad
name_in bytes (Some count) = name_of (take count bytes)

-- a quoted name comes first
abbrev pub quoted_name : List ℕ → FileName
quoted_name bytes = if begins_with 34 bytes then name_in (drop 1 bytes) (closing 34 false (drop 1 bytes)) else Bad

-- the number is followed by blanks only, or by blanks, a name and flags
abbrev pub file_name : List ℕ → FileName
file_name bytes = if list_all is_blank bytes then Absent else (if begins_blank bytes then quoted_name (skip_blanks bytes) else Bad)

-- the line after a marker exists if the marker's own line ends
abbrev pub next_line : ℕ → Bool → Option ℕ
next_line line is_ended = if is_ended then Some line else None

abbrev pub with_name : FileName → Option ℕ → ℕ → Lexeme
with_name Absent next size = Marker size next None
with_name (Given name) next size = Marker size next (Some name)
with_name Bad next size = Refused BadLine 0

abbrev pub with_line : Option ℕ → FileName → ℕ → Bool → Lexeme
with_line None file size is_ended = Refused BadLine 0
with_line (Some line) file size is_ended = with_name file (next_line line is_ended) size

-- the linemarker with these bytes after its `#` and blanks
abbrev pub marker : List ℕ → ℕ → Bool → Lexeme
marker body size is_ended = with_line (line_number (number_part body)) (file_name (drop (length (run Decimal (number_part body))) (number_part body))) size
    is_ended

-- the number of bytes of a line, with its line feed
abbrev pub whole_length : ℕ → Bool → ℕ
whole_length count is_ended = if is_ended then count + 1 else count

-- a pragma is skipped; any other line has to be a linemarker
abbrev pub line_of : List ℕ → ℕ → Bool → Lexeme
line_of body size is_ended = if starts_with nat_eq body (codes "pragma") then Gap size else marker body size is_ended

-- the directive that bytes begin with; the first is its `#`
abbrev pub directive_at : List ℕ → Lexeme
directive_at bytes = (let line = take_while is_inside bytes in let is_ended = nat_lt (length line) (length bytes) in
    line_of (skip_blanks (drop 1 line)) (whole_length (length line) is_ended) is_ended)

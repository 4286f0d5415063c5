-- The piece that bytes begin with: its first bytes determine its class, and each class has a rule.
use Rattle.std.specs.Prelude.{◌≡◌, ℕ, Bool, ◌&&◌, ◌==◌, List, [], ◌∷◌, length, drop, if◌then◌else◌}
use Rattle.std.specs.List.{take_while}
use Rattle.cs_lexer.specs.declared.piece.Class.{Class}
use Rattle.cs_lexer.specs.declared.piece.Class.TheVariants.{Directive, Space, BlockComment, LineComment, Word, Number, Character, Text, Punctuator}
use Rattle.cs_lexer.specs.declared.lexeme.Lexeme.{Lexeme}
use Rattle.cs_lexer.specs.declared.lexeme.Lexeme.TheVariants.{Gap}
use Rattle.cs_lexer.specs.Classes.{is_space, is_letter, is_digit, is_name_byte, begins_with}
use Rattle.cs_lexer.specs.Comments.{is_inside, CommentGives}
use Rattle.cs_lexer.specs.Directives.{directive_at}
use Rattle.cs_lexer.specs.Punctuators.{PunctuatorGives}
use Rattle.cs_lexer.specs.Numbers.{number_at}
use Rattle.cs_lexer.specs.Quoted.{character_at, TextGives}
use Rattle.cs_lexer.specs.Words.{WordGives}

-- a digit, a quote, or else a punctuator
abbrev pub other_class : ℕ → Class
other_class b = if is_digit b then Number else (if b == 39 then Character else (if b == 34 then Text else Punctuator))

-- the class of the piece that bytes begin with; `is_line_start`: only blanks are before it on its line
abbrev pub class_of : Bool → List ℕ → Class
class_of is_line_start [] = Punctuator
class_of is_line_start (b ∷ bytes) =
    if is_line_start && (b == 35) then Directive
    else (if is_space b then Space
    else (if (b == 47) && begins_with 42 bytes then BlockComment
    else (if (b == 47) && begins_with 47 bytes then LineComment
    else (if is_letter b then Word else other_class b))))

-- the piece of a class that bytes begin with, which is as long as possible
abbrev pub BeginsAs : Class → List ℕ → Lexeme → Type 0
BeginsAs Directive bytes found = found ≡ directive_at bytes
BeginsAs Space bytes found = found ≡ Gap (length (take_while is_space bytes))
BeginsAs BlockComment bytes found = CommentGives (drop 2 bytes) found
BeginsAs LineComment bytes found = found ≡ Gap (length (take_while is_inside bytes))
BeginsAs Word bytes found = WordGives (take_while is_name_byte bytes) found
BeginsAs Number bytes found = found ≡ number_at bytes
BeginsAs Character bytes found = found ≡ character_at bytes
BeginsAs Text bytes found = TextGives bytes found
BeginsAs Punctuator bytes found = PunctuatorGives bytes found

-- the piece that bytes begin with
abbrev pub Begins : Bool → List ℕ → Lexeme → Type 0
Begins is_line_start bytes found = BeginsAs (class_of is_line_start bytes) bytes found

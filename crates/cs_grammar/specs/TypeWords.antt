-- The words of a type between parentheses (C11 6.7.2, 6.7.3, 6.7.7).
use Rattle.std.specs.Prelude.{ℕ, ◌+◌, Bool, true, false, ◌&&◌, ◌||◌, not, ◌==◌, nat_le, nat_eq, IsTrue, List, [], ◌∷◌, ◌++◌, filter}
use Rattle.std.specs.Prelude.{count_by, Option, Some, None}
use Rattle.std.specs.List.{list_any, list_all}
use Rattle.std.specs.Cmp.Lexicographic.{pointwise}
use Rattle.cs_ast.specs.declared.token.Keyword.{Keyword}
use Rattle.cs_ast.specs.declared.token.Keyword.TheVariants as keyword
use Rattle.cs_ast.specs.declared.raw.written_type.TypeWord.{TypeWord}
use Rattle.cs_ast.specs.declared.raw.written_type.TypeWord.TheVariants as word
use Rattle.cs_ast.specs.declared.raw.written_type.IntegerWord.{IntegerWord}
use Rattle.cs_ast.specs.declared.raw.written_type.IntegerWord.TheVariants.{Char, Short, Int, Long, Signed, Unsigned}
use Rattle.cs_ast.specs.declared.raw.written_type.PointerWord.{PointerWord}
use Rattle.cs_ast.specs.declared.raw.written_type.PointerWord.TheVariants as pointer

-- names
abbrev pub Names : Type 0
Names = List (List ℕ)

-- whether a name is among these
abbrev pub is_among : Names → List ℕ → Bool
is_among names name = list_any (pointwise nat_eq name) names

-- the word is `const`
abbrev pub is_const : TypeWord → Bool
is_const word.Const = true
is_const other = false

-- the words without `const`
abbrev pub named_by : List TypeWord → List TypeWord
named_by words = filter (λ w. not (is_const w)) words

-- the word is this word of an integer type
abbrev pub is_word : IntegerWord → TypeWord → Bool
is_word Char (word.Integer Char) = true
is_word Short (word.Integer Short) = true
is_word Int (word.Integer Int) = true
is_word Long (word.Integer Long) = true
is_word Signed (word.Integer Signed) = true
is_word Unsigned (word.Integer Unsigned) = true
is_word kind other = false

-- the word is one of an integer type
abbrev pub is_integer_word : TypeWord → Bool
is_integer_word (word.Integer kind) = true
is_integer_word other = false

-- the number of occurrences of an integer type word among these
abbrev pub times : IntegerWord → List TypeWord → ℕ
times kind words = count_by (is_word kind) words

-- these numbers of words of integer types, in any order, form a type or a part of one (C11 6.7.2, paragraph 2): at most one sign,
-- one `int`, one of `char` and `short`, and two `long`; with `char` no `int` and no `long`, with `short` no `long`
abbrev pub fit_numbers : (char short int long signed unsigned : ℕ) → Bool
fit_numbers char short int long signed unsigned =
    nat_le (signed + unsigned) 1
    && nat_le int 1
    && nat_le (char + short) 1
    && nat_le long 2
    && ((char == 0) || (int + long == 0))
    && ((short == 0) || (long == 0))

-- these words of integer types form a type or a part of one
abbrev pub fit_together : List TypeWord → Bool
fit_together words = fit_numbers (times Char words) (times Short words) (times Int words) (times Long words) (times Signed words) (times Unsigned words)

-- words without `const` name one type: a whole one, or an allowed nonempty combination of words of an integer type
abbrev pub names_type : Names → List TypeWord → Bool
names_type names [] = false
names_type names (word.Void ∷ []) = true
names_type names (word.Typedef name ∷ []) = is_among names name
names_type names (word.Struct tag ∷ []) = true
names_type names (word.Enum tag ∷ []) = true
names_type names words = list_all is_integer_word words && fit_together words

-- the words of a type: those other than `const` name one
abbrev pub is_type : Names → List TypeWord → Bool
is_type names words = names_type names (named_by words)

-- the words of pointers: none, or the first is a star
abbrev pub is_pointer : List PointerWord → Bool
is_pointer [] = true
is_pointer (pointer.Star ∷ words) = true
is_pointer (pointer.Const ∷ words) = false

-- the word of an integer type that a keyword is, if it is one
abbrev pub word_of : Keyword → Option IntegerWord
word_of keyword.Char = Some Char
word_of keyword.Short = Some Short
word_of keyword.Int = Some Int
word_of keyword.Long = Some Long
word_of keyword.Signed = Some Signed
word_of keyword.Unsigned = Some Unsigned
word_of other = None

-- the words may begin the words of a type
abbrev pub BeginType : Names → List TypeWord → Type 0
BeginType names words = (more : List TypeWord) × IsTrue (is_type names (words ++ more))

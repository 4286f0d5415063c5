-- What the words of a type so far are, as far as it determines which words may follow.
use Rattle.std.specs.Prelude.{◌≡◌, ◌+◌, Bool, true, false, IsFalse, List, [], ◌∷◌, ◌++◌, Option, Some, None}
use Rattle.std.specs.List.{list_all}
use Rattle.cs_ast.specs.declared.raw.written_type.TypeWord.{TypeWord}
use Rattle.cs_ast.specs.declared.raw.written_type.TypeWord.TheVariants as word
use Rattle.cs_ast.specs.declared.raw.written_type.IntegerWord.{IntegerWord}
use Rattle.cs_ast.specs.declared.raw.written_type.IntegerWord.TheVariants.{Char, Short, Int, Long, Signed, Unsigned}
use Rattle.cs_grammar.specs.declared.type_words.IntegerWords.{IntegerWords}
use Rattle.cs_grammar.specs.declared.type_words.TypeSoFar.{TypeSoFar}
use Rattle.cs_grammar.specs.declared.type_words.TypeSoFar.TheVariants.{Nothing, Integers, Whole}
use Rattle.cs_grammar.specs.TypeWords.{Names, is_among, is_integer_word, named_by, times, fit_numbers, is_type}

-- the number of occurrences of each integer type word among these
pub record Counts (all : IntegerWords) (words : List TypeWord) : Type 0 where
  pub char : all.char ≡ times Char words
  pub short : all.short ≡ times Short words
  pub int : all.int ≡ times Int words
  pub long : all.long ≡ times Long words
  pub signed : all.signed ≡ times Signed words
  pub unsigned : all.unsigned ≡ times Unsigned words

-- these numbers of words form a type or a part of one
abbrev pub fit : IntegerWords → Bool
fit all = fit_numbers all.char all.short all.int all.long all.signed all.unsigned

-- the numbers with one more of a word
abbrev pub counted : IntegerWord → IntegerWords → IntegerWords
counted Char all = record all { char = all.char + 1 }
counted Short all = record all { short = all.short + 1 }
counted Int all = record all { int = all.int + 1 }
counted Long all = record all { long = all.long + 1 }
counted Signed all = record all { signed = all.signed + 1 }
counted Unsigned all = record all { unsigned = all.unsigned + 1 }

-- the numbers with one more of a word, none if they don't form a part of a type
abbrev pub IsJoined : IntegerWords → IntegerWord → Option IntegerWords → Type 0
IsJoined all next (Some more) = (more ≡ counted next all) × (fit more ≡ true)
IsJoined all next None = fit (counted next all) ≡ false

-- the word by itself names a type
abbrev pub is_whole : Names → TypeWord → Bool
is_whole names word.Void = true
is_whole names (word.Typedef name) = is_among names name
is_whole names (word.Struct tag) = true
is_whole names (word.Enum tag) = true
is_whole names other = false

-- the word is possible in some type: if it is a name, it is a typedef name
abbrev pub is_known : Names → TypeWord → Bool
is_known names (word.Typedef name) = is_among names name
is_known names other = true

-- the words are words of integer types, with these numbers
pub record AreIntegers (all : IntegerWords) (first : TypeWord) (others : List TypeWord) : Type 0 where
  pub counts : Counts all (first ∷ others)
  pub integers : list_all is_integer_word (first ∷ others) ≡ true
  pub fitting : fit all ≡ true

-- what the words so far are: they name no type, they are words of an integer type, or they name a whole type
abbrev pub Describes : Names → TypeSoFar → List TypeWord → Type 0
Describes names Nothing words = named_by words ≡ []
Describes names (Integers all) words = (first : TypeWord) × (others : List TypeWord) × (named_by words ≡ first ∷ others) × AreIntegers all first others
Describes names Whole words = (only : TypeWord) × (named_by words ≡ only ∷ []) × (is_whole names only ≡ true)

-- the words with one more: their description, or no type begins with them
abbrev pub IsExtended : Names → List TypeWord → TypeWord → Option TypeSoFar → Type 0
IsExtended names words next (Some after) = Describes names after (words ++ next ∷ [])
IsExtended names words next None = (more : List TypeWord) → IsFalse (is_type names (words ++ next ∷ more))

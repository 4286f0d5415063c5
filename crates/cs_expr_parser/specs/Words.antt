-- The results that the parts of the type parser return to one another.
use Rattle.std.specs.Prelude.{◌≡◌, ℕ, ◌+◌, ◌≤◌, ◌<◌, length, Bool, true, false, List, [], ◌∷◌, ◌++◌, Option, Some, None, Result}
use Rattle.std.specs.Prelude.{Ok, Err, if◌then◌else◌}
use Rattle.cs_ast.specs.declared.token.Token.{Token}
use Rattle.cs_ast.specs.declared.token.TokenKind.{TokenKind}
use Rattle.cs_ast.specs.declared.token.TokenKind.TheVariants as token
use Rattle.cs_ast.specs.declared.token.Keyword.{Keyword}
use Rattle.cs_ast.specs.declared.token.Keyword.TheVariants as keyword
use Rattle.cs_ast.specs.declared.token.Punctuator.TheVariants as punctuator
use Rattle.cs_ast.specs.declared.raw.written_type.TypeWord.{TypeWord}
use Rattle.cs_ast.specs.declared.raw.written_type.TypeWord.TheVariants as word
use Rattle.cs_ast.specs.declared.raw.written_type.IntegerWord.{IntegerWord}
use Rattle.cs_ast.specs.declared.raw.written_type.PointerWord.{PointerWord}
use Rattle.cs_ast.specs.declared.raw.written_type.PointerWord.TheVariants as pointer
use Rattle.cs_grammar.specs.TypeWords.{Names, is_among, is_type, is_pointer, named_by, word_of}
use Rattle.cs_grammar.specs.TypesSoFar.{Describes}
use Rattle.cs_grammar.specs.declared.type_words.TypeSoFar.{TypeSoFar}
use Rattle.cs_grammar.specs.declared.type_words.TypeSoFar.TheVariants.{Nothing, Integers, Whole}
use Rattle.cs_grammar.specs.Text.{Kinds, type_word_text, words_text, pointers_text, integer_word_text}
use Rattle.cs_expr_parser.specs.Positions.{kinds, kind_or_end, name_of}
use Rattle.cs_expr_parser.specs.Reasons.{plain_reason}
use Rattle.cs_expr_parser.specs.Parts.{Spells, Types, Stops}
use Rattle.cs_expr_parser.specs.declared.stop.Stop.{Stop}
use Rattle.cs_expr_parser.specs.declared.stop.Stop.TheVariants as stop
use Rattle.cs_expr_parser.specs.declared.types.TypeWords.{TypeWords}
use Rattle.cs_expr_parser.specs.declared.types.PointerWords.{PointerWords}
use Rattle.cs_expr_parser.specs.declared.types.NextWord.{NextWord}
use Rattle.cs_expr_parser.specs.declared.types.JoiningWord.{JoiningWord}

-- the first token of a word of a type
abbrev pub first_of_word : TypeWord → TokenKind
first_of_word word.Const = token.Keyword keyword.Const
first_of_word (word.Integer kind) = integer_word_text kind
first_of_word word.Void = token.Keyword keyword.Void
first_of_word (word.Typedef name) = token.Name name
first_of_word (word.Struct tag) = token.Keyword keyword.Struct
first_of_word (word.Enum tag) = token.Keyword keyword.Enum

-- no word that begins with the token makes a type with these, whatever follows
abbrev pub IsStuck : Names → List TypeWord → TokenKind → Type 0
IsStuck names words next = (one : TypeWord) (more : List TypeWord) → first_of_word one ≡ next → is_type names (words ++ one ∷ more) ≡ false

-- the word has a tag
abbrev pub has_tag : TypeWord → Bool
has_tag (word.Struct tag) = true
has_tag (word.Enum tag) = true
has_tag other = false

-- the last of the words has a tag
abbrev pub last_tagged : List TypeWord → Bool
last_tagged [] = false
last_tagged (last ∷ []) = has_tag last
last_tagged (first ∷ second ∷ words) = last_tagged (second ∷ words)

-- the last word has a tag, of words that end with these
abbrev pub is_last_tag : {Item : Type 0} → Bool → List Item → Bool
is_last_tag tagged [] = tagged
is_last_tag tagged (first ∷ others) = false

-- the longest sequence of words of a type was taken
pub record IsWordsFrom (names : Names) (tokens : List Token) (from : ℕ) (taken : TypeWords) : Type 0 where
  pub spelled : Spells tokens from taken.next (words_text taken.words.items)
  pub is_type : is_type names taken.words.items ≡ true
  pub stuck : IsStuck names taken.words.items (kind_or_end tokens taken.next)
  pub tagged : taken.tagged ≡ last_tagged taken.words.items

abbrev pub WordsAnswer : Names → List Token → ℕ → Result TypeWords Stop → Type 0
WordsAnswer names tokens from (Ok taken) = IsWordsFrom names tokens from taken
WordsAnswer names tokens from (Err stop) = (limit : ℕ) → Stops (Types names) limit tokens from stop

-- the words so far name a type
abbrev pub names_some : TypeSoFar → Bool
names_some Nothing = false
names_some other = true

-- a word of a type is at an index; it has a tag only if the words so far name no type
pub record IsWordAt (names : Names) (tokens : List Token) (at : ℕ) (so_far : TypeSoFar) (found : NextWord) : Type 0 where
  pub spelled : Spells tokens at found.next (type_word_text found.word)
  pub known : (name : List ℕ) → found.word ≡ word.Typedef name → is_among names name ≡ true
  pub later : at + 1 ≤ found.next
  pub fresh : has_tag found.word ≡ true → names_some so_far ≡ false

-- the word can't follow the words so far
abbrev pub IsUnusable : Names → TypeSoFar → TypeWord → Type 0
IsUnusable names so_far (word.Typedef name) = is_among names name ≡ false
IsUnusable names so_far (word.Struct tag) = names_some so_far ≡ true
IsUnusable names so_far (word.Enum tag) = names_some so_far ≡ true
IsUnusable names so_far other = ⊥

-- no word of a type is at an index, except perhaps one with a tag, if the words so far name a type
abbrev pub NoWord : Names → TypeSoFar → TokenKind → Type 0
NoWord names so_far next = (one : TypeWord) → first_of_word one ≡ next → IsUnusable names so_far one

-- a tag is missing after `struct` or `enum`, and the words so far name no type
pub record IsTagMissing (tokens : List Token) (at refused : ℕ) : Type 0 where
  pub is_struct : Bool
  pub stands : kind_or_end tokens at ≡ token.Keyword (if is_struct then keyword.Struct else keyword.Enum)
  pub none : name_of (kind_or_end tokens (at + 1)) ≡ None
  pub refused_is : refused ≡ at + 1

abbrev pub WordAnswer : Names → List Token → ℕ → TypeSoFar → Result (Option NextWord) Stop → Type 0
WordAnswer names tokens at so_far (Ok (Some found)) = IsWordAt names tokens at so_far found
WordAnswer names tokens at so_far (Ok None) = NoWord names so_far (kind_or_end tokens at)
WordAnswer names tokens at so_far (Err stop.Memory) = Unit {0}
WordAnswer names tokens at so_far (Err (stop.Refused refused reason)) =
    IsTagMissing tokens at refused × (names_some so_far ≡ false) × (reason ≡ plain_reason (kind_or_end tokens refused) true)

-- a word at an index continues the words of a type so far
pub record IsJoiningAt (names : Names) (words : List TypeWord) (tokens : List Token) (at : ℕ) (joining : JoiningWord) : Type 0 where
  pub spelled : Spells tokens at joining.found.next (type_word_text joining.found.word)
  pub described : Describes names joining.after (words ++ joining.found.word ∷ [])

-- the result at an index: the word there that continues the words of a type so far, or none if no type continues with it
abbrev pub JoiningAnswer : Names → List TypeWord → List Token → ℕ → Result (Option JoiningWord) Stop → Type 0
JoiningAnswer names words tokens at (Ok (Some joining)) = IsJoiningAt names words tokens at joining
JoiningAnswer names words tokens at (Ok None) = IsStuck names words (kind_or_end tokens at)
JoiningAnswer names words tokens at (Err stop.Memory) = Unit {0}
JoiningAnswer names words tokens at (Err (stop.Refused refused reason)) =
    IsTagMissing tokens at refused × (named_by words ≡ []) × (reason ≡ plain_reason (kind_or_end tokens refused) true)

-- `struct` or `enum` with a tag, as a word
abbrev pub word_of_tag : Bool → List ℕ → TypeWord
word_of_tag is_struct tag = if is_struct then word.Struct tag else word.Enum tag

-- the result at `struct` or `enum`
abbrev pub TagAnswer : Bool → List Token → ℕ → TypeSoFar → Result (Option NextWord) Stop → Type 0
TagAnswer is_struct tokens at so_far (Ok (Some found)) =
    (tag : List ℕ) × (kind_or_end tokens (at + 1) ≡ token.Name tag) × (found.word ≡ word_of_tag is_struct tag) × (found.next ≡ at + 2)
    × (names_some so_far ≡ false)
TagAnswer is_struct tokens at so_far (Ok None) = names_some so_far ≡ true
TagAnswer is_struct tokens at so_far (Err stop.Memory) = Unit {0}
TagAnswer is_struct tokens at so_far (Err (stop.Refused refused reason)) =
    (name_of (kind_or_end tokens (at + 1)) ≡ None) × (refused ≡ at + 1) × (names_some so_far ≡ false)
    × (reason ≡ plain_reason (kind_or_end tokens refused) true)

-- the result for a keyword: the word of an integer type that it is
abbrev pub IsIntegerAt : Keyword → ℕ → Option NextWord → Type 0
IsIntegerAt kind at (Some found) = (one : IntegerWord) × (word_of kind ≡ Some one) × (found.word ≡ word.Integer one) × (found.next ≡ at + 1)
    × (found.tag ≡ None)
IsIntegerAt kind at None = word_of kind ≡ None

abbrev pub IsPointerAt : TokenKind → Option PointerWord → Type 0
IsPointerAt kind (Some pointer.Star) = kind ≡ token.Punctuator punctuator.Star
IsPointerAt kind (Some pointer.Const) = kind ≡ token.Keyword keyword.Const
IsPointerAt kind None = (kind ≡ token.Punctuator punctuator.Star → ⊥) × (kind ≡ token.Keyword keyword.Const → ⊥)

-- the longest sequence of words of pointers was taken
pub record IsPointersFrom (tokens : List Token) (from : ℕ) (taken : PointerWords) : Type 0 where
  pub spelled : Spells tokens from taken.next (pointers_text taken.words.items)
  pub is_pointer : is_pointer taken.words.items ≡ true
  pub no_star : kind_or_end tokens taken.next ≡ token.Punctuator punctuator.Star → ⊥
  pub no_const : kind_or_end tokens taken.next ≡ token.Keyword keyword.Const → ⊥

abbrev pub PointersAnswer : List Token → ℕ → Result PointerWords Stop → Type 0
PointersAnswer tokens from (Ok taken) = IsPointersFrom tokens from taken
PointersAnswer tokens from (Err stop.Memory) = Unit {0}
PointersAnswer tokens from (Err (stop.Refused at reason)) = ⊥

-- a word that was found, or what was refused, lies within the tokens
abbrev pub IsNextBounded : List Token → ℕ → Result (Option NextWord) Stop → Type 0
IsNextBounded tokens at (Ok (Some found)) = (at < found.next) × (found.next ≤ length tokens)
IsNextBounded tokens at (Ok None) = Unit {0}
IsNextBounded tokens at (Err stop.Memory) = Unit {0}
IsNextBounded tokens at (Err (stop.Refused refused reason)) = (at ≤ refused) × (refused ≤ length tokens)

abbrev pub IsJoiningBounded : List Token → ℕ → Result (Option JoiningWord) Stop → Type 0
IsJoiningBounded tokens at (Ok (Some joining)) = (at < joining.found.next) × (joining.found.next ≤ length tokens)
IsJoiningBounded tokens at (Ok None) = Unit {0}
IsJoiningBounded tokens at (Err stop.Memory) = Unit {0}
IsJoiningBounded tokens at (Err (stop.Refused refused reason)) = (at ≤ refused) × (refused ≤ length tokens)

-- Type names: types that are written between parentheses (C11 6.7.2, 6.7.6, 6.7.7).
use Rattle.std.specs.Prelude.{ℕ, ℤ, pos, int_le, unsigned_abs, Bool, true, false, ◌&&◌, ◌==◌, nat_lt, if◌then◌else◌}
use Rattle.std.specs.Prelude.{List, [], ◌∷◌, Option, Some, None, is_some, count_by}
use Rattle.cs_types.specs.declared.data_model.DataModel.{DataModel}
use Rattle.cs_types.specs.declared.int_type.IntType.{IntType}
use Rattle.cs_types.specs.declared.int_type.IntType.TheVariants as int_type
use Rattle.cs_types.specs.declared.structs.StructType.{StructType}
use Rattle.cs_types.specs.Shape.{Shape, void, integer, pointer, array, struct}
use Rattle.cs_ast.specs.declared.place.Place.{Place}
use Rattle.cs_ast.specs.declared.raw.written_type.TypeWord.{TypeWord}
use Rattle.cs_ast.specs.declared.raw.written_type.TypeWord.TheVariants as word
use Rattle.cs_ast.specs.declared.raw.written_type.IntegerWord.{IntegerWord}
use Rattle.cs_ast.specs.declared.raw.written_type.IntegerWord.TheVariants as integer_word
use Rattle.cs_ast.specs.declared.raw.written_type.PointerWord.{PointerWord}
use Rattle.cs_ast.specs.declared.raw.written_type.PointerWord.TheVariants.{Star, Const}
use Rattle.cs_ast.specs.declared.raw.written_type.WrittenType.{WrittenType}
use Rattle.cs_scopes.specs.declared.integer_words.IntegerWords.{IntegerWords}
use Rattle.cs_scopes.specs.declared.refusal.TypeCode.TheVariants as code
use Rattle.cs_scopes.specs.declared.scope.Tag.{Tag}
use Rattle.cs_scopes.specs.declared.scope.TagMeaning.{TagMeaning}
use Rattle.cs_scopes.specs.declared.scope.TagMeaning.TheVariants as tag
use Rattle.cs_scopes.specs.Meanings.{Meaning, Typedef, Declaration}
use Rattle.cs_scopes.specs.Verdicts.{Verdict, Fine, Fault, lift}
use Rattle.cs_types.specs.Kinds.{is_complete}
use Rattle.cs_scopes.specs.Sizes.{bytes_in}
use Rattle.cs_scopes.specs.Scopes.{newest, tagged}

-- the number of a word of an integer type among these words
abbrev pub integer_word_number : IntegerWord → ℕ
integer_word_number integer_word.Char = 0
integer_word_number integer_word.Short = 1
integer_word_number integer_word.Int = 2
integer_word_number integer_word.Long = 3
integer_word_number integer_word.Signed = 4
integer_word_number integer_word.Unsigned = 5

-- the word is this word of an integer type
abbrev pub is_word : IntegerWord → TypeWord → Bool
is_word kind (word.Integer other) = integer_word_number kind == integer_word_number other
is_word kind other = false

-- how often a word of an integer type occurs among these
abbrev pub times : IntegerWord → List TypeWord → ℕ
times kind words = count_by (is_word kind) words

-- the character type with a sign, without one, or neither
abbrev pub char_type : Bool → Bool → IntType
char_type signed true = int_type.UChar
char_type true false = int_type.SChar
char_type false false = int_type.Char

-- the one of two types with or without a sign
abbrev pub signed_or : Bool → IntType → IntType → IntType
signed_or unsigned without with_sign = if unsigned then without else with_sign

-- the integer type that this many of each word name (C11 6.7.2, paragraph 2)
unfoldable pub named_by : IntegerWords → IntType
named_by n =
    let unsigned = nat_lt 0 n.unsigned in
    if nat_lt 0 n.char then char_type (nat_lt 0 n.signed) unsigned
    else (if nat_lt 0 n.short then signed_or unsigned int_type.UShort int_type.Short
    else (if nat_lt 1 n.long then signed_or unsigned int_type.ULLong int_type.LLong
    else (if nat_lt 0 n.long then signed_or unsigned int_type.ULong int_type.Long
    else signed_or unsigned int_type.UInt int_type.Int)))

-- the integer type that words name
unfoldable pub integer_type : List TypeWord → IntType
integer_type words = named_by (record {
  char = times integer_word.Char words;
  short = times integer_word.Short words;
  long = times integer_word.Long words;
  signed = times integer_word.Signed words;
  unsigned = times integer_word.Unsigned words;
})

-- the word that names a type that isn't an integer type, if there is one
abbrev pub whole_word : List TypeWord → Option TypeWord
whole_word [] = None
whole_word (word.Const ∷ words) = whole_word words
whole_word (word.Integer kind ∷ words) = whole_word words
whole_word (word.Void ∷ words) = Some word.Void
whole_word (word.Typedef name ∷ words) = Some (word.Typedef name)
whole_word (word.Struct name ∷ words) = Some (word.Struct name)
whole_word (word.Enum name ∷ words) = Some (word.Enum name)

-- the position of a tag, or, without one, that of what requires the type
abbrev pub tag_place : Place → Option Place → Place
tag_place at (Some place) = place
tag_place at None = at

-- the type of a typedef name
abbrev pub typedef_at : Place → Option Meaning → Verdict Shape
typedef_at at (Some (Typedef ty)) = Fine ty
typedef_at at other = Fault code.UnknownName at

-- the struct with a tag; the tag of an enum is an error, as it would be declared a second time
abbrev pub struct_at : Place → Option TagMeaning → Verdict Shape
struct_at at (Some (tag.Struct number)) = Fine (struct number)
struct_at at (Some tag.Enum) = Fault code.DeclaredTwice at
struct_at at None = Fault code.UnknownName at

-- the type of an enum with a tag, which is `int`
abbrev pub enum_at : Place → Option TagMeaning → Verdict Shape
enum_at at (Some (tag.Struct number)) = Fault code.DeclaredTwice at
enum_at at (Some tag.Enum) = Fine (integer int_type.Int)
enum_at at None = Fault code.UnknownName at

-- the type that specifiers name (C11 6.7.2), at the position of what requires it
unfoldable pub based : List Declaration → List Tag → Place → WrittenType → Option TypeWord → Verdict Shape
based declarations tags at ty None = Fine (integer (integer_type ty.words.items))
based declarations tags at ty (Some (word.Typedef name)) = typedef_at at (newest name declarations)
based declarations tags at ty (Some (word.Struct name)) = struct_at (tag_place at ty.tag) (tagged name tags)
based declarations tags at ty (Some (word.Enum name)) = enum_at (tag_place at ty.tag) (tagged name tags)
based declarations tags at ty (Some other) = Fine void

-- the word is a star
abbrev pub is_star : PointerWord → Bool
is_star Star = true
is_star Const = false

-- a type after as many pointers as there are stars (C11 6.7.6.1)
abbrev pub starred : List PointerWord → Shape → Shape
starred [] ty = ty
starred (word ∷ words) ty = starred words (if is_star word then pointer ty else ty)

-- a type after pointers
abbrev pub after_stars : WrittenType → Shape → Verdict Shape
after_stars ty base = Fine (starred ty.pointers.items base)

-- a written type without its arrays (C11 6.7.7)
unfoldable pub type_named : List Declaration → List Tag → Place → WrittenType → Verdict Shape
type_named declarations tags at ty = lift (after_stars ty) (based declarations tags at ty (whole_word ty.words.items))

-- a number of elements that an array may have
abbrev pub is_array_size : ℤ → Bool
is_array_size n = int_le (pos 1) n && int_le n (pos 65536)

-- an array of a number of elements, if it isn't too large (C11 6.7.6.2)
unfoldable pub array_of : DataModel → List StructType → Place → ℤ → Shape → Verdict Shape
array_of model table at n element =
    if is_array_size n && is_some (bytes_in model table (array element (unsigned_abs n))) then Fine (array element (unsigned_abs n)) else Fault code.Size at

-- arrays of these sizes, the outermost first, whose innermost elements have the type `base`
abbrev pub arrayed : DataModel → List StructType → Place → Shape → List ℤ → Verdict Shape
arrayed model table at base [] = Fine base
arrayed model table at base (n ∷ ns) = lift (array_of model table at n) (arrayed model table at base ns)

-- a type that has to be complete, as the elements of arrays and the operands of `sizeof` have to be
unfoldable pub complete_at : List StructType → Place → Shape → Verdict Shape
complete_at table at ty = if is_complete table ty then Fine ty else Fault code.IncompleteType at

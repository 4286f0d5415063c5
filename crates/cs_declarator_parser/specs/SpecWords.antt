-- The results of the parts that parse specifiers.
use Rattle.std.specs.Prelude.{◌≡◌, ℕ, ◌+◌, ◌≤◌, ◌<◌, ◌⊎◌, Bool, true, false, List, [], ◌∷◌, ◌++◌, map, Option, Some, None}
use Rattle.std.specs.Prelude.{Result, Ok, Err}
use Rattle.std.specs.Option.{option_map}
use Rattle.cs_ast.specs.declared.token.Token.{Token}
use Rattle.cs_ast.specs.declared.token.TokenKind.{TokenKind}
use Rattle.cs_ast.specs.declared.token.TokenKind.TheVariants as token
use Rattle.cs_ast.specs.declared.token.Keyword.{Keyword}
use Rattle.cs_ast.specs.declared.token.Keyword.TheVariants as keyword
use Rattle.cs_ast.specs.declared.token.Punctuator.TheVariants as punctuator
use Rattle.cs_ast.specs.declared.raw.declaration.RawMember.{RawMember}
use Rattle.cs_ast.specs.declared.raw.declaration.RawSpecs.{RawSpecs}
use Rattle.cs_ast.specs.declared.raw.declaration.SpecWord.TheVariants as words
use Rattle.cs_ast.specs.declared.raw.name.RawName.{RawName}
use Rattle.cs_ast.specs.declared.raw.written_type.TypeWord.{TypeWord}
use Rattle.cs_ast.specs.declared.raw.written_type.TypeWord.TheVariants as word
use Rattle.cs_ast.specs.RawDeclarations.{Declarator, Constant, EnumBody, Spec, Plain, Specs, NoSpec, MoreSpecs}
use Rattle.cs_ast.specs.RawDeclarationView.{spec, specs, declarator}
use Rattle.cs_ast.specs.RawFileHeight.{spec_height}
use Rattle.cs_grammar.specs.declared.refusal.Reason.{Reason}
use Rattle.cs_grammar.specs.declared.type_words.TypeSoFar.{TypeSoFar}
use Rattle.cs_grammar.specs.declared.type_words.TypeSoFar.TheVariants.{Nothing, Whole}
use Rattle.cs_grammar.specs.TypeWords.{Names, word_of}
use Rattle.cs_grammar.specs.TypesSoFar.{Describes, is_known}
use Rattle.cs_grammar.specs.FirstTokens.{begins_type}
use Rattle.cs_grammar.specs.Text.{Kinds, type_word_text}
use Rattle.cs_grammar.specs.FileText.{name_text, spec_text}
use Rattle.cs_grammar.specs.FilePhrases.{HasBody, words_of}
use Rattle.cs_grammar.specs.Parsing.{Near, Refused}
use Rattle.cs_grammar.specs.DeclarationClasses.{IsQuiet, SpecElements, FileSpecs, BlockSpecs}
use Rattle.cs_expr_parser.specs.Positions.{kind_or_end}
use Rattle.cs_expr_parser.specs.Parts.{Spells, is_deep}
use Rattle.cs_expr_parser.specs.Words.{first_of_word, has_tag, IsStuck, names_some, word_of_tag, IsTagMissing}
use Rattle.cs_declarator_parser.specs.declared.source.Scope.{Scope}
use Rattle.cs_declarator_parser.specs.declared.source.Scope.TheVariants.{File}
use Rattle.cs_expr_parser.specs.declared.stop.Stop.{Stop}
use Rattle.cs_expr_parser.specs.declared.stop.Stop.TheVariants as stop
use Rattle.cs_declarator_parser.specs.declared.stop.Taken.{Taken}
use Rattle.cs_declarator_parser.specs.declared.specs.NextWord.{NextWord}
use Rattle.cs_declarator_parser.specs.Answers.{BraceAnswers}

-- the token begins specifiers in this scope
abbrev pub begins_words : Scope → Names → TokenKind → Bool
begins_words File names (token.Keyword keyword.Static) = true
begins_words scope names next = begins_type names next

-- `struct` or `enum`
abbrev pub tag_keyword : Bool → TokenKind
tag_keyword true = token.Keyword keyword.Struct
tag_keyword false = token.Keyword keyword.Enum

-- the word of a type that consists of only this keyword
abbrev pub word_of_keyword : Keyword → Option TypeWord
word_of_keyword keyword.Const = Some word.Const
word_of_keyword keyword.Void = Some word.Void
word_of_keyword other = option_map word.Integer (word_of other)

-- the word of a type that consists of only this token
abbrev pub IsTypeWord : Names → TokenKind → Option TypeWord → Type 0
IsTypeWord names next (Some found) = ((rest : Kinds) → type_word_text found rest ≡ next ∷ rest) × (has_tag found ≡ false)
    × (is_known names found ≡ true)
IsTypeWord names next None = (one : TypeWord) → first_of_word one ≡ next → (has_tag one ≡ true) ⊎ (is_known names one ≡ false)

-- the token isn't the keyword of a word with a tag
pub record HasNoTag (next : TokenKind) : Type 0 where
  pub no_struct : next ≡ token.Keyword keyword.Struct → ⊥
  pub no_enum : next ≡ token.Keyword keyword.Enum → ⊥

-- a word of a type was taken that can follow those before it
pub record IsPlainWord (names : Names) (tokens : List Token) (at : ℕ) (so_far : TypeSoFar) (found : NextWord) (one : TypeWord) : Type 0 where
  pub word_is : found.word ≡ words.Plain one
  pub height_is : found.height ≡ 1
  pub later : at < found.next
  pub spelled : Spells tokens at found.next (type_word_text one)
  pub quiet : (following : Kinds) → Near (kind_or_end tokens found.next) following → IsQuiet (Plain one) following
  pub described : (before : List TypeWord) → Describes names so_far before → Describes names found.so_far (before ++ one ∷ [])

-- no word of a type that begins with the token can follow those before it
abbrev pub NothingFits : Names → TypeSoFar → TokenKind → Type 0
NothingFits names so_far next = (before : List TypeWord) → Describes names so_far before → IsStuck names before next

-- the word of one token at an index; nothing is stated for `struct` and `enum`
abbrev pub PlainAnswer : Names → List Token → ℕ → TypeSoFar → Result (Option NextWord) Stop → Type 0
PlainAnswer names tokens at so_far (Ok (Some found)) = (one : TypeWord) × IsPlainWord names tokens at so_far found one
PlainAnswer names tokens at so_far (Ok None) = HasNoTag (kind_or_end tokens at) → NothingFits names so_far (kind_or_end tokens at)
PlainAnswer names tokens at so_far (Err stop.Memory) = Unit {0}
PlainAnswer names tokens at so_far (Err other) = ⊥

-- an opening brace is refused after `struct` or `enum` and a tag
pub record IsTagBraced (tokens : List Token) (at refused : ℕ) : Type 0 where
  pub is_struct : Bool
  pub tag : List ℕ
  pub spelled : Spells tokens at refused (λ rest. tag_keyword is_struct ∷ token.Name tag ∷ rest)
  pub brace : kind_or_end tokens refused ≡ token.Punctuator punctuator.OpenBrace

-- inside a block `struct` or `enum` is refused: no tag follows it, or a brace follows the tag
abbrev pub BlockTagStops : List Token → ℕ → Stop → Type 0
BlockTagStops tokens at stop.Memory = Unit {0}
BlockTagStops tokens at (stop.Refused refused reason) = (is_deep reason ≡ false) × (IsTagMissing tokens at refused ⊎ IsTagBraced tokens at refused)

abbrev pub BlockTagAnswer : Names → List Token → ℕ → Result NextWord Stop → Type 0
BlockTagAnswer names tokens at (Ok found) = (one : TypeWord) × IsPlainWord names tokens at Nothing found one
BlockTagAnswer names tokens at (Err stop) = BlockTagStops tokens at stop

-- the word at an index inside a block
abbrev pub BlockWordAnswer : Names → List Token → ℕ → TypeSoFar → Result (Option NextWord) Stop → Type 0
BlockWordAnswer names tokens at so_far (Ok (Some found)) = (one : TypeWord) × IsPlainWord names tokens at so_far found one
BlockWordAnswer names tokens at so_far (Ok None) = NothingFits names so_far (kind_or_end tokens at)
BlockWordAnswer names tokens at so_far (Err stop.Memory) = Unit {0}
BlockWordAnswer names tokens at so_far (Err other) = (names_some so_far ≡ false) × BlockTagStops tokens at other

-- the word is determined by its tokens
abbrev pub IsReportedByTokens : Names → Spec → Type 0
IsReportedByTokens names s = (t : Spec) (x y : Kinds) → HasBody names t → IsQuiet t x → IsQuiet s y → spec_text t x ≡ spec_text s y
    → (t ≡ s) × (x ≡ y)

-- a specifier was taken, which may be a type with a body, and which can follow the words before it
pub record IsSpecTaken (names : Names) (limit : ℕ) (tokens : List Token) (at : ℕ) (so_far : TypeSoFar) (found : NextWord) : Type 0 where
  pub height_is : found.height ≡ spec_height (spec found.word)
  pub low : found.height ≤ limit
  pub spelled : Spells tokens at found.next (spec_text (spec found.word))
  pub later : at < found.next
  pub body : HasBody names (spec found.word)
  pub reported : IsReportedByTokens names (spec found.word)
  pub quiet : (following : Kinds) → Near (kind_or_end tokens found.next) following → IsQuiet (spec found.word) following
  pub described : (before : List TypeWord) → Describes names so_far before
      → Describes names found.so_far (before ++ words_of (MoreSpecs (spec found.word) NoSpec))

-- a type with `struct` or `enum` is refused after its first token
pub record IsElementRefused (names : Names) (limit : ℕ) (tokens : List Token) (at refused : ℕ) (reason : Reason) : Type 0 where
  pub is_struct : Bool
  pub front : Kinds
  pub spelled : Spells tokens at refused (λ rest. tag_keyword is_struct ∷ (front ++ rest))
  pub refused_is : Refused (SpecElements names) limit (tag_keyword is_struct ∷ front) (kind_or_end tokens refused) (is_deep reason)

-- a brace is refused after `enum` and a tag, since the limit doesn't allow a constant
pub record IsEnumFull (limit : ℕ) (tokens : List Token) (at refused : ℕ) (reason : Reason) : Type 0 where
  pub tag : List ℕ
  pub spelled : Spells tokens at refused (λ rest. tag_keyword false ∷ token.Name tag ∷ rest)
  pub brace : kind_or_end tokens refused ≡ token.Punctuator punctuator.OpenBrace
  pub little : limit < 2
  pub deep : is_deep reason ≡ true

abbrev pub ElementStops : Names → ℕ → List Token → ℕ → Stop → Type 0
ElementStops names limit tokens at stop.Memory = Unit {0}
ElementStops names limit tokens at (stop.Refused refused reason) = IsElementRefused names limit tokens at refused reason
    ⊎ IsEnumFull limit tokens at refused reason

-- a type with `struct` or `enum`, if the words before it name no type
abbrev pub ElementAnswer : Names → ℕ → List Token → ℕ → Result NextWord Stop → Type 0
ElementAnswer names limit tokens at (Ok found) = IsSpecTaken names limit tokens at Nothing found
ElementAnswer names limit tokens at (Err stop) = ElementStops names limit tokens at stop

-- the word at an index outside blocks
abbrev pub SpecAnswer : Names → ℕ → List Token → ℕ → TypeSoFar → Result (Option NextWord) Stop → Type 0
SpecAnswer names limit tokens at so_far (Ok (Some found)) = IsSpecTaken names limit tokens at so_far found
SpecAnswer names limit tokens at so_far (Ok None) = NothingFits names so_far (kind_or_end tokens at)
    × (kind_or_end tokens at ≡ token.Keyword keyword.Static → ⊥)
SpecAnswer names limit tokens at so_far (Err stop.Memory) = Unit {0}
SpecAnswer names limit tokens at so_far (Err other) = (names_some so_far ≡ false) × ElementStops names limit tokens at other

-- `static` at an index, as a word
abbrev pub IsStatic : ℕ → TypeSoFar → NextWord → Type 0
IsStatic at so_far found = (found.word ≡ words.Static) × (found.height ≡ 1) × (found.next ≡ at + 1) × (found.so_far ≡ so_far)

-- the name of a tag, without its position
abbrev pub name_in : Option RawName → Option (List ℕ)
name_in tag = option_map (λ (n : RawName). n.name) tag

-- the index of the token after `struct` or `enum`, which is at `at`, and its tag, if it has one
abbrev pub number_after : ℕ → Option (List ℕ) → ℕ
number_after at None = at + 1
number_after at (Some tag) = at + 2

-- the token is `struct` or `enum`
abbrev pub IsTagKeyword : TokenKind → Type 0
IsTagKeyword next = (is_struct : Bool) × (next ≡ tag_keyword is_struct)

-- the word of a tag after `struct` or `enum`, which names a whole type
pub record IsTagged (first : TokenKind) (tag : List ℕ) (found : NextWord) : Type 0 where
  pub one : (is_struct : Bool) → first ≡ tag_keyword is_struct → found.word ≡ words.Plain (word_of_tag is_struct tag)
  pub whole : found.so_far ≡ Whole

-- `struct` or `enum`, a tag if there is one, and an opening brace are at an index
pub record IsOpened (tokens : List Token) (at brace : ℕ) (tag : Option (List ℕ)) : Type 0 where
  pub is_struct : Bool
  pub stands : kind_or_end tokens at ≡ tag_keyword is_struct
  pub spelled : Spells tokens at brace (λ rest. tag_keyword is_struct ∷ name_text tag rest)
  pub opening : kind_or_end tokens brace ≡ token.Punctuator punctuator.OpenBrace

-- an enumeration with a body
abbrev pub enum_of : Option (List ℕ) → List Constant × Bool → Spec
enum_of tag row = EnumBody tag row.0 row.1

-- the word is this one, which names a whole type
pub record IsSpecOf (s : Spec) (found : NextWord) : Type 0 where
  pub word_is : spec found.word ≡ s
  pub whole : found.so_far ≡ Whole

-- declaration specifiers, outside blocks and inside
abbrev pub SpecsAnswer : Names → ℕ → List Token → ℕ → Result (Taken RawSpecs) Stop → Type 0
SpecsAnswer names limit tokens from result = BraceAnswers (FileSpecs names) specs limit tokens from result

abbrev pub BlockSpecsAnswer : Names → ℕ → List Token → ℕ → Result (Taken RawSpecs) Stop → Type 0
BlockSpecsAnswer names limit tokens from result = BraceAnswers (BlockSpecs names) specs limit tokens from result

-- members that share specifiers
abbrev pub group : RawMember → Specs × List Declarator
group member = (specs member.specs, map declarator member.declarators.items)

-- Specifiers and members are placed, as they are taken one by one.
use Rattle.std.specs.Prelude.{◌≡◌, ℕ, Bool, true, false, List, ◌∷◌, drop, map, Option, Some, None}
use Rattle.std.specs.Option.{option_map}
use Rattle.cs_ast.specs.declared.place.Place.{Place}
use Rattle.cs_ast.specs.declared.token.Token.{Token}
use Rattle.cs_ast.specs.declared.token.TokenKind.TheVariants as token
use Rattle.cs_ast.specs.declared.token.Punctuator.TheVariants as punctuator
use Rattle.cs_ast.specs.declared.raw.name.RawName.{RawName}
use Rattle.cs_ast.specs.declared.raw.declaration.RawMember.{RawMember}
use Rattle.cs_ast.specs.RawDeclarations.{Spec, Static, Plain, StructBody, EnumBody, NoSpec, MoreSpecs}
use Rattle.cs_ast.specs.RawDeclarationView.{spec, specs, declarator}
use Rattle.cs_grammar.specs.declared.type_words.TypeSoFar.{TypeSoFar}
use Rattle.cs_grammar.specs.Text.{Kinds}
use Rattle.cs_grammar.specs.FileText.{specs_text, declarator_text, with_commas}
use Rattle.cs_expr_parser.specs.Words.{has_tag, names_some}
use Rattle.cs_declarator_parser.specs.declared.specs.NextWord.{NextWord}
use Rattle.cs_declarator_parser.specs.DeclarationPlaces.{past, tag_place, AreSideBySide, IsSpecPlaced, HasSpecPlaces, AreDeclaratorsPlaced}

-- the position of a name, if there is one
abbrev pub place_in : Option RawName → Option Place
place_in tag = option_map (λ (n : RawName). n.place) tag

-- the word has a tag or a body
abbrev pub settles : Spec → Bool
settles Static = false
settles (Plain w) = has_tag w
settles (StructBody tag members) = true
settles (EnumBody tag constants comma) = true

-- a word is placed, and so is its tag, if it has one
pub record IsWordPlaced (tokens : List Token) (at : ℕ) (found : NextWord) : Type 0 where
  pub inside : IsSpecPlaced found.word (drop at tokens)
  pub tag : found.tag ≡ tag_place (MoreSpecs (spec found.word) NoSpec) (drop at tokens)

-- a word with a tag or a body is taken only if the words before it name no type
abbrev pub IsFresh : TypeSoFar → NextWord → Type 0
IsFresh so_far found = settles (spec found.word) ≡ true → names_some so_far ≡ false

-- the same for the word at an index, if one was found
abbrev pub IsWordThere : List Token → ℕ → TypeSoFar → Option NextWord → Type 0
IsWordThere tokens at so_far None = Unit {0}
IsWordThere tokens at so_far (Some found) = IsWordPlaced tokens at found × IsFresh so_far found

-- members that share specifiers, with their semicolon
abbrev pub group_text : RawMember → Kinds → Kinds
group_text m rest =
    specs_text (specs m.specs) (with_commas declarator_text (map declarator m.declarators.items) (token.Punctuator punctuator.Semicolon ∷ rest))

abbrev pub IsGroupPlaced : RawMember → List Token → Type 0
IsGroupPlaced m tokens = HasSpecPlaces m.specs tokens × AreDeclaratorsPlaced m.declarators.items (past (specs_text (specs m.specs)) tokens)

-- the members of a body
abbrev pub AreGroupsPlaced : List RawMember → List Token → Type 0
AreGroupsPlaced = AreSideBySide IsGroupPlaced group_text

-- The token of a word.
use Rattle.std.specs.Prelude.{◌≡◌, ◌≢◌, ℕ, Bool, false, List, [], ◌∷◌, length, codes, nat_eq, IsTrue}
use Rattle.std.specs.List.{list_any}
use Rattle.std.specs.Cmp.Lexicographic.{pointwise}
use Rattle.cs_ast.specs.declared.token.Keyword as keywords
use Rattle.cs_ast.specs.declared.token.Unsupported as left_outs
use Rattle.cs_ast.specs.declared.token.TokenKind.{TokenKind}
use Rattle.cs_ast.specs.declared.token.TokenKind.TheVariants.{Keyword, Unsupported, Attribute, Name}
use Rattle.cs_lexer.specs.declared.lexeme.Lexeme.{Lexeme}
use Rattle.cs_lexer.specs.declared.lexeme.Lexeme.TheVariants.{Gap, Token}
use Rattle.cs_lexer.specs.Spellings.{keyword_text, unsupported_text}

-- the words that are ignored wherever they occur
unfoldable pub dropped_words : List (List ℕ)
dropped_words =
    codes "__extension__" ∷ codes "__inline" ∷ codes "__inline__" ∷ codes "__restrict" ∷ codes "__restrict__" ∷
    codes "restrict" ∷ codes "volatile" ∷ codes "__volatile__" ∷ codes "extern" ∷ codes "register" ∷
    codes "inline" ∷ codes "__const" ∷ []

abbrev pub is_dropped : List ℕ → Bool
is_dropped word = list_any (pointwise nat_eq word) dropped_words

-- the words that begin an attribute
unfoldable pub attribute_words : List (List ℕ)
attribute_words = codes "__attribute__" ∷ codes "__attribute" ∷ []

abbrev pub is_attribute : List ℕ → Bool
is_attribute word = list_any (pointwise nat_eq word) attribute_words

-- no keyword, no unsupported word, not ignored, and no attribute
pub record IsPlain (word : List ℕ) : Type 0 where
  pub no_keyword : (k : keywords.Keyword) → keyword_text k ≢ word
  pub no_unsupported : (l : left_outs.Unsupported) → unsupported_text l ≢ word
  pub kept : is_dropped word ≡ false
  pub no_attribute : is_attribute word ≡ false

-- the token of a word: a plain word is a name
abbrev pub WordIs : List ℕ → TokenKind → Type 0
WordIs word (Keyword k) = keyword_text k ≡ word
WordIs word (Unsupported l) = unsupported_text l ≡ word
WordIs word Attribute = IsTrue (is_attribute word)
WordIs word (Name name) = (name ≡ word) × IsPlain word
WordIs word _ = ⊥

-- a word is ignored, or is a token with all of its bytes
abbrev pub WordGives : List ℕ → Lexeme → Type 0
WordGives word (Gap size) = (size ≡ length word) × IsTrue (is_dropped word)
WordGives word (Token size kind) = (size ≡ length word) × WordIs word kind
WordGives word _ = ⊥

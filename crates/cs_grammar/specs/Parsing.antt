-- The result that one part of a parser returns to another: a phrase that was taken, or a token that was refused.
use Rattle.std.specs.Prelude.{◌≡◌, ℕ, ◌≤◌, ◌<◌, ◌⊎◌, Bool, true, [], ◌∷◌, ◌++◌}
use Rattle.cs_ast.specs.declared.token.TokenKind.{TokenKind}
use Rattle.cs_ast.specs.RawTree.{Written}
use Rattle.cs_ast.specs.RawHeight.{height}
use Rattle.cs_grammar.specs.TypeWords.{Names}
use Rattle.cs_grammar.specs.Text.{Kinds, text}
use Rattle.cs_grammar.specs.Phrases.{IsPhrase}
use Rattle.cs_grammar.specs.Continuing.{join_of}

-- a class of phrases: their trees, the tokens of a tree before others, the height of a tree, which trees are phrases, and which
-- tokens may follow a phrase
pub record Class : Type 1 where
  pub Tree : Type 0
  pub spell : Tree → Kinds → Kinds
  pub tall : Tree → ℕ
  pub Is : Tree → Type 0
  pub Shut : Tree → Kinds → Type 0

-- the expressions of a level, not followed by a token that continues an expression of it
abbrev pub Expressions : Names → ℕ → Class
Expressions names level = record {
  Tree = Written;
  spell = text;
  tall = height;
  Is = IsPhrase names level;
  Shut = λ tree following. join_of following ≤ level;
}

-- the tokens are at an end, or continue with this one
abbrev pub Near : TokenKind → Kinds → Type 0
Near next following = (following ≡ []) ⊎ ((more : Kinds) × (following ≡ next ∷ more))

-- the phrase is higher than the limit, a token of it follows, and `deep` reports that
pub record IsOver (C : Class) (limit : ℕ) (deep : Bool) (phrase : C.Tree) (following : Kinds) : Type 0 where
  pub reported : deep ≡ true
  pub high : limit < C.tall phrase
  pub onward : following ≡ [] → ⊥

-- a phrase of any height begins with these tokens
pub record Begins (C : Class) (front : Kinds) : Type 0 where
  pub phrase : C.Tree
  pub more : Kinds
  pub is_phrase : C.Is phrase
  pub spelled : C.spell phrase [] ≡ front ++ more

-- a phrase within the limit begins with these tokens
pub record BeginsLow (C : Class) (limit : ℕ) (front : Kinds) : Type 0 where
  pub phrase : C.Tree
  pub more : Kinds
  pub is_phrase : C.Is phrase
  pub low : C.tall phrase ≤ limit
  pub spelled : C.spell phrase [] ≡ front ++ more

-- a phrase was taken before this token: it is the only one with this beginning, except for those above the limit, which continue
-- with the token exactly if that is reported
pub record Took (C : Class) (limit : ℕ) (phrase : C.Tree) (next : TokenKind) (deep : Bool) : Type 0 where
  pub is_phrase : C.Is phrase
  pub low : C.tall phrase ≤ limit
  pub only : (other : C.Tree) (after following : Kinds) → C.Is other → C.Shut other after → Near next following
      → C.spell other after ≡ C.spell phrase following → ((other ≡ phrase) × (after ≡ following)) ⊎ IsOver C limit deep other following
  pub further : deep ≡ true → Begins C (C.spell phrase (next ∷ []))
  pub joined : deep ≡ true → (more : Kinds) → C.Shut phrase (next ∷ more) → ⊥

-- a token was refused after these: a phrase within the limit begins with them, and none with the token too; a higher one does
-- exactly if that is reported
pub record Refused (C : Class) (limit : ℕ) (front : Kinds) (next : TokenKind) (deep : Bool) : Type 0 where
  pub begun : (front ≡ []) ⊎ BeginsLow C limit front
  pub never : (other : C.Tree) (after following : Kinds) → C.Is other → C.Shut other after → Near next following
      → C.spell other after ≡ front ++ following → IsOver C limit deep other following
  pub further : deep ≡ true → Begins C (front ++ next ∷ [])

-- a phrase within the limit, and the only one with this beginning, whatever follows it
pub record Exactly (C : Class) (limit : ℕ) (phrase : C.Tree) : Type 0 where
  pub is_phrase : C.Is phrase
  pub low : C.tall phrase ≤ limit
  pub exact : (other : C.Tree) (after following : Kinds) → C.Is other → C.spell other after ≡ C.spell phrase following
      → (other ≡ phrase) × (after ≡ following)

-- The external declaration that some tokens end in.
use Rattle.std.specs.Prelude.{◌≡◌, ℕ, ◌<◌, List, [], ◌∷◌, ◌++◌, length, drop}
use Rattle.cs_ast.specs.RawStatements.{External}
use Rattle.cs_grammar.specs.TypeWords.{Names}
use Rattle.cs_grammar.specs.Text.{Kinds}
use Rattle.cs_grammar.specs.FileText.{external_text, externals_text, file_text}
use Rattle.cs_grammar.specs.FilePhrases.{IsExternal, IsFile}

-- the first of these external declarations begins with these tokens, with these typedef names
pub record BeginsWith (names : Names) (tokens : Kinds) (parts : List External) : Type 0 where
  pub whole : External
  pub others : List External
  pub more : Kinds
  pub parts_are : parts ≡ whole ∷ others
  pub is : IsExternal names whole
  pub spelled : external_text whole [] ≡ tokens ++ more

-- in this file an external declaration begins with the token at this index, if there is one, and these are the typedef names
-- there; the tokens from that index on belong to it
pub record EndsInPart (names : Names) (front : Kinds) (from : ℕ) (file : List External) : Type 0 where
  pub done : List External
  pub others : List External
  pub file_is : file ≡ done ++ others
  pub begins : length (externals_text done []) ≡ from
  pub ends : from < length front → BeginsWith names (drop from front) others

-- this holds for each file that begins with the tokens
abbrev pub EndInPart : Names → Kinds → ℕ → Type 0
EndInPart names front from = (file : List External) (more : Kinds) → IsFile [] file → file_text file ≡ front ++ more → EndsInPart names front from file

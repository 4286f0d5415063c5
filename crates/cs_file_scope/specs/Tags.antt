-- The tags of a file's structs: what a tag denotes is decided where it is first named, in a declaration or in an expression
-- (C11 6.7.2.3, paragraphs 4 and 8). All tags have file scope, and nothing names one before it is first named: so the tags of structs
-- are declared before the file is read, each for a struct that has no members yet.
use Rattle.std.specs.Prelude.{ℕ, nat_eq, Bool, ◌||◌, is_some, if◌then◌else◌, List, [], ◌∷◌, ◌++◌, Option, Some, None}
use Rattle.std.specs.List.{list_any}
use Rattle.std.specs.Cmp.Lexicographic.{pointwise}
use Rattle.cs_ast.specs.declared.token.Token.{Token}
use Rattle.cs_ast.specs.declared.token.TokenKind.{TokenKind}
use Rattle.cs_ast.specs.declared.token.TokenKind.TheVariants as token
use Rattle.cs_ast.specs.declared.token.Keyword.TheVariants as keyword
use Rattle.cs_declarations.specs.Environment.{Environment}
use Rattle.cs_declarations.specs.Bodies.{with_tagged_struct, tag_in}
use Rattle.cs_file_scope.specs.declared.tags.TagWord.{TagWord}
use Rattle.cs_file_scope.specs.declared.tags.TagWord.TheVariants.{Struct, Enum}

-- the tags that were named so far: those of structs are known, the others were first named as those of enums
pub record Tagging : Type 0 where
  pub known : Environment
  pub enums : List (List ℕ)

abbrev pub is_named : List ℕ → Tagging → Bool
is_named name t = is_some (tag_in t.known name) || list_any (pointwise nat_eq name) t.enums

-- after a tag that wasn't named before
abbrev pub with_new_tag : TagWord → List ℕ → Tagging → Tagging
with_new_tag Struct name t = record { known = with_tagged_struct name t.known; enums = t.enums }
with_new_tag Enum name t = record { known = t.known; enums = t.enums ++ name ∷ [] }

-- after a tag with the keyword before it
abbrev pub tag_named : TagWord → List ℕ → Tagging → Tagging
tag_named word name t = if is_named name t then t else with_new_tag word name t

-- the keyword that a token is, if a tag may follow it
abbrev pub tag_word : TokenKind → Option TagWord
tag_word (token.Keyword keyword.Struct) = Some Struct
tag_word (token.Keyword keyword.Enum) = Some Enum
tag_word other = None

-- after a token that follows such a keyword or another token
abbrev pub token_read : Option TagWord → TokenKind → Tagging → Tagging
token_read (Some word) (token.Name name) t = tag_named word name t
token_read before other t = t

abbrev pub tokens_read : Option TagWord → List Token → Tagging → Tagging
tokens_read before [] t = t
tokens_read before (t ∷ ts) so_far = tokens_read (tag_word t.kind) ts (token_read before t.kind so_far)

-- what is known before a file with these tokens is read
abbrev pub tags_declared : List Token → Environment → Environment
tags_declared tokens k = (tokens_read None tokens (record { known = k; enums = [] })).known

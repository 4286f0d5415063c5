-- What the last token of a file's beginning implies for a declarator's name after it, and which token decides whether a name may
-- follow.
use Rattle.std.specs.Prelude.{◌≡◌, ◌≤◌, ◌↔◌, ℕ, List, [], ◌∷◌, ◌++◌, length, Option, Some, None}
use Rattle.cs_ast.specs.declared.token.TokenKind.{TokenKind}
use Rattle.cs_ast.specs.declared.token.TokenKind.TheVariants as token
use Rattle.cs_ast.specs.declared.token.Keyword.TheVariants as keyword
use Rattle.cs_ast.specs.declared.token.Punctuator.TheVariants as punctuator
use Rattle.cs_grammar.specs.Text.{Kinds}
use Rattle.cs_grammar.specs.FilePhrases.{BeginsFile}
use Rattle.cs_grammar.specs.FileRefusals.{MayHave}
use Rattle.cs_grammar.specs.Roles.{declared_name}
use Rattle.cs_unsupported.specs.declared.declarators.Joint.{Joint}
use Rattle.cs_unsupported.specs.declared.declarators.Joint.TheVariants.{Barred, Listed, Open}

-- after a token
abbrev pub joint_after : TokenKind → Joint
joint_after (token.Keyword keyword.Struct) = Barred
joint_after (token.Keyword keyword.Enum) = Barred
joint_after (token.Keyword keyword.Goto) = Barred
joint_after (token.Punctuator punctuator.Dot) = Barred
joint_after (token.Punctuator punctuator.Arrow) = Barred
joint_after (token.Punctuator punctuator.OpenBrace) = Barred
joint_after (token.Punctuator punctuator.Comma) = Listed
joint_after other = Open

-- after the last of some more tokens, if there are some
abbrev pub ending : Kinds → Joint → Joint
ending [] joint = joint
ending (kind ∷ kinds) joint = ending kinds (joint_after kind)

-- the name is none of the tokens
abbrev pub IsNew : List ℕ → Kinds → Type 0
IsNew name [] = Unit {0}
IsNew name (kind ∷ kinds) = (kind ≡ token.Name name → ⊥) × IsNew name kinds

-- the token isn't a longer name
abbrev pub IsNameWithin : ℕ → TokenKind → Type 0
IsNameWithin most (token.Name name) = length name ≤ most
IsNameWithin most other = Unit {0}

-- no name among the tokens is longer
abbrev pub AreNamesWithin : ℕ → Kinds → Type 0
AreNamesWithin most [] = Unit {0}
AreNamesWithin most (kind ∷ kinds) = IsNameWithin most kind × AreNamesWithin most kinds

-- a declarator's name may follow the tokens exactly if a file continues with the given token; without a given token, none may
-- follow
abbrev pub IsAskedFor : Kinds → Option TokenKind → Type 0
IsAskedFor front None = MayHave front declared_name → ⊥
IsAskedFor front (Some next) = MayHave front declared_name ↔ BeginsFile (front ++ next ∷ [])

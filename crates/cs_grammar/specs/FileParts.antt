-- The classes of phrases that files consist of.
use Rattle.std.specs.Prelude.{◌≡◌, ℕ, ◌+◌, max, List, [], ◌∷◌, Option, Some, None}
use Rattle.cs_ast.specs.declared.token.TokenKind.TheVariants as token
use Rattle.cs_ast.specs.declared.token.Punctuator.TheVariants as punctuator
use Rattle.cs_ast.specs.RawDeclarations.{Specs, Declared, Head}
use Rattle.cs_ast.specs.RawStatements.{Items, External, TypeAlone, Objects, Function, Definition}
use Rattle.cs_ast.specs.RawFileHeight.{highest_by, declared_height, head_height, items_height, external_height}
use Rattle.cs_grammar.specs.TypeWords.{Names}
use Rattle.cs_grammar.specs.Text.{Kinds}
use Rattle.cs_grammar.specs.FileText.{with_commas, declared_text, head_text, items_text, externals_text}
use Rattle.cs_grammar.specs.FilePhrases.{AreAll, IsSomeList, IsDeclared, IsHead, AreNamed, AreItems, IsFile}
use Rattle.cs_grammar.specs.Parsing.{Class}

-- what follows the specifiers of an external declaration that is no typedef: only a semicolon, objects, or a function with or
-- without a body
pub data ExternalRest : Type 0 where
  no_name : ExternalRest
  objects : (list : List Declared) → ExternalRest
  function : (head : Head) → ExternalRest
  definition : (head : Head) (body : Items) → ExternalRest

abbrev pub rest_text : ExternalRest → Kinds → Kinds
rest_text no_name rest = token.Punctuator punctuator.Semicolon ∷ rest
rest_text (objects list) rest = with_commas declared_text list (token.Punctuator punctuator.Semicolon ∷ rest)
rest_text (function head) rest = head_text head (token.Punctuator punctuator.Semicolon ∷ rest)
rest_text (definition head body) rest =
    head_text head (token.Punctuator punctuator.OpenBrace ∷ items_text body (token.Punctuator punctuator.CloseBrace ∷ rest))

abbrev pub rest_height : ExternalRest → ℕ
rest_height no_name = 0
rest_height (objects list) = highest_by declared_height list
rest_height (function head) = head_height head
rest_height (definition head body) = max (head_height head) (1 + items_height body)

abbrev pub IsRest : Names → ExternalRest → Type 0
IsRest names no_name = Unit {0}
IsRest names (objects list) = IsSomeList list × AreAll (IsDeclared names) list
IsRest names (function head) = IsHead names head
IsRest names (definition head body) = IsHead names head × AreNamed head.parameters × AreItems names body

abbrev pub ExternalRests : Names → Class
ExternalRests names = record { Tree = ExternalRest; spell = rest_text; tall = rest_height; Is = IsRest names; Shut = λ tree after. Unit {0} }

-- the external declaration of specifiers and what follows them
abbrev pub external_from : Specs → ExternalRest → External
external_from specs no_name = TypeAlone specs
external_from specs (objects list) = Objects specs list
external_from specs (function head) = Function specs head
external_from specs (definition head body) = Definition specs head body

-- the end of a function: a semicolon, or, if each parameter has a name, a block
abbrev pub end_text : Option Items → Kinds → Kinds
end_text None rest = token.Punctuator punctuator.Semicolon ∷ rest
end_text (Some body) rest = token.Punctuator punctuator.OpenBrace ∷ items_text body (token.Punctuator punctuator.CloseBrace ∷ rest)

abbrev pub end_height : Option Items → ℕ
end_height None = 0
end_height (Some body) = 1 + items_height body

abbrev pub IsEnd : Names → Head → Option Items → Type 0
IsEnd names head None = Unit {0}
IsEnd names head (Some body) = AreNamed head.parameters × AreItems names body

abbrev pub FunctionEnds : Names → Head → Class
FunctionEnds names head = record { Tree = Option Items; spell = end_text; tall = end_height; Is = IsEnd names head; Shut = λ tree after. Unit {0} }

-- the external declarations after others, if these are the typedef names so far; nothing follows them
abbrev pub FilesFrom : Names → Class
FilesFrom names = record {
  Tree = List External;
  spell = externals_text;
  tall = highest_by external_height;
  Is = IsFile names;
  Shut = λ tree after. after ≡ [];
}

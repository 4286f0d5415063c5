-- The tokens of written declarations, statements and files, by their kinds. Each definition takes the tokens that follow.
use Rattle.std.specs.Prelude.{ℕ, Bool, List, [], ◌∷◌, Option, Some, None, if◌then◌else◌}
use Rattle.cs_ast.specs.declared.token.TokenKind.TheVariants as token
use Rattle.cs_ast.specs.declared.token.Keyword.{Keyword}
use Rattle.cs_ast.specs.declared.token.Keyword.TheVariants as keyword
use Rattle.cs_ast.specs.declared.token.Punctuator.{Punctuator}
use Rattle.cs_ast.specs.declared.token.Punctuator.TheVariants as punctuator
use Rattle.cs_ast.specs.RawTree.{Written}
use Rattle.cs_ast.specs.RawDeclarations.{Declarator, Constant, Spec, Static, Plain, StructBody, EnumBody, Specs, NoSpec, MoreSpecs, Members, NoMember}
use Rattle.cs_ast.specs.RawDeclarations.{MoreMembers, Initial, Single, Listed, Initials, NoItem as NoInitial, MoreItems as MoreInitials, Declared, Parameter}
use Rattle.cs_ast.specs.RawDeclarations.{Parameters, NoParameter, VoidAlone, ParameterList, Head}
use Rattle.cs_ast.specs.RawStatements.{First, NoFirst, FirstRuns, FirstDeclares, Sentence, Block, Nothing, Runs, If, IfElse, While, Do, For, Switch, Goto}
use Rattle.cs_ast.specs.RawStatements.{Continue, Break, Return, Label, Item, Declares, Does, Items, NoItem, MoreItems, SwitchItem, Case, Default, Inside}
use Rattle.cs_ast.specs.RawStatements.{SwitchItems, NoSwitchItem, MoreSwitchItems, External, TypeAlone, Typedef, Objects, Function, Definition}
use Rattle.cs_grammar.specs.Text.{Kinds, text, type_word_text, pointers_text}

-- a punctuator before the tokens after it
abbrev pub punctuator_text : Punctuator → Kinds → Kinds
punctuator_text m rest = token.Punctuator m ∷ rest

-- a keyword before the tokens after it
abbrev pub word_text : Keyword → Kinds → Kinds
word_text k rest = token.Keyword k ∷ rest

abbrev pub name_text : Option (List ℕ) → Kinds → Kinds
name_text None rest = rest
name_text (Some name) rest = token.Name name ∷ rest

-- an expression, if there is one
abbrev pub some_text : Option Written → Kinds → Kinds
some_text None rest = rest
some_text (Some e) rest = text e rest

-- a comma, if there is one
abbrev pub comma_text : Bool → Kinds → Kinds
comma_text comma rest = if comma then punctuator_text punctuator.Comma rest else rest

-- each of a list after a comma
abbrev pub each_after_comma : {A : Type 0} → (A → Kinds → Kinds) → List A → Kinds → Kinds
each_after_comma of [] rest = rest
each_after_comma of (a ∷ all) rest = punctuator_text punctuator.Comma (of a (each_after_comma of all rest))

-- a list with commas between its parts
abbrev pub with_commas : {A : Type 0} → (A → Kinds → Kinds) → List A → Kinds → Kinds
with_commas of [] rest = rest
with_commas of (a ∷ all) rest = of a (each_after_comma of all rest)

-- bounds between brackets, which may be empty
abbrev pub brackets_text : List (Option Written) → Kinds → Kinds
brackets_text [] rest = rest
brackets_text (bound ∷ bounds) rest =
    punctuator_text punctuator.OpenBracket (some_text bound (punctuator_text punctuator.CloseBracket (brackets_text bounds rest)))

abbrev pub declarator_text : Declarator → Kinds → Kinds
declarator_text d rest = pointers_text d.pointers (token.Name d.name ∷ brackets_text d.bounds rest)

-- the value of a constant, after its `=`
abbrev pub value_text : Option Written → Kinds → Kinds
value_text None rest = rest
value_text (Some e) rest = punctuator_text punctuator.Equal (text e rest)

abbrev pub constant_text : Constant → Kinds → Kinds
constant_text c rest = token.Name c.name ∷ value_text c.value rest

abbrev mutual
  -- a word before the declarators, or a type with its body
  pub spec_text : Spec → Kinds → Kinds
  spec_text Static rest = word_text keyword.Static rest
  spec_text (Plain w) rest = type_word_text w rest
  spec_text (StructBody tag members) rest =
      word_text keyword.Struct (name_text tag (punctuator_text punctuator.OpenBrace (members_text members (punctuator_text punctuator.CloseBrace rest))))
  spec_text (EnumBody tag constants comma) rest =
      word_text keyword.Enum (name_text tag
      (punctuator_text punctuator.OpenBrace (with_commas constant_text constants (comma_text comma (punctuator_text punctuator.CloseBrace rest)))))

  pub specs_text : Specs → Kinds → Kinds
  specs_text NoSpec rest = rest
  specs_text (MoreSpecs first others) rest = spec_text first (specs_text others rest)

  pub members_text : Members → Kinds → Kinds
  members_text NoMember rest = rest
  members_text (MoreMembers specs declarators others) rest =
      specs_text specs (with_commas declarator_text declarators (punctuator_text punctuator.Semicolon (members_text others rest)))

abbrev mutual
  pub initial_text : Initial → Kinds → Kinds
  initial_text (Single value) rest = text value rest
  initial_text (Listed items comma) rest =
      punctuator_text punctuator.OpenBrace (initials_text items (comma_text comma (punctuator_text punctuator.CloseBrace rest)))

  pub initials_text : Initials → Kinds → Kinds
  initials_text NoInitial rest = rest
  initials_text (MoreInitials first others) rest = initial_text first (further_initials_text others rest)

  pub further_initials_text : Initials → Kinds → Kinds
  further_initials_text NoInitial rest = rest
  further_initials_text (MoreInitials first others) rest = punctuator_text punctuator.Comma (initial_text first (further_initials_text others rest))

-- an initializer, after its `=`
abbrev pub first_value_text : Option Initial → Kinds → Kinds
first_value_text None rest = rest
first_value_text (Some initial) rest = punctuator_text punctuator.Equal (initial_text initial rest)

abbrev pub declared_text : Declared → Kinds → Kinds
declared_text d rest = declarator_text d.declarator (first_value_text d.initial rest)

-- a declaration of objects, with its semicolon
abbrev pub declaration_text : Specs → List Declared → Kinds → Kinds
declaration_text specs objects rest = specs_text specs (with_commas declared_text objects (punctuator_text punctuator.Semicolon rest))

abbrev pub parameter_text : Parameter → Kinds → Kinds
parameter_text p rest = specs_text p.specs (pointers_text p.pointers (name_text p.name (brackets_text p.bounds rest)))

abbrev pub parameters_text : Parameters → Kinds → Kinds
parameters_text NoParameter rest = rest
parameters_text VoidAlone rest = word_text keyword.Void rest
parameters_text (ParameterList parameters) rest = with_commas parameter_text parameters rest

-- a function's declarator: its name, with its parameters between parentheses
abbrev pub head_text : Head → Kinds → Kinds
head_text h rest =
    pointers_text h.pointers (token.Name h.name ∷ punctuator_text punctuator.OpenParenthesis
    (parameters_text h.parameters (punctuator_text punctuator.CloseParenthesis rest)))

-- the first part of a `for`, with its semicolon
abbrev pub first_text : First → Kinds → Kinds
first_text NoFirst rest = punctuator_text punctuator.Semicolon rest
first_text (FirstRuns e) rest = text e (punctuator_text punctuator.Semicolon rest)
first_text (FirstDeclares specs objects) rest = declaration_text specs objects rest

-- an expression between parentheses
abbrev pub test_text : Written → Kinds → Kinds
test_text test rest = punctuator_text punctuator.OpenParenthesis (text test (punctuator_text punctuator.CloseParenthesis rest))

abbrev mutual
  pub sentence_text : Sentence → Kinds → Kinds
  sentence_text (Block items) rest = punctuator_text punctuator.OpenBrace (items_text items (punctuator_text punctuator.CloseBrace rest))
  sentence_text Nothing rest = punctuator_text punctuator.Semicolon rest
  sentence_text (Runs e) rest = text e (punctuator_text punctuator.Semicolon rest)
  sentence_text (If test body) rest = word_text keyword.If (test_text test (sentence_text body rest))
  sentence_text (IfElse test body other) rest =
      word_text keyword.If (test_text test (sentence_text body (word_text keyword.Else (sentence_text other rest))))
  sentence_text (While test body) rest = word_text keyword.While (test_text test (sentence_text body rest))
  sentence_text (Do body test) rest =
      word_text keyword.Do (sentence_text body (word_text keyword.While (test_text test (punctuator_text punctuator.Semicolon rest))))
  sentence_text (For first test last body) rest =
      word_text keyword.For (punctuator_text punctuator.OpenParenthesis
      (first_text first
      (some_text test (punctuator_text punctuator.Semicolon (some_text last (punctuator_text punctuator.CloseParenthesis (sentence_text body rest)))))))
  sentence_text (Switch value items) rest =
      word_text keyword.Switch (test_text value (punctuator_text punctuator.OpenBrace (switch_text items (punctuator_text punctuator.CloseBrace rest))))
  sentence_text (Goto label) rest = word_text keyword.Goto (token.Name label ∷ punctuator_text punctuator.Semicolon rest)
  sentence_text Continue rest = word_text keyword.Continue (punctuator_text punctuator.Semicolon rest)
  sentence_text Break rest = word_text keyword.Break (punctuator_text punctuator.Semicolon rest)
  sentence_text (Return value) rest = word_text keyword.Return (some_text value (punctuator_text punctuator.Semicolon rest))
  sentence_text (Label name body) rest = token.Name name ∷ punctuator_text punctuator.Colon (sentence_text body rest)

  pub item_text : Item → Kinds → Kinds
  item_text (Declares specs objects) rest = declaration_text specs objects rest
  item_text (Does statement) rest = sentence_text statement rest

  pub items_text : Items → Kinds → Kinds
  items_text NoItem rest = rest
  items_text (MoreItems first others) rest = item_text first (items_text others rest)

  pub switch_item_text : SwitchItem → Kinds → Kinds
  switch_item_text (Case value) rest = word_text keyword.Case (text value (punctuator_text punctuator.Colon rest))
  switch_item_text Default rest = word_text keyword.Default (punctuator_text punctuator.Colon rest)
  switch_item_text (Inside item) rest = item_text item rest

  pub switch_text : SwitchItems → Kinds → Kinds
  switch_text NoSwitchItem rest = rest
  switch_text (MoreSwitchItems first others) rest = switch_item_text first (switch_text others rest)

-- an external declaration
abbrev pub external_text : External → Kinds → Kinds
external_text (TypeAlone specs) rest = specs_text specs (punctuator_text punctuator.Semicolon rest)
external_text (Typedef specs names) rest =
    word_text keyword.Typedef (specs_text specs (with_commas declarator_text names (punctuator_text punctuator.Semicolon rest)))
external_text (Objects specs objects) rest = declaration_text specs objects rest
external_text (Function specs head) rest = specs_text specs (head_text head (punctuator_text punctuator.Semicolon rest))
external_text (Definition specs head body) rest =
    specs_text specs (head_text head (punctuator_text punctuator.OpenBrace (items_text body (punctuator_text punctuator.CloseBrace rest))))

-- a sequence of external declarations
abbrev pub externals_text : List External → Kinds → Kinds
externals_text [] rest = rest
externals_text (external ∷ externals) rest = external_text external (externals_text externals rest)

-- a file
abbrev pub file_text : List External → Kinds
file_text externals = externals_text externals []

-- The height of external declarations: a leaf has height 1, any other node one more than its highest child. Specifiers are no
-- node: they are as high as their highest word. A declarator, a constant and a statement of one token are leaves, if they have no
-- expression; an initializer list, a parameter list and the body of a `switch` are nodes.
use Rattle.std.specs.Prelude.{ℕ, ◌+◌, max, List, [], ◌∷◌, Option, None, Some}
use Rattle.cs_ast.specs.RawTree.{Written}
use Rattle.cs_ast.specs.RawHeight.{height}
use Rattle.cs_ast.specs.RawDeclarations.{Declarator, Constant, Spec, Static, Plain, StructBody, EnumBody, Specs, NoSpec, MoreSpecs, Members, NoMember}
use Rattle.cs_ast.specs.RawDeclarations.{MoreMembers, Initial, Single, Listed, Initials, NoItem as NoInitial, MoreItems as MoreInitials, Declared, Parameter}
use Rattle.cs_ast.specs.RawDeclarations.{Parameters, NoParameter, VoidAlone, ParameterList, Head}
use Rattle.cs_ast.specs.RawStatements.{First, NoFirst, FirstRuns, FirstDeclares, Sentence, Block, Nothing, Runs, If, IfElse, While, Do, For, Switch, Goto}
use Rattle.cs_ast.specs.RawStatements.{Continue, Break, Return, Label, Item, Declares, Does, Items, NoItem, MoreItems, SwitchItem, Case, Default, Inside}
use Rattle.cs_ast.specs.RawStatements.{SwitchItems, NoSwitchItem, MoreSwitchItems, External, TypeAlone, Typedef, Objects, Function, Definition}

-- the height of an optional expression
abbrev pub height_of_some : Option Written → ℕ
height_of_some None = 0
height_of_some (Some e) = height e

-- the height of the highest item of a list, 0 if there is none
abbrev pub highest_by : {A : Type 0} → (A → ℕ) → List A → ℕ
highest_by height_by [] = 0
highest_by height_by (a ∷ all) = max (height_by a) (highest_by height_by all)

abbrev pub declarator_height : Declarator → ℕ
declarator_height d = 1 + highest_by height_of_some d.bounds

abbrev pub constant_height : Constant → ℕ
constant_height c = 1 + height_of_some c.value

abbrev mutual
  pub spec_height : Spec → ℕ
  spec_height Static = 1
  spec_height (Plain w) = 1
  spec_height (StructBody tag members) = 1 + members_height members
  spec_height (EnumBody tag constants comma) = 1 + highest_by constant_height constants

  pub specs_height : Specs → ℕ
  specs_height NoSpec = 0
  specs_height (MoreSpecs first others) = max (spec_height first) (specs_height others)

  pub members_height : Members → ℕ
  members_height NoMember = 0
  members_height (MoreMembers specs declarators others) =
      max (1 + max (specs_height specs) (highest_by declarator_height declarators)) (members_height others)

abbrev mutual
  pub initial_height : Initial → ℕ
  initial_height (Single value) = height value
  initial_height (Listed items comma) = 1 + initials_height items

  pub initials_height : Initials → ℕ
  initials_height NoInitial = 0
  initials_height (MoreInitials first others) = max (initial_height first) (initials_height others)

-- a declarator with an `=` is a node; without one only the declarator counts
abbrev pub declared_height_with : ℕ → Option Initial → ℕ
declared_height_with declarator None = declarator
declared_height_with declarator (Some initial) = 1 + max declarator (initial_height initial)

abbrev pub declared_height : Declared → ℕ
declared_height d = declared_height_with (declarator_height d.declarator) d.initial

-- the height of a declaration of objects
abbrev pub declaration_height : Specs → List Declared → ℕ
declaration_height specs objects = 1 + max (specs_height specs) (highest_by declared_height objects)

abbrev pub parameter_height : Parameter → ℕ
parameter_height p = 1 + max (specs_height p.specs) (highest_by height_of_some p.bounds)

abbrev pub parameters_height : Parameters → ℕ
parameters_height NoParameter = 1
parameters_height VoidAlone = 1
parameters_height (ParameterList parameters) = 1 + highest_by parameter_height parameters

abbrev pub head_height : Head → ℕ
head_height h = 1 + parameters_height h.parameters

abbrev pub first_height : First → ℕ
first_height NoFirst = 0
first_height (FirstRuns e) = height e
first_height (FirstDeclares specs objects) = declaration_height specs objects

abbrev mutual
  pub sentence_height : Sentence → ℕ
  sentence_height (Block items) = 1 + items_height items
  sentence_height Nothing = 1
  sentence_height (Runs e) = 1 + height e
  sentence_height (If test body) = 1 + max (height test) (sentence_height body)
  sentence_height (IfElse test body other) = 1 + max (height test) (max (sentence_height body) (sentence_height other))
  sentence_height (While test body) = 1 + max (height test) (sentence_height body)
  sentence_height (Do body test) = 1 + max (sentence_height body) (height test)
  sentence_height (For first test last body) =
      1 + max (first_height first) (max (height_of_some test) (max (height_of_some last) (sentence_height body)))
  sentence_height (Switch value items) = 1 + max (height value) (1 + switch_height items)
  sentence_height (Goto label) = 1
  sentence_height Continue = 1
  sentence_height Break = 1
  sentence_height (Return value) = 1 + height_of_some value
  sentence_height (Label name body) = 1 + sentence_height body

  pub item_height : Item → ℕ
  item_height (Declares specs objects) = declaration_height specs objects
  item_height (Does statement) = sentence_height statement

  pub items_height : Items → ℕ
  items_height NoItem = 0
  items_height (MoreItems first others) = max (item_height first) (items_height others)

  pub switch_item_height : SwitchItem → ℕ
  switch_item_height (Case value) = height value
  switch_item_height Default = 0
  switch_item_height (Inside item) = item_height item

  pub switch_height : SwitchItems → ℕ
  switch_height NoSwitchItem = 0
  switch_height (MoreSwitchItems first others) = max (switch_item_height first) (switch_height others)

-- the height of an external declaration; the body of a function is a block
abbrev pub external_height : External → ℕ
external_height (TypeAlone specs) = 1 + specs_height specs
external_height (Typedef specs names) = 1 + max (specs_height specs) (highest_by declarator_height names)
external_height (Objects specs objects) = declaration_height specs objects
external_height (Function specs head) = 1 + max (specs_height specs) (head_height head)
external_height (Definition specs head body) = 1 + max (specs_height specs) (max (head_height head) (1 + items_height body))

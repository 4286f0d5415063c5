-- The role of each token in a file, as far as it matters for words and punctuators that aren't supported. The lists are parallel
-- to those of the tokens.
use Rattle.std.specs.Prelude.{ℕ, Bool, List, [], ◌∷◌, Option, Some, None, if◌then◌else◌}
use Rattle.cs_ast.specs.declared.raw.written_type.TypeWord.{TypeWord}
use Rattle.cs_ast.specs.declared.raw.written_type.PointerWord.{PointerWord}
use Rattle.cs_ast.specs.RawTree.{Written, WrittenList, Named, Numeral, Character, Literal, Enclosed, Index, Call, Member, Arrow, StepAfter, StepBefore, Prefix}
use Rattle.cs_ast.specs.RawTree.{SizeOf, SizeOfType, Cast, Infix, Choice, Assign, Comma, End, More}
use Rattle.cs_ast.specs.RawDeclarations.{Declarator, Constant, Spec, Static, Plain, StructBody, EnumBody, Specs, NoSpec, MoreSpecs, Members, NoMember}
use Rattle.cs_ast.specs.RawDeclarations.{MoreMembers, Initial, Single, Listed, Initials, NoItem as NoInitial, MoreItems as MoreInitials, Declared, Parameter}
use Rattle.cs_ast.specs.RawDeclarations.{Parameters, NoParameter, VoidAlone, ParameterList, Head}
use Rattle.cs_ast.specs.RawStatements.{First, NoFirst, FirstRuns, FirstDeclares, Sentence, Block, Nothing, Runs, If, IfElse, While, Do, For, Switch, Goto}
use Rattle.cs_ast.specs.RawStatements.{Continue, Break, Return, Label, Item, Declares, Does, Items, NoItem, MoreItems, SwitchItem, Case, Default, Inside}
use Rattle.cs_ast.specs.RawStatements.{SwitchItems, NoSwitchItem, MoreSwitchItems, External, TypeAlone, Typedef, Objects, Function, Definition}
use Rattle.cs_grammar.specs.Text.{Kinds, words_text, pointers_text, type_word_text}
use Rattle.cs_grammar.specs.FileText.{name_text}

-- the role of a token: the parenthesis after the type of a cast or of `sizeof`; another token of an expression; the name of a
-- declarator; the comma or semicolon after a member's declarator; the brace that begins an initializer list; anything else
pub data Role : Type 0 where
  closes_type : Role
  in_expression : Role
  declared_name : Role
  after_member : Role
  opens_list : Role
  another : Role

abbrev pub Roles : Type 0
Roles = List Role

-- each of these tokens has this role
abbrev pub each : Role → Kinds → Roles → Roles
each role [] rest = rest
each role (t ∷ tokens) rest = role ∷ each role tokens rest

-- the words and pointers of a type in an expression
abbrev pub type_roles : List TypeWord → List PointerWord → Roles → Roles
type_roles words pointers rest = each in_expression (words_text words (pointers_text pointers [])) rest

abbrev mutual
  pub roles : Written → Roles → Roles
  roles (Named name) rest = in_expression ∷ rest
  roles (Numeral constant) rest = in_expression ∷ rest
  roles (Character value) rest = in_expression ∷ rest
  roles (Literal bytes) rest = in_expression ∷ rest
  roles (Enclosed inner) rest = in_expression ∷ roles inner (in_expression ∷ rest)
  roles (Index array number) rest = roles array (in_expression ∷ roles number (in_expression ∷ rest))
  roles (Call function arguments) rest = roles function (in_expression ∷ roles_listed arguments (in_expression ∷ rest))
  roles (Member object name) rest = roles object (in_expression ∷ in_expression ∷ rest)
  roles (Arrow pointer name) rest = roles pointer (in_expression ∷ in_expression ∷ rest)
  roles (StepAfter step object) rest = roles object (in_expression ∷ rest)
  roles (StepBefore step object) rest = in_expression ∷ roles object rest
  roles (Prefix operator operand) rest = in_expression ∷ roles operand rest
  roles (SizeOf operand) rest = in_expression ∷ roles operand rest
  roles (SizeOfType words pointers bounds) rest =
      in_expression ∷ in_expression ∷ type_roles words pointers (roles_of_bounds bounds (closes_type ∷ rest))
  roles (Cast words pointers bounds operand) rest =
      in_expression ∷ type_roles words pointers (roles_of_bounds bounds (closes_type ∷ roles operand rest))
  roles (Infix operator left right) rest = roles left (in_expression ∷ roles right rest)
  roles (Choice test one other) rest = roles test (in_expression ∷ roles one (in_expression ∷ roles other rest))
  roles (Assign operator object value) rest = roles object (in_expression ∷ roles value rest)
  roles (Comma first second) rest = roles first (in_expression ∷ roles second rest)

  pub roles_listed : WrittenList → Roles → Roles
  roles_listed End rest = rest
  roles_listed (More first others) rest = roles first (roles_after_commas others rest)

  pub roles_after_commas : WrittenList → Roles → Roles
  roles_after_commas End rest = rest
  roles_after_commas (More first others) rest = in_expression ∷ roles first (roles_after_commas others rest)

  pub roles_of_bounds : WrittenList → Roles → Roles
  roles_of_bounds End rest = rest
  roles_of_bounds (More first others) rest = in_expression ∷ roles first (in_expression ∷ roles_of_bounds others rest)

abbrev pub some_roles : Option Written → Roles → Roles
some_roles None rest = rest
some_roles (Some e) rest = roles e rest

abbrev pub comma_roles : Bool → Roles → Roles
comma_roles comma rest = if comma then another ∷ rest else rest

-- each item of a list after a comma, which has this role
abbrev pub each_after : {A : Type 0} → Role → (A → Roles → Roles) → List A → Roles → Roles
each_after comma of [] rest = rest
each_after comma of (a ∷ all) rest = comma ∷ of a (each_after comma of all rest)

-- a list with commas of this role between its items
abbrev pub between : {A : Type 0} → Role → (A → Roles → Roles) → List A → Roles → Roles
between comma of [] rest = rest
between comma of (a ∷ all) rest = of a (each_after comma of all rest)

abbrev pub brackets_roles : List (Option Written) → Roles → Roles
brackets_roles [] rest = rest
brackets_roles (bound ∷ bounds) rest = another ∷ some_roles bound (another ∷ brackets_roles bounds rest)

abbrev pub declarator_roles : Declarator → Roles → Roles
declarator_roles d rest = each another (pointers_text d.pointers []) (declared_name ∷ brackets_roles d.bounds rest)

abbrev pub value_roles : Option Written → Roles → Roles
value_roles None rest = rest
value_roles (Some e) rest = another ∷ roles e rest

-- an enumeration constant, whose name isn't that of a declarator
abbrev pub constant_roles : Constant → Roles → Roles
constant_roles c rest = another ∷ value_roles c.value rest

abbrev mutual
  pub spec_roles : Spec → Roles → Roles
  spec_roles Static rest = another ∷ rest
  spec_roles (Plain w) rest = each another (type_word_text w []) rest
  spec_roles (StructBody tag members) rest = another ∷ each another (name_text tag []) (another ∷ members_roles members (another ∷ rest))
  spec_roles (EnumBody tag constants comma) rest =
      another ∷ each another (name_text tag []) (another ∷ between another constant_roles constants (comma_roles comma (another ∷ rest)))

  pub specs_roles : Specs → Roles → Roles
  specs_roles NoSpec rest = rest
  specs_roles (MoreSpecs first others) rest = spec_roles first (specs_roles others rest)

  pub members_roles : Members → Roles → Roles
  members_roles NoMember rest = rest
  members_roles (MoreMembers specs declarators others) rest =
      specs_roles specs (between after_member declarator_roles declarators (after_member ∷ members_roles others rest))

abbrev mutual
  pub initial_roles : Initial → Roles → Roles
  initial_roles (Single value) rest = roles value rest
  initial_roles (Listed items comma) rest = opens_list ∷ initials_roles items (comma_roles comma (another ∷ rest))

  pub initials_roles : Initials → Roles → Roles
  initials_roles NoInitial rest = rest
  initials_roles (MoreInitials first others) rest = initial_roles first (further_initials_roles others rest)

  pub further_initials_roles : Initials → Roles → Roles
  further_initials_roles NoInitial rest = rest
  further_initials_roles (MoreInitials first others) rest = another ∷ initial_roles first (further_initials_roles others rest)

abbrev pub first_value_roles : Option Initial → Roles → Roles
first_value_roles None rest = rest
first_value_roles (Some initial) rest = another ∷ initial_roles initial rest

abbrev pub declared_roles : Declared → Roles → Roles
declared_roles d rest = declarator_roles d.declarator (first_value_roles d.initial rest)

abbrev pub declaration_roles : Specs → List Declared → Roles → Roles
declaration_roles specs objects rest = specs_roles specs (between another declared_roles objects (another ∷ rest))

-- the name of a parameter, if it has one
abbrev pub name_roles : Option (List ℕ) → Roles → Roles
name_roles None rest = rest
name_roles (Some name) rest = declared_name ∷ rest

abbrev pub parameter_roles : Parameter → Roles → Roles
parameter_roles p rest = specs_roles p.specs (each another (pointers_text p.pointers []) (name_roles p.name (brackets_roles p.bounds rest)))

abbrev pub parameters_roles : Parameters → Roles → Roles
parameters_roles NoParameter rest = rest
parameters_roles VoidAlone rest = another ∷ rest
parameters_roles (ParameterList parameters) rest = between another parameter_roles parameters rest

abbrev pub head_roles : Head → Roles → Roles
head_roles h rest = each another (pointers_text h.pointers []) (declared_name ∷ another ∷ parameters_roles h.parameters (another ∷ rest))

abbrev pub first_roles : First → Roles → Roles
first_roles NoFirst rest = another ∷ rest
first_roles (FirstRuns e) rest = roles e (another ∷ rest)
first_roles (FirstDeclares specs objects) rest = declaration_roles specs objects rest

abbrev pub test_roles : Written → Roles → Roles
test_roles test rest = another ∷ roles test (another ∷ rest)

abbrev mutual
  pub sentence_roles : Sentence → Roles → Roles
  sentence_roles (Block items) rest = another ∷ items_roles items (another ∷ rest)
  sentence_roles Nothing rest = another ∷ rest
  sentence_roles (Runs e) rest = roles e (another ∷ rest)
  sentence_roles (If test body) rest = another ∷ test_roles test (sentence_roles body rest)
  sentence_roles (IfElse test body other) rest = another ∷ test_roles test (sentence_roles body (another ∷ sentence_roles other rest))
  sentence_roles (While test body) rest = another ∷ test_roles test (sentence_roles body rest)
  sentence_roles (Do body test) rest = another ∷ sentence_roles body (another ∷ test_roles test (another ∷ rest))
  sentence_roles (For first test last body) rest =
      another ∷ another ∷ first_roles first (some_roles test (another ∷ some_roles last (another ∷ sentence_roles body rest)))
  sentence_roles (Switch value items) rest = another ∷ test_roles value (another ∷ switch_roles items (another ∷ rest))
  sentence_roles (Goto label) rest = another ∷ another ∷ another ∷ rest
  sentence_roles Continue rest = another ∷ another ∷ rest
  sentence_roles Break rest = another ∷ another ∷ rest
  sentence_roles (Return value) rest = another ∷ some_roles value (another ∷ rest)
  sentence_roles (Label name body) rest = another ∷ another ∷ sentence_roles body rest

  pub item_roles : Item → Roles → Roles
  item_roles (Declares specs objects) rest = declaration_roles specs objects rest
  item_roles (Does statement) rest = sentence_roles statement rest

  pub items_roles : Items → Roles → Roles
  items_roles NoItem rest = rest
  items_roles (MoreItems first others) rest = item_roles first (items_roles others rest)

  pub switch_item_roles : SwitchItem → Roles → Roles
  switch_item_roles (Case value) rest = another ∷ roles value (another ∷ rest)
  switch_item_roles Default rest = another ∷ another ∷ rest
  switch_item_roles (Inside item) rest = item_roles item rest

  pub switch_roles : SwitchItems → Roles → Roles
  switch_roles NoSwitchItem rest = rest
  switch_roles (MoreSwitchItems first others) rest = switch_item_roles first (switch_roles others rest)

abbrev pub external_roles : External → Roles → Roles
external_roles (TypeAlone specs) rest = specs_roles specs (another ∷ rest)
external_roles (Typedef specs names) rest = another ∷ specs_roles specs (between another declarator_roles names (another ∷ rest))
external_roles (Objects specs objects) rest = declaration_roles specs objects rest
external_roles (Function specs head) rest = specs_roles specs (head_roles head (another ∷ rest))
external_roles (Definition specs head body) rest = specs_roles specs (head_roles head (another ∷ items_roles body (another ∷ rest)))

-- the roles of the tokens of a file
abbrev pub file_roles : List External → Roles
file_roles [] = []
file_roles (external ∷ externals) = external_roles external (file_roles externals)

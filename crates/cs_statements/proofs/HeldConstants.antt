-- The constants of written statements and files are among the tokens of their text: for `well_formed`, a clause of the contract of `typed`.
use Rattle.std.proofs.Common.{ℕ, Bool, true, false, List, [], ◌∷◌, map}
use Rattle.std.specs.Prelude.{Option, Some, None, option_map}
use Rattle.std.specs.List.{All}
use Rattle.std.proofs.lemmas.List.Elements.{recursion_from_All}
use Rattle.cs_ast.specs.declared.raw.written_type.TypeWord.{TypeWord}
use Rattle.cs_ast.specs.declared.raw.written_type.TypeWord.TheVariants as word
use Rattle.cs_ast.specs.declared.raw.written_type.PointerWord.{PointerWord}
use Rattle.cs_ast.specs.declared.raw.expression.RawExpr.{RawExpr}
use Rattle.cs_ast.specs.declared.raw.declaration.RawFirstValue.{RawFirstValue}
use Rattle.cs_ast.specs.declared.raw.declaration.RawInit.{RawInit}
use Rattle.cs_ast.specs.declared.raw.declaration.RawFunction.{RawFunction}
use Rattle.cs_ast.specs.declared.raw.statement.RawStmtKind as kinds
use Rattle.cs_ast.specs.declared.raw.statement.RawStmtKind.{RawStmtKind}
use Rattle.cs_ast.specs.declared.raw.statement.RawStmtKind.TheVariants as kind
use Rattle.cs_ast.specs.declared.raw.statement.RawItem.{RawItem}
use Rattle.cs_ast.specs.declared.raw.statement.RawItem as items
use Rattle.cs_ast.specs.declared.raw.statement.RawSwitchItem as switches
use Rattle.cs_ast.specs.declared.raw.statement.RawFirst.{RawFirst}
use Rattle.cs_ast.specs.declared.raw.statement.RawFirst.TheVariants as first_part
use Rattle.cs_ast.specs.declared.raw.external.RawExternal.{RawExternal}
use Rattle.cs_ast.specs.declared.raw.external.RawExternalKind.{RawExternalKind}
use Rattle.cs_ast.specs.declared.raw.external.RawExternalKind.TheVariants as external_kind
use Rattle.cs_ast.specs.RawTree.{Written}
use Rattle.cs_ast.specs.RawView.{written}
use Rattle.cs_ast.specs.RawDeclarations.{Declarator, Constant, Spec, Static, Plain, StructBody, EnumBody, Specs, NoSpec, MoreSpecs, Members, NoMember}
use Rattle.cs_ast.specs.RawDeclarations.{MoreMembers, Parameter, Parameters, NoParameter, VoidAlone, ParameterList}
use Rattle.cs_ast.specs.RawDeclarationView.{initial, declared, declarator, specs, parameters, head}
use Rattle.cs_ast.specs.RawStatementView.{first_of, sentence, item, items_row, switch_row, switch_item, items_list, external_of, external}
use Rattle.cs_grammar.specs.Text.{Kinds, pointers_text, type_word_text}
use Rattle.cs_grammar.specs.FileText.{name_text, some_text, comma_text, each_after_comma, with_commas, brackets_text, declarator_text, value_text}
use Rattle.cs_grammar.specs.FileText.{constant_text, spec_text, specs_text, members_text, first_value_text, declared_text, declaration_text, parameter_text}
use Rattle.cs_grammar.specs.FileText.{parameters_text, head_text, first_text, test_text, sentence_text, item_text, items_text, switch_item_text, switch_text}
use Rattle.cs_grammar.specs.FileText.{external_text, externals_text, file_text}
use Rattle.cs_well_formed.specs.Constants.{HasConstants, InitialHasConstants}
use Rattle.cs_ast.specs.HeldTokens.{IsHeldToken}
use Rattle.cs_well_formed.proofs.Tokens.{AreHeld, text-held, initial_text-held}

-- the constants of an optional initializer, and of declared objects
abbrev pub FirstValueHasConstants : Option RawFirstValue → Type 0
FirstValueHasConstants None = Unit {0}
FirstValueHasConstants (Some value) = InitialHasConstants (initial value.initial)

abbrev pub ObjectsHaveConstants : List RawInit → Type 0
ObjectsHaveConstants [] = Unit {0}
ObjectsHaveConstants (d ∷ ds) = FirstValueHasConstants d.initial × ObjectsHaveConstants ds

abbrev pub AnyHasConstants : Option RawExpr → Type 0
AnyHasConstants None = Unit {0}
AnyHasConstants (Some e) = HasConstants (written e)

abbrev pub FirstHasConstants : RawFirst → Type 0
FirstHasConstants first_part.Empty = Unit {0}
FirstHasConstants (first_part.Run e) = HasConstants (written e)
FirstHasConstants (first_part.Declare s objects) = ObjectsHaveConstants objects.items

abbrev mutual
  -- the constants of a statement aren't too wide
  pub StatementHasConstants : RawStmtKind → Type 0
  StatementHasConstants (kind.Block' shape row) = RowHasConstants row
  StatementHasConstants kind.Empty = Unit {0}
  StatementHasConstants (kind.Run e) = HasConstants (written e)
  StatementHasConstants (kind.If' test place p body) = HasConstants (written test) × StatementHasConstants body
  StatementHasConstants (kind.IfElse' test place p body place' q other) =
      HasConstants (written test) × StatementHasConstants body × StatementHasConstants other
  StatementHasConstants (kind.While' test place p body) = HasConstants (written test) × StatementHasConstants body
  StatementHasConstants (kind.Do' place p body test) = StatementHasConstants body × HasConstants (written test)
  StatementHasConstants (kind.For' first test last place p body) =
      FirstHasConstants first × AnyHasConstants test × AnyHasConstants last × StatementHasConstants body
  StatementHasConstants (kind.Switch' value shape row) = HasConstants (written value) × SwitchHasConstants row
  StatementHasConstants (kind.Goto label) = Unit {0}
  StatementHasConstants kind.Continue = Unit {0}
  StatementHasConstants kind.Break = Unit {0}
  StatementHasConstants (kind.Return value) = AnyHasConstants value
  StatementHasConstants (kind.Label' name place p body) = StatementHasConstants body

  pub ItemHasConstants : RawItem → Type 0
  ItemHasConstants (items.TheVariants.Declare s objects) = ObjectsHaveConstants objects.items
  ItemHasConstants (items.TheVariants.Run' place p body) = StatementHasConstants body

  pub RowHasConstants : {n : _} → kinds.Row_of-RawItem n → Type 0
  RowHasConstants kinds.end_of-RawItem = Unit {0}
  RowHasConstants (kinds.more_of-RawItem first others) = ItemHasConstants first × RowHasConstants others

  pub SwitchItemHasConstants : switches.RawSwitchItem → Type 0
  SwitchItemHasConstants (switches.TheVariants.Case at value) = HasConstants (written value)
  SwitchItemHasConstants (switches.TheVariants.Default at) = Unit {0}
  SwitchItemHasConstants (switches.TheVariants.Item i) = ItemHasConstants i

  pub SwitchHasConstants : {n : _} → kinds.Row_of-RawSwitchItem n → Type 0
  SwitchHasConstants kinds.end_of-RawSwitchItem = Unit {0}
  SwitchHasConstants (kinds.more_of-RawSwitchItem first others) = SwitchItemHasConstants first × SwitchHasConstants others

-- the same for a function's body, for an external declaration, and for a file
abbrev pub ItemsHaveConstants : List RawItem → Type 0
ItemsHaveConstants [] = Unit {0}
ItemsHaveConstants (first ∷ others) = ItemHasConstants first × ItemsHaveConstants others

abbrev pub ExternalHasConstants : RawExternalKind → Type 0
ExternalHasConstants (external_kind.Type s) = Unit {0}
ExternalHasConstants (external_kind.Typedef s names) = Unit {0}
ExternalHasConstants (external_kind.Objects s objects) = ObjectsHaveConstants objects.items
ExternalHasConstants (external_kind.Function s d) = Unit {0}
ExternalHasConstants (external_kind.Definition s d body) = ItemsHaveConstants body.items.items

abbrev pub FileHasConstants : List RawExternal → Type 0
FileHasConstants [] = Unit {0}
FileHasConstants (e ∷ es) = ExternalHasConstants e.kind × FileHasConstants es

-- ---- the tokens after the parts of declarations

after_type_word : (w : TypeWord) (rest : Kinds) → AreHeld (type_word_text w rest) → AreHeld rest
after_type_word word.Const rest h = h.1
after_type_word (word.Integer kind) rest h = h.1
after_type_word word.Void rest h = h.1
after_type_word (word.Typedef name) rest h = h.1
after_type_word (word.Struct tag) rest h = h.1.1
after_type_word (word.Enum tag) rest h = h.1.1

after_pointers : (pointers : List PointerWord) (rest : Kinds) → AreHeld (pointers_text pointers rest) → AreHeld rest
after_pointers [] rest h = h
after_pointers (p ∷ pointers) rest h = after_pointers pointers rest h.1

after_name : (name : Option (List ℕ)) (rest : Kinds) → AreHeld (name_text name rest) → AreHeld rest
after_name None rest h = h
after_name (Some name) rest h = h.1

following_comma : (comma : Bool) (rest : Kinds) → AreHeld (comma_text comma rest) → AreHeld rest
following_comma true rest h = h.1
following_comma false rest h = h

after_some : (e : Option Written) (rest : Kinds) → AreHeld (some_text e rest) → AreHeld rest
after_some None rest h = h
after_some (Some e) rest h = (text-held e rest h).1

after_brackets : (bounds : List (Option Written)) (rest : Kinds) → AreHeld (brackets_text bounds rest) → AreHeld rest
after_brackets [] rest h = h
after_brackets (bound ∷ bounds) rest h = after_brackets bounds rest (after_some bound _ h.1).1

after_declarator : (d : Declarator) (rest : Kinds) → AreHeld (declarator_text d rest) → AreHeld rest
after_declarator d rest h = after_brackets d.bounds rest (after_pointers d.pointers _ h).1

after_value : (e : Option Written) (rest : Kinds) → AreHeld (value_text e rest) → AreHeld rest
after_value None rest h = h
after_value (Some e) rest h = (text-held e rest h.1).1

after_constant : (c : Constant) (rest : Kinds) → AreHeld (constant_text c rest) → AreHeld rest
after_constant c rest h = after_value c.value rest h.1

-- a list whose elements have commas between them
module _ {A : Type 0} (of : A → Kinds → Kinds) (following : (a : A) (rest : Kinds) → AreHeld (of a rest) → AreHeld rest) where
  after_each : (all : List A) (rest : Kinds) → AreHeld (each_after_comma of all rest) → AreHeld rest
  after_each [] rest h = h
  after_each (a ∷ all) rest h = after_each all rest (following a _ h.1)

  after_list : (all : List A) (rest : Kinds) → AreHeld (with_commas of all rest) → AreHeld rest
  after_list [] rest h = h
  after_list (a ∷ all) rest h = after_each all rest (following a _ h)

mutual
  after_spec : (s : Spec) (rest : Kinds) → AreHeld (spec_text s rest) → AreHeld rest
  after_spec Static rest h = h.1
  after_spec (Plain w) rest h = after_type_word w rest h
  after_spec (StructBody tag members) rest h = (after_members members _ (after_name tag _ h.1).1).1
  after_spec (EnumBody tag constants comma) rest h =
      (following_comma comma _ (after_list constant_text after_constant constants _ (after_name tag _ h.1).1)).1

  after_specs : (s : Specs) (rest : Kinds) → AreHeld (specs_text s rest) → AreHeld rest
  after_specs NoSpec rest h = h
  after_specs (MoreSpecs first others) rest h = after_specs others rest (after_spec first _ h)

  after_members : (ms : Members) (rest : Kinds) → AreHeld (members_text ms rest) → AreHeld rest
  after_members NoMember rest h = h
  after_members (MoreMembers s declarators others) rest h =
      after_members others rest (after_list declarator_text after_declarator declarators _ (after_specs s _ h)).1

after_parameter : (p : Parameter) (rest : Kinds) → AreHeld (parameter_text p rest) → AreHeld rest
after_parameter p rest h = after_brackets p.bounds rest (after_name p.name _ (after_pointers p.pointers _ (after_specs p.specs _ h)))

after_parameters : (ps : Parameters) (rest : Kinds) → AreHeld (parameters_text ps rest) → AreHeld rest
after_parameters NoParameter rest h = h
after_parameters VoidAlone rest h = h.1
after_parameters (ParameterList list) rest h = after_list parameter_text after_parameter list rest h

after_head : (d : RawFunction) (rest : Kinds) → AreHeld (head_text (head d) rest) → AreHeld rest
after_head d rest h = (after_parameters (parameters d.parameters) _ (after_pointers d.pointers.items _ h).1.1).1

-- ---- declared objects

first_value-held : (first : Option RawFirstValue) (rest : Kinds)
    → AreHeld (first_value_text (option_map (λ (v : RawFirstValue). initial v.initial) first) rest) → FirstValueHasConstants first × AreHeld rest
first_value-held None rest h = (tt, h)
first_value-held (Some value) rest h = initial_text-held (initial value.initial) rest h.1

declared-held : (d : RawInit) (rest : Kinds) → AreHeld (declared_text (declared d) rest) → FirstValueHasConstants d.initial × AreHeld rest
declared-held d rest h = first_value-held d.initial rest (after_declarator (declarator d.declarator) _ h)

further_objects-held : (ds : List RawInit) (rest : Kinds) → AreHeld (each_after_comma declared_text (map declared ds) rest)
    → ObjectsHaveConstants ds × AreHeld rest
further_objects-held [] rest h = (tt, h)
further_objects-held (d ∷ ds) rest h = let one = declared-held d _ h.1 in let more = further_objects-held ds rest one.1 in ((one.0, more.0), more.1)

objects-held : (ds : List RawInit) (rest : Kinds) → AreHeld (with_commas declared_text (map declared ds) rest) → ObjectsHaveConstants ds × AreHeld rest
objects-held [] rest h = (tt, h)
objects-held (d ∷ ds) rest h = let one = declared-held d _ h in let more = further_objects-held ds rest one.1 in ((one.0, more.0), more.1)

declaration-held : (s : Specs) (ds : List RawInit) (rest : Kinds) → AreHeld (declaration_text s (map declared ds) rest)
    → ObjectsHaveConstants ds × AreHeld rest
declaration-held s ds rest h = let all = objects-held ds _ (after_specs s _ h) in (all.0, all.1.1)

-- ---- statements

any-held : (e : Option RawExpr) (rest : Kinds) → AreHeld (some_text (option_map written e) rest) → AnyHasConstants e × AreHeld rest
any-held None rest h = (tt, h)
any-held (Some e) rest h = text-held (written e) rest h

test-held : (e : RawExpr) (rest : Kinds) → AreHeld (test_text (written e) rest) → HasConstants (written e) × AreHeld rest
test-held e rest h = let one = text-held (written e) _ h.1 in (one.0, one.1.1)

first-held : (first : RawFirst) (rest : Kinds) → AreHeld (first_text (first_of first) rest) → FirstHasConstants first × AreHeld rest
first-held first_part.Empty rest h = (tt, h.1)
first-held (first_part.Run e) rest h = let one = text-held (written e) _ h in (one.0, one.1.1)
first-held (first_part.Declare s objects) rest h = declaration-held (specs s) objects.items rest h

mutual
  sentence-held : (k : RawStmtKind) (rest : Kinds) → AreHeld (sentence_text (sentence k) rest) → StatementHasConstants k × AreHeld rest
  sentence-held (kind.Block' shape row) rest h = let all = row-held row _ h.1 in (all.0, all.1.1)
  sentence-held kind.Empty rest h = (tt, h.1)
  sentence-held (kind.Run e) rest h = let one = text-held (written e) _ h in (one.0, one.1.1)
  sentence-held (kind.If' test place p body) rest h =
      let one = test-held test _ h.1 in let then = sentence-held body rest one.1 in ((one.0, then.0), then.1)
  sentence-held (kind.IfElse' test place p body place' q other) rest h =
      let one = test-held test _ h.1 in
      let then = sentence-held body _ one.1 in
      let else' = sentence-held other rest then.1.1 in
      ((one.0, then.0, else'.0), else'.1)
  sentence-held (kind.While' test place p body) rest h =
      let one = test-held test _ h.1 in let turn = sentence-held body rest one.1 in ((one.0, turn.0), turn.1)
  sentence-held (kind.Do' place p body test) rest h =
      let turn = sentence-held body _ h.1 in let one = test-held test _ turn.1.1 in ((turn.0, one.0), one.1.1)
  sentence-held (kind.For' first test last place p body) rest h =
      let begun = first-held first _ h.1.1 in
      let one = any-held test _ begun.1 in
      let step = any-held last _ one.1.1 in
      let turn = sentence-held body rest step.1.1 in
      ((begun.0, one.0, step.0, turn.0), turn.1)
  sentence-held (kind.Switch' value shape row) rest h =
      let one = test-held value _ h.1 in let all = switch-held row _ one.1.1 in ((one.0, all.0), all.1.1)
  sentence-held (kind.Goto label) rest h = (tt, h.1.1.1)
  sentence-held kind.Continue rest h = (tt, h.1.1)
  sentence-held kind.Break rest h = (tt, h.1.1)
  sentence-held (kind.Return value) rest h = let one = any-held value _ h.1 in (one.0, one.1.1)
  sentence-held (kind.Label' name place p body) rest h = sentence-held body rest h.1.1

  item-held : (i : RawItem) (rest : Kinds) → AreHeld (item_text (item i) rest) → ItemHasConstants i × AreHeld rest
  item-held (items.TheVariants.Declare s objects) rest h = declaration-held (specs s) objects.items rest h
  item-held (items.TheVariants.Run' place p body) rest h = sentence-held body rest h

  row-held : {n : _} (row : kinds.Row_of-RawItem n) (rest : Kinds) → AreHeld (items_text (items_row row) rest) → RowHasConstants row × AreHeld rest
  row-held kinds.end_of-RawItem rest h = (tt, h)
  row-held (kinds.more_of-RawItem first others) rest h = let one = item-held first _ h in let more = row-held others rest one.1 in ((one.0, more.0), more.1)

  switch_item-held : (i : switches.RawSwitchItem) (rest : Kinds) → AreHeld (switch_item_text (switch_item i) rest)
      → SwitchItemHasConstants i × AreHeld rest
  switch_item-held (switches.TheVariants.Case at value) rest h = let one = text-held (written value) _ h.1 in (one.0, one.1.1)
  switch_item-held (switches.TheVariants.Default at) rest h = (tt, h.1.1)
  switch_item-held (switches.TheVariants.Item i) rest h = item-held i rest h

  switch-held : {n : _} (row : kinds.Row_of-RawSwitchItem n) (rest : Kinds) → AreHeld (switch_text (switch_row row) rest)
      → SwitchHasConstants row × AreHeld rest
  switch-held kinds.end_of-RawSwitchItem rest h = (tt, h)
  switch-held (kinds.more_of-RawSwitchItem first others) rest h =
      let one = switch_item-held first _ h in let more = switch-held others rest one.1 in ((one.0, more.0), more.1)

-- ---- files

items-held : (list : List RawItem) (rest : Kinds) → AreHeld (items_text (items_list list) rest) → ItemsHaveConstants list × AreHeld rest
items-held [] rest h = (tt, h)
items-held (first ∷ others) rest h = let one = item-held first _ h in let more = items-held others rest one.1 in ((one.0, more.0), more.1)

external-held : (k : RawExternalKind) (rest : Kinds) → AreHeld (external_text (external_of k) rest) → ExternalHasConstants k × AreHeld rest
external-held (external_kind.Type s) rest h = (tt, (after_specs (specs s) _ h).1)
external-held (external_kind.Typedef s names) rest h =
    (tt, (after_list declarator_text after_declarator (map declarator names.items) _ (after_specs (specs s) _ h.1)).1)
external-held (external_kind.Objects s objects) rest h = declaration-held (specs s) objects.items rest h
external-held (external_kind.Function s d) rest h = (tt, (after_head d _ (after_specs (specs s) _ h)).1)
external-held (external_kind.Definition s d body) rest h =
    let all = items-held body.items.items _ (after_head d _ (after_specs (specs s) _ h)).1 in (all.0, all.1.1)

externals-held : (file : List RawExternal) (rest : Kinds) → AreHeld (externals_text (map external file) rest) → FileHasConstants file × AreHeld rest
externals-held [] rest h = (tt, h)
externals-held (e ∷ es) rest h = let one = external-held e.kind _ h in let more = externals-held es rest one.1 in ((one.0, more.0), more.1)

-- if no token of a file has a constant that is too wide, its tree has none
pub file_text-held : (file : List RawExternal) → All IsHeldToken (file_text (map external file)) → FileHasConstants file
file_text-held file h = (externals-held file [] (recursion_from_All IsHeldToken (file_text (map external file)) h)).0

-- Texts of declarations, statements and files, and what follows them: for the contracts of every parser of them.
use Rattle.std.proofs.Common.{◌≡◌, ℕ, Bool, true, false, List, [], ◌∷◌, ◌++◌, Option, Some, None, refl, ap, ◌∙◌}
use Rattle.cs_ast.specs.declared.token.TokenKind.TheVariants as token
use Rattle.cs_ast.specs.declared.token.Keyword.TheVariants as keyword
use Rattle.cs_ast.specs.declared.token.Punctuator.TheVariants as punctuator
use Rattle.cs_ast.specs.RawTree.{Written}
use Rattle.cs_ast.specs.RawDeclarations.{Declarator, Constant, Spec, Static, Plain, StructBody, EnumBody, Specs, NoSpec, MoreSpecs, Members, NoMember}
use Rattle.cs_ast.specs.RawDeclarations.{MoreMembers, Initial, Single, Listed, Initials, NoItem as NoInitial, MoreItems as MoreInitials, Declared, Parameter}
use Rattle.cs_ast.specs.RawDeclarations.{Parameters, NoParameter, VoidAlone, ParameterList, Head}
use Rattle.cs_ast.specs.RawStatements.{First, NoFirst, FirstRuns, FirstDeclares, Sentence, Block, Nothing, Runs, If, IfElse, While, Do, For, Switch, Goto}
use Rattle.cs_ast.specs.RawStatements.{Continue, Break, Return, Label, Item, Declares, Does, Items, NoItem, MoreItems, SwitchItem, Case, Default, Inside}
use Rattle.cs_ast.specs.RawStatements.{SwitchItems, NoSwitchItem, MoreSwitchItems, External, TypeAlone, Typedef, Objects, Function, Definition}
use Rattle.cs_grammar.specs.Text.{Kinds, pointers_text}
use Rattle.cs_grammar.specs.FileText.{punctuator_text, word_text, name_text, some_text, comma_text, each_after_comma, with_commas, brackets_text}
use Rattle.cs_grammar.specs.FileText.{declarator_text, value_text, constant_text, spec_text, specs_text, members_text, initial_text, initials_text}
use Rattle.cs_grammar.specs.FileText.{further_initials_text, first_value_text, declared_text, declaration_text, parameter_text, parameters_text, head_text}
use Rattle.cs_grammar.specs.FileText.{first_text, test_text, sentence_text, item_text, items_text, switch_item_text, switch_text, external_text, externals_text}
use Rattle.cs_grammar.specs.FileClasses.{branch_text}
use Rattle.cs_grammar.proofs.Texts.{text_append, word_append, pointers_append}

pub name_append : (name : Option (List ℕ)) (x y : Kinds) → name_text name x ++ y ≡ name_text name (x ++ y)
name_append None x y = refl
name_append (Some name) x y = refl

pub optional_append : (e : Option Written) (x y : Kinds) → some_text e x ++ y ≡ some_text e (x ++ y)
optional_append None x y = refl
optional_append (Some e) x y = text_append e x y

pub comma_append : (comma : Bool) (x y : Kinds) → comma_text comma x ++ y ≡ comma_text comma (x ++ y)
comma_append false x y = refl
comma_append true x y = refl

pub each_append : {A : Type 0} (of : A → Kinds → Kinds) → ((a : A) (x y : Kinds) → of a x ++ y ≡ of a (x ++ y))
    → (all : List A) (x y : Kinds) → each_after_comma of all x ++ y ≡ each_after_comma of all (x ++ y)
each_append of law [] x y = refl
each_append of law (a ∷ all) x y = ap (punctuator_text punctuator.Comma) (law a (each_after_comma of all x) y ∙ ap (of a) (each_append of law all x y))

pub with_commas_append : {A : Type 0} (of : A → Kinds → Kinds) → ((a : A) (x y : Kinds) → of a x ++ y ≡ of a (x ++ y))
    → (all : List A) (x y : Kinds) → with_commas of all x ++ y ≡ with_commas of all (x ++ y)
with_commas_append of law [] x y = refl
with_commas_append of law (a ∷ all) x y = law a (each_after_comma of all x) y ∙ ap (of a) (each_append of law all x y)

pub brackets_append : (bounds : List (Option Written)) (x y : Kinds) → brackets_text bounds x ++ y ≡ brackets_text bounds (x ++ y)
brackets_append [] x y = refl
brackets_append (b ∷ bounds) x y =
    ap (punctuator_text punctuator.OpenBracket) (optional_append b (punctuator_text punctuator.CloseBracket (brackets_text bounds x)) y
    ∙ ap (λ (r : Kinds). some_text b (punctuator_text punctuator.CloseBracket r)) (brackets_append bounds x y))

pub declarator_append : (d : Declarator) (x y : Kinds) → declarator_text d x ++ y ≡ declarator_text d (x ++ y)
declarator_append d x y =
    pointers_append d.pointers (token.Name d.name ∷ brackets_text d.bounds x) y
    ∙ ap (λ (r : Kinds). pointers_text d.pointers (token.Name d.name ∷ r)) (brackets_append d.bounds x y)

pub value_append : (e : Option Written) (x y : Kinds) → value_text e x ++ y ≡ value_text e (x ++ y)
value_append None x y = refl
value_append (Some e) x y = ap (punctuator_text punctuator.Equal) (text_append e x y)

pub constant_append : (c : Constant) (x y : Kinds) → constant_text c x ++ y ≡ constant_text c (x ++ y)
constant_append c x y = ap (λ (r : Kinds). token.Name c.name ∷ r) (value_append c.value x y)

mutual
  pub spec_append : (s : Spec) (x y : Kinds) → spec_text s x ++ y ≡ spec_text s (x ++ y)
  spec_append Static x y = refl
  spec_append (Plain w) x y = word_append w x y
  spec_append (StructBody tag members) x y =
      ap (word_text keyword.Struct)
      (name_append tag (punctuator_text punctuator.OpenBrace (members_text members (punctuator_text punctuator.CloseBrace x))) y
      ∙ ap (λ (r : Kinds). name_text tag (punctuator_text punctuator.OpenBrace r)) (members_append members (punctuator_text punctuator.CloseBrace x) y))
  spec_append (EnumBody tag constants comma) x y =
      ap (word_text keyword.Enum)
      (name_append tag (punctuator_text punctuator.OpenBrace (with_commas constant_text constants (comma_text comma (punctuator_text punctuator.CloseBrace x))))
      y
      ∙ ap (λ (r : Kinds). name_text tag (punctuator_text punctuator.OpenBrace r))
      (with_commas_append constant_text constant_append constants (comma_text comma (punctuator_text punctuator.CloseBrace x)) y
      ∙ ap (with_commas constant_text constants) (comma_append comma (punctuator_text punctuator.CloseBrace x) y)))

  pub specs_append : (s : Specs) (x y : Kinds) → specs_text s x ++ y ≡ specs_text s (x ++ y)
  specs_append NoSpec x y = refl
  specs_append (MoreSpecs first others) x y = spec_append first (specs_text others x) y ∙ ap (spec_text first) (specs_append others x y)

  pub members_append : (m : Members) (x y : Kinds) → members_text m x ++ y ≡ members_text m (x ++ y)
  members_append NoMember x y = refl
  members_append (MoreMembers specs declarators others) x y =
      specs_append specs (with_commas declarator_text declarators (punctuator_text punctuator.Semicolon (members_text others x))) y
      ∙ ap (specs_text specs)
      (with_commas_append declarator_text declarator_append declarators (punctuator_text punctuator.Semicolon (members_text others x)) y
      ∙ ap (λ (r : Kinds). with_commas declarator_text declarators (punctuator_text punctuator.Semicolon r)) (members_append others x y))

mutual
  pub initial_append : (i : Initial) (x y : Kinds) → initial_text i x ++ y ≡ initial_text i (x ++ y)
  initial_append (Single e) x y = text_append e x y
  initial_append (Listed items comma) x y =
      ap (punctuator_text punctuator.OpenBrace)
      (initials_append items (comma_text comma (punctuator_text punctuator.CloseBrace x)) y
      ∙ ap (initials_text items) (comma_append comma (punctuator_text punctuator.CloseBrace x) y))

  pub initials_append : (i : Initials) (x y : Kinds) → initials_text i x ++ y ≡ initials_text i (x ++ y)
  initials_append NoInitial x y = refl
  initials_append (MoreInitials first others) x y = initial_append first (further_initials_text others x) y
      ∙ ap (initial_text first) (further_initials_append others x y)

  pub further_initials_append : (i : Initials) (x y : Kinds) → further_initials_text i x ++ y ≡ further_initials_text i (x ++ y)
  further_initials_append NoInitial x y = refl
  further_initials_append (MoreInitials first others) x y =
      ap (punctuator_text punctuator.Comma) (initial_append first (further_initials_text others x) y
      ∙ ap (initial_text first) (further_initials_append others x y))

pub first_value_append : (i : Option Initial) (x y : Kinds) → first_value_text i x ++ y ≡ first_value_text i (x ++ y)
first_value_append None x y = refl
first_value_append (Some i) x y = ap (punctuator_text punctuator.Equal) (initial_append i x y)

pub declared_append : (d : Declared) (x y : Kinds) → declared_text d x ++ y ≡ declared_text d (x ++ y)
declared_append d x y = declarator_append d.declarator (first_value_text d.initial x) y ∙ ap (declarator_text d.declarator) (first_value_append d.initial x y)

pub declaration_append : (specs : Specs) (objects : List Declared) (x y : Kinds)
    → declaration_text specs objects x ++ y ≡ declaration_text specs objects (x ++ y)
declaration_append specs objects x y =
    specs_append specs (with_commas declared_text objects (punctuator_text punctuator.Semicolon x)) y
    ∙ ap (specs_text specs) (with_commas_append declared_text declared_append objects (punctuator_text punctuator.Semicolon x) y)

pub parameter_append : (p : Parameter) (x y : Kinds) → parameter_text p x ++ y ≡ parameter_text p (x ++ y)
parameter_append p x y =
    specs_append p.specs (pointers_text p.pointers (name_text p.name (brackets_text p.bounds x))) y
    ∙ ap (specs_text p.specs)
    (pointers_append p.pointers (name_text p.name (brackets_text p.bounds x)) y
    ∙ ap (pointers_text p.pointers) (name_append p.name (brackets_text p.bounds x) y ∙ ap (name_text p.name) (brackets_append p.bounds x y)))

pub parameters_append : (p : Parameters) (x y : Kinds) → parameters_text p x ++ y ≡ parameters_text p (x ++ y)
parameters_append NoParameter x y = refl
parameters_append VoidAlone x y = refl
parameters_append (ParameterList list) x y = with_commas_append parameter_text parameter_append list x y

pub head_append : (h : Head) (x y : Kinds) → head_text h x ++ y ≡ head_text h (x ++ y)
head_append h x y =
    pointers_append h.pointers (token.Name h.name ∷ punctuator_text punctuator.OpenParenthesis
    (parameters_text h.parameters (punctuator_text punctuator.CloseParenthesis x))) y
    ∙ ap (λ (r : Kinds). pointers_text h.pointers (token.Name h.name ∷ punctuator_text punctuator.OpenParenthesis r))
    (parameters_append h.parameters (punctuator_text punctuator.CloseParenthesis x) y)

pub first_append : (f : First) (x y : Kinds) → first_text f x ++ y ≡ first_text f (x ++ y)
first_append NoFirst x y = refl
first_append (FirstRuns e) x y = text_append e (punctuator_text punctuator.Semicolon x) y
first_append (FirstDeclares specs objects) x y = declaration_append specs objects x y

pub test_append : (e : Written) (x y : Kinds) → test_text e x ++ y ≡ test_text e (x ++ y)
test_append e x y = ap (punctuator_text punctuator.OpenParenthesis) (text_append e (punctuator_text punctuator.CloseParenthesis x) y)

mutual
  pub sentence_append : (s : Sentence) (x y : Kinds) → sentence_text s x ++ y ≡ sentence_text s (x ++ y)
  sentence_append (Block items) x y = ap (punctuator_text punctuator.OpenBrace) (items_append items (punctuator_text punctuator.CloseBrace x) y)
  sentence_append Nothing x y = refl
  sentence_append (Runs e) x y = text_append e (punctuator_text punctuator.Semicolon x) y
  sentence_append (If test body) x y = ap (word_text keyword.If) (test_append test (sentence_text body x) y ∙ ap (test_text test) (sentence_append body x y))
  sentence_append (IfElse test body other) x y =
      ap (word_text keyword.If)
      (test_append test (sentence_text body (word_text keyword.Else (sentence_text other x))) y
      ∙ ap (test_text test) (sentence_append body (word_text keyword.Else (sentence_text other x)) y
      ∙ ap (λ (r : Kinds). sentence_text body (word_text keyword.Else r)) (sentence_append other x y)))
  sentence_append (While test body) x y =
      ap (word_text keyword.While) (test_append test (sentence_text body x) y ∙ ap (test_text test) (sentence_append body x y))
  sentence_append (Do body test) x y =
      ap (word_text keyword.Do)
      (sentence_append body (word_text keyword.While (test_text test (punctuator_text punctuator.Semicolon x))) y
      ∙ ap (λ (r : Kinds). sentence_text body (word_text keyword.While r)) (test_append test (punctuator_text punctuator.Semicolon x) y))
  sentence_append (For first test last body) x y =
      ap (λ (r : Kinds). word_text keyword.For (punctuator_text punctuator.OpenParenthesis r))
      (first_append first
      (some_text test (punctuator_text punctuator.Semicolon (some_text last (punctuator_text punctuator.CloseParenthesis (sentence_text body x))))) y
      ∙ ap (first_text first)
      (optional_append test (punctuator_text punctuator.Semicolon (some_text last (punctuator_text punctuator.CloseParenthesis (sentence_text body x)))) y
      ∙ ap (λ (r : Kinds). some_text test (punctuator_text punctuator.Semicolon r))
      (optional_append last (punctuator_text punctuator.CloseParenthesis (sentence_text body x)) y
      ∙ ap (λ (r : Kinds). some_text last (punctuator_text punctuator.CloseParenthesis r)) (sentence_append body x y))))
  sentence_append (Switch value items) x y =
      ap (word_text keyword.Switch)
      (test_append value (punctuator_text punctuator.OpenBrace (switch_text items (punctuator_text punctuator.CloseBrace x))) y
      ∙ ap (λ (r : Kinds). test_text value (punctuator_text punctuator.OpenBrace r)) (switch_append items (punctuator_text punctuator.CloseBrace x) y))
  sentence_append (Goto label) x y = refl
  sentence_append Continue x y = refl
  sentence_append Break x y = refl
  sentence_append (Return value) x y = ap (word_text keyword.Return) (optional_append value (punctuator_text punctuator.Semicolon x) y)
  sentence_append (Label name body) x y = ap (λ (r : Kinds). token.Name name ∷ punctuator_text punctuator.Colon r) (sentence_append body x y)

  pub item_append : (i : Item) (x y : Kinds) → item_text i x ++ y ≡ item_text i (x ++ y)
  item_append (Declares specs objects) x y = declaration_append specs objects x y
  item_append (Does statement) x y = sentence_append statement x y

  pub items_append : (i : Items) (x y : Kinds) → items_text i x ++ y ≡ items_text i (x ++ y)
  items_append NoItem x y = refl
  items_append (MoreItems first others) x y = item_append first (items_text others x) y ∙ ap (item_text first) (items_append others x y)

  pub switch_item_append : (i : SwitchItem) (x y : Kinds) → switch_item_text i x ++ y ≡ switch_item_text i (x ++ y)
  switch_item_append (Case value) x y = ap (word_text keyword.Case) (text_append value (punctuator_text punctuator.Colon x) y)
  switch_item_append Default x y = refl
  switch_item_append (Inside item) x y = item_append item x y

  pub switch_append : (i : SwitchItems) (x y : Kinds) → switch_text i x ++ y ≡ switch_text i (x ++ y)
  switch_append NoSwitchItem x y = refl
  switch_append (MoreSwitchItems first others) x y = switch_item_append first (switch_text others x) y
      ∙ ap (switch_item_text first) (switch_append others x y)

pub branch_append : (body : Sentence) (other : Option Sentence) (x y : Kinds) → branch_text body other x ++ y ≡ branch_text body other (x ++ y)
branch_append body None x y = sentence_append body x y
branch_append body (Some other) x y =
    sentence_append body (word_text keyword.Else (sentence_text other x)) y
    ∙ ap (λ (r : Kinds). sentence_text body (word_text keyword.Else r)) (sentence_append other x y)

pub external_append : (e : External) (x y : Kinds) → external_text e x ++ y ≡ external_text e (x ++ y)
external_append (TypeAlone specs) x y = specs_append specs (punctuator_text punctuator.Semicolon x) y
external_append (Typedef specs names) x y =
    ap (word_text keyword.Typedef)
    (specs_append specs (with_commas declarator_text names (punctuator_text punctuator.Semicolon x)) y
    ∙ ap (specs_text specs) (with_commas_append declarator_text declarator_append names (punctuator_text punctuator.Semicolon x) y))
external_append (Objects specs objects) x y = declaration_append specs objects x y
external_append (Function specs head) x y =
    specs_append specs (head_text head (punctuator_text punctuator.Semicolon x)) y
    ∙ ap (specs_text specs) (head_append head (punctuator_text punctuator.Semicolon x) y)
external_append (Definition specs head body) x y =
    specs_append specs (head_text head (punctuator_text punctuator.OpenBrace (items_text body (punctuator_text punctuator.CloseBrace x)))) y
    ∙ ap (specs_text specs)
    (head_append head (punctuator_text punctuator.OpenBrace (items_text body (punctuator_text punctuator.CloseBrace x))) y
    ∙ ap (λ (r : Kinds). head_text head (punctuator_text punctuator.OpenBrace r)) (items_append body (punctuator_text punctuator.CloseBrace x) y))

pub externals_append : (e : List External) (x y : Kinds) → externals_text e x ++ y ≡ externals_text e (x ++ y)
externals_append [] x y = refl
externals_append (first ∷ others) x y = external_append first (externals_text others x) y ∙ ap (external_text first) (externals_append others x y)

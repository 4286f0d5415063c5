-- The tokens of statements and files with their roles: where a brace opens an initializer list. For the contract of
-- `awaits_list`.
use Rattle.std.proofs.Common.{◌≡◌, ℕ, Bool, true, false, List, [], ◌∷◌, ◌++◌, Option, Some, None, length, slice_get, refl, sym, ap, ◌∙◌}
use Rattle.std.proofs.Common.{subst, append_assoc}
use Rattle.std.proofs.lemmas.Bool.{false≢true}
use Rattle.cs_ast.specs.declared.token.TokenKind.{TokenKind}
use Rattle.cs_ast.specs.declared.token.TokenKind.TheVariants as token
use Rattle.cs_ast.specs.declared.token.Keyword.{Keyword}
use Rattle.cs_ast.specs.declared.token.Keyword.TheVariants as keyword
use Rattle.cs_ast.specs.declared.token.Punctuator.{Punctuator}
use Rattle.cs_ast.specs.declared.token.Punctuator.TheVariants as punctuator
use Rattle.cs_ast.specs.RawTree.{Written}
use Rattle.cs_ast.specs.RawDeclarations.{Specs, Declared, Parameters, NoParameter, VoidAlone, ParameterList, Head}
use Rattle.cs_ast.specs.RawStatements.{First, NoFirst, FirstRuns, FirstDeclares, Sentence, Block, Nothing, Runs, If, IfElse, While, Do, For, Switch, Goto}
use Rattle.cs_ast.specs.RawStatements.{Continue, Break, Return, Label, Item, Declares, Does, Items, NoItem, MoreItems, SwitchItem, Case, Default, Inside}
use Rattle.cs_ast.specs.RawStatements.{SwitchItems, NoSwitchItem, MoreSwitchItems, External, TypeAlone, Typedef, Objects, Function, Definition}
use Rattle.cs_grammar.specs.Text.{Kinds, pointers_text}
use Rattle.cs_grammar.specs.FileText.{name_text, some_text, with_commas, brackets_text, declarator_text, declared_text, declaration_text, parameter_text}
use Rattle.cs_grammar.specs.FileText.{parameters_text, head_text, first_text, test_text, sentence_text, item_text, items_text, switch_item_text, switch_text}
use Rattle.cs_grammar.specs.FileText.{external_text, file_text}
use Rattle.cs_grammar.specs.FilePhrases.{BeginsFile}
use Rattle.cs_grammar.specs.Roles.{Role, another, declared_name, opens_list, Roles, each, some_roles, between, brackets_roles, declarator_roles, declared_roles}
use Rattle.cs_grammar.specs.Roles.{declaration_roles, name_roles, parameter_roles, parameters_roles, head_roles, first_roles, test_roles, sentence_roles}
use Rattle.cs_grammar.specs.Roles.{item_roles, items_roles, switch_item_roles, switch_roles, external_roles, file_roles}
use Rattle.cs_grammar.specs.FileRefusals.{MayHave}
use Rattle.cs_unsupported.specs.Awaiting.{step, run}
use Rattle.cs_unsupported.proofs.ListTraces.{is_list, opens, Trace, Calm, Quiet, Calms, pointers_calm, expression_calm, some_calm, list_calm, brackets_calm}
use Rattle.cs_unsupported.proofs.ListTraces.{declarator_calm, specs_calm, declared_calm}

abbrev word : Keyword → Kinds → Kinds
word k x = token.Keyword k ∷ x

abbrev set : Punctuator → Kinds → Kinds
set m x = token.Punctuator m ∷ x

-- objects and their semicolon
objects_calm : (objects : List Declared) (ts : Kinds) (rs : Roles) → Quiet ts rs
    → Calm (with_commas declared_text objects (set punctuator.Semicolon ts)) (between another declared_roles objects (another ∷ rs))
objects_calm objects ts rs h =
    list_calm another refl declared_text declared_roles declared_calm objects (set punctuator.Semicolon ts) (another ∷ rs) (λ b. (refl, h))

declaration_calm : (specs : Specs) (objects : List Declared) (ts : Kinds) (rs : Roles) → Quiet ts rs
    → Calm (declaration_text specs objects ts) (declaration_roles specs objects rs)
declaration_calm specs objects ts rs h =
    specs_calm specs (with_commas declared_text objects (set punctuator.Semicolon ts)) (between another declared_roles objects (another ∷ rs))
    (objects_calm objects ts rs h)

first_calm : (f : First) (ts : Kinds) (rs : Roles) → Quiet ts rs → Calm (first_text f ts) (first_roles f rs)
first_calm NoFirst ts rs h = λ b. (refl, h)
first_calm (FirstRuns e) ts rs h = expression_calm e (set punctuator.Semicolon ts) (another ∷ rs) (refl, h)
first_calm (FirstDeclares specs objects) ts rs h = declaration_calm specs objects ts rs h

-- an expression between parentheses
test_quiet : (e : Written) (ts : Kinds) (rs : Roles) → Quiet ts rs → Quiet (test_text e ts) (test_roles e rs)
test_quiet e ts rs h = (refl, expression_calm e (set punctuator.CloseParenthesis ts) (another ∷ rs) (refl, h) false)

mutual
  sentence_quiet : (t : Sentence) (ts : Kinds) (rs : Roles) → Quiet ts rs → Quiet (sentence_text t ts) (sentence_roles t rs)
  sentence_quiet (Block items) ts rs h = (refl, items_quiet items (set punctuator.CloseBrace ts) (another ∷ rs) (refl, h))
  sentence_quiet Nothing ts rs h = (refl, h)
  sentence_quiet (Runs e) ts rs h = expression_calm e (set punctuator.Semicolon ts) (another ∷ rs) (refl, h) false
  sentence_quiet (If test body) ts rs h = (refl, test_quiet test (sentence_text body ts) (sentence_roles body rs) (sentence_quiet body ts rs h))
  sentence_quiet (IfElse test body other) ts rs h = (
    refl,
    test_quiet test (sentence_text body (word keyword.Else (sentence_text other ts))) (sentence_roles body (another ∷ sentence_roles other rs))
        (sentence_quiet body (word keyword.Else (sentence_text other ts)) (another ∷ sentence_roles other rs) (refl, sentence_quiet other ts rs h)),
  )
  sentence_quiet (While test body) ts rs h = (refl, test_quiet test (sentence_text body ts) (sentence_roles body rs) (sentence_quiet body ts rs h))
  sentence_quiet (Do body test) ts rs h = (
    refl,
    sentence_quiet body (word keyword.While (test_text test (set punctuator.Semicolon ts))) (another ∷ test_roles test (another ∷ rs))
        (refl, test_quiet test (set punctuator.Semicolon ts) (another ∷ rs) (refl, h)),
  )
  sentence_quiet (For first test last body) ts rs h = (
    refl,
    (
      refl,
      first_calm first (some_text test (set punctuator.Semicolon (some_text last (set punctuator.CloseParenthesis (sentence_text body ts)))))
          (some_roles test (another ∷ some_roles last (another ∷ sentence_roles body rs)))
          (some_calm test (set punctuator.Semicolon (some_text last (set punctuator.CloseParenthesis (sentence_text body ts))))
          (another ∷ some_roles last (another ∷ sentence_roles body rs))
          (λ b. (
            refl,
            some_calm last (set punctuator.CloseParenthesis (sentence_text body ts)) (another ∷ sentence_roles body rs)
                (λ c. (refl, sentence_quiet body ts rs h)) false,
          )) false) false,
    ),
  )
  sentence_quiet (Switch value items) ts rs h = (
    refl,
    test_quiet value (set punctuator.OpenBrace (switch_text items (set punctuator.CloseBrace ts))) (another ∷ switch_roles items (another ∷ rs))
        (refl, switch_quiet items (set punctuator.CloseBrace ts) (another ∷ rs) (refl, h)),
  )
  sentence_quiet (Goto label) ts rs h = (refl, (refl, (refl, h)))
  sentence_quiet Continue ts rs h = (refl, (refl, h))
  sentence_quiet Break ts rs h = (refl, (refl, h))
  sentence_quiet (Return value) ts rs h = (refl, some_calm value (set punctuator.Semicolon ts) (another ∷ rs) (λ b. (refl, h)) false)
  sentence_quiet (Label name body) ts rs h = (refl, (refl, sentence_quiet body ts rs h))

  item_quiet : (i : Item) (ts : Kinds) (rs : Roles) → Quiet ts rs → Quiet (item_text i ts) (item_roles i rs)
  item_quiet (Declares specs objects) ts rs h = declaration_calm specs objects ts rs h false
  item_quiet (Does statement) ts rs h = sentence_quiet statement ts rs h

  items_quiet : (i : Items) (ts : Kinds) (rs : Roles) → Quiet ts rs → Quiet (items_text i ts) (items_roles i rs)
  items_quiet NoItem ts rs h = h
  items_quiet (MoreItems first others) ts rs h = item_quiet first (items_text others ts) (items_roles others rs) (items_quiet others ts rs h)

  switch_item_quiet : (i : SwitchItem) (ts : Kinds) (rs : Roles) → Quiet ts rs → Quiet (switch_item_text i ts) (switch_item_roles i rs)
  switch_item_quiet (Case value) ts rs h = (refl, expression_calm value (set punctuator.Colon ts) (another ∷ rs) (refl, h) false)
  switch_item_quiet Default ts rs h = (refl, (refl, h))
  switch_item_quiet (Inside item) ts rs h = item_quiet item ts rs h

  switch_quiet : (i : SwitchItems) (ts : Kinds) (rs : Roles) → Quiet ts rs → Quiet (switch_text i ts) (switch_roles i rs)
  switch_quiet NoSwitchItem ts rs h = h
  switch_quiet (MoreSwitchItems first others) ts rs h = switch_item_quiet first (switch_text others ts) (switch_roles others rs) (switch_quiet others ts rs h)

name_calm : (name : Option (List ℕ)) (ts : Kinds) (rs : Roles) → Calm ts rs → Calm (name_text name ts) (name_roles name rs)
name_calm None ts rs h = h
name_calm (Some n) ts rs h = λ b. (refl, h false)

parameter_calm : Calms parameter_text parameter_roles
parameter_calm p ts rs h =
    specs_calm p.specs (pointers_text p.pointers (name_text p.name (brackets_text p.bounds ts)))
    (each another (pointers_text p.pointers []) (name_roles p.name (brackets_roles p.bounds rs)))
    (pointers_calm another refl p.pointers (name_text p.name (brackets_text p.bounds ts)) (name_roles p.name (brackets_roles p.bounds rs))
    (name_calm p.name (brackets_text p.bounds ts) (brackets_roles p.bounds rs) (brackets_calm p.bounds ts rs h)))

parameters_calm : (ps : Parameters) (ts : Kinds) (rs : Roles) → Calm ts rs → Calm (parameters_text ps ts) (parameters_roles ps rs)
parameters_calm NoParameter ts rs h = h
parameters_calm VoidAlone ts rs h = λ b. (refl, h false)
parameters_calm (ParameterList ps) ts rs h = list_calm another refl parameter_text parameter_roles parameter_calm ps ts rs h

head_calm : (head : Head) (ts : Kinds) (rs : Roles) → Quiet ts rs → Calm (head_text head ts) (head_roles head rs)
head_calm head ts rs h =
    pointers_calm another refl head.pointers
    (token.Name head.name ∷ set punctuator.OpenParenthesis (parameters_text head.parameters (set punctuator.CloseParenthesis ts)))
    (declared_name ∷ another ∷ parameters_roles head.parameters (another ∷ rs))
    (λ b. (refl, (refl, parameters_calm head.parameters (set punctuator.CloseParenthesis ts) (another ∷ rs) (λ c. (refl, h)) false)))

external_quiet : (e : External) (ts : Kinds) (rs : Roles) → Quiet ts rs → Quiet (external_text e ts) (external_roles e rs)
external_quiet (TypeAlone specs) ts rs h = specs_calm specs (set punctuator.Semicolon ts) (another ∷ rs) (λ b. (refl, h)) false
external_quiet (Typedef specs ds) ts rs h = (
  refl,
  specs_calm specs (with_commas declarator_text ds (set punctuator.Semicolon ts)) (between another declarator_roles ds (another ∷ rs))
      (list_calm another refl declarator_text declarator_roles declarator_calm ds (set punctuator.Semicolon ts) (another ∷ rs) (λ b. (refl, h))) false,
)
external_quiet (Objects specs objects) ts rs h = declaration_calm specs objects ts rs h false
external_quiet (Function specs head) ts rs h =
    specs_calm specs (head_text head (set punctuator.Semicolon ts)) (head_roles head (another ∷ rs))
    (head_calm head (set punctuator.Semicolon ts) (another ∷ rs) (refl, h)) false
external_quiet (Definition specs head body) ts rs h =
    specs_calm specs (head_text head (set punctuator.OpenBrace (items_text body (set punctuator.CloseBrace ts))))
    (head_roles head (another ∷ items_roles body (another ∷ rs)))
    (head_calm head (set punctuator.OpenBrace (items_text body (set punctuator.CloseBrace ts))) (another ∷ items_roles body (another ∷ rs))
    (refl, items_quiet body (set punctuator.CloseBrace ts) (another ∷ rs) (refl, h))) false

file_quiet : (f : List External) → Quiet (file_text f) (file_roles f)
file_quiet [] = tt
file_quiet (e ∷ es) = external_quiet e (file_text es) (file_roles es) (file_quiet es)

abbrev brace : TokenKind
brace = token.Punctuator punctuator.OpenBrace

-- the token opens a list
opening_brace : (next : TokenKind) (b : Bool) → opens next b ≡ true → (next ≡ brace) × (b ≡ true)
opening_brace (token.Punctuator punctuator.OpenBrace) b e = (refl, e)
opening_brace _ b e = absurd (false≢true e)

list_role : (r : Role) → is_list r ≡ true → r ≡ opens_list
list_role opens_list e = refl
list_role _ e = absurd (false≢true e)

-- the next token is a brace, and an initializer is expected there
found : (b : Bool) (front more : Kinds) (rs : Roles) → Trace b (front ++ more) rs → slice_get rs (length front) ≡ Some opens_list
    → (run front b ≡ true) × ((rest : Kinds) × (more ≡ brace ∷ rest))
found b [] [] [] t e = cc
found b [] [] (r ∷ rs) t e = absurd t
found b [] (k ∷ more) [] t e = absurd t
found b [] (k ∷ more) (r ∷ rs) t e =
    let z : Some r ≡ Some opens_list = e in
    let same : r ≡ opens_list = cc in
    let o = opening_brace k b (sym t.0 ∙ ap is_list same) in
    (o.1, (more, ap (λ (x : TokenKind). x ∷ more) o.0))
found b (k ∷ front) more [] t e = absurd t
found b (k ∷ front) more (r ∷ rs) t e = found (step k b) front more rs t.1 e

-- a brace where an initializer is expected opens a list
opened : (b : Bool) (front more : Kinds) (rs : Roles) → Trace b (front ++ brace ∷ more) rs → run front b ≡ true
    → slice_get rs (length front) ≡ Some opens_list
opened b [] more [] t e = absurd t
opened b [] more (r ∷ rs) t e = ap Some (list_role r (t.0 ∙ e))
opened b (k ∷ front) more [] t e = absurd t
opened b (k ∷ front) more (r ∷ rs) t e = opened (step k b) front more rs t.1 e

pub awaited : (front : Kinds) → MayHave front opens_list → (run front false ≡ true) × BeginsFile (front ++ brace ∷ [])
awaited front m =
    let f = found false front m.more (file_roles m.file) (subst (λ (x : Kinds). Trace false x (file_roles m.file)) m.spelled (file_quiet m.file)) m.there in
    let next = f.1 in (
      f.0,
      record {
        file = m.file;
        more = next.0;
        is_file = m.is_file;
        spelled = m.spelled ∙ ap (λ (x : Kinds). front ++ x) next.1 ∙ sym (append_assoc front (brace ∷ []) next.0);
      },
    )

pub may_open : (front : Kinds) → run front false ≡ true → BeginsFile (front ++ brace ∷ []) → MayHave front opens_list
may_open front e b =
    let spelled = b.spelled ∙ append_assoc front (brace ∷ []) b.more in
    record {
      file = b.file;
      more = brace ∷ b.more;
      is_file = b.is_file;
      spelled = spelled;
      there = opened false front b.more (file_roles b.file) (subst (λ (x : Kinds). Trace false x (file_roles b.file)) spelled (file_quiet b.file)) e;
    }

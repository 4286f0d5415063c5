-- The list of the roles of a file's tokens is as long as the list of its tokens.
use Rattle.std.proofs.Common.{◌≡◌, ℕ, Bool, true, false, List, [], ◌∷◌, ◌++◌, Option, Some, None, length, refl, ap, ◌∙◌, subst, arith}
use Rattle.cs_ast.specs.declared.token.TokenKind.{TokenKind}
use Rattle.cs_ast.specs.declared.token.TokenKind.TheVariants as token
use Rattle.cs_ast.specs.declared.token.Keyword.TheVariants as keyword
use Rattle.cs_ast.specs.declared.token.Punctuator.TheVariants as punctuator
use Rattle.cs_ast.specs.declared.raw.written_type.TypeWord.{TypeWord}
use Rattle.cs_ast.specs.declared.raw.written_type.PointerWord.{PointerWord}
use Rattle.cs_ast.specs.RawTree.{Written, WrittenList, Named, Numeral, Character, Literal, Enclosed, Index, Call, Member, Arrow, StepAfter, StepBefore, Prefix}
use Rattle.cs_ast.specs.RawTree.{SizeOf, SizeOfType, Cast, Infix, Choice, Assign, Comma, End, More}
use Rattle.cs_ast.specs.RawDeclarations.{Spec, Static, Plain, StructBody, EnumBody, Specs, NoSpec, MoreSpecs, Members, NoMember, MoreMembers, Initial, Single}
use Rattle.cs_ast.specs.RawDeclarations.{Listed, Initials, NoItem as NoInitial, MoreItems as MoreInitials, Declared, Parameters, NoParameter, VoidAlone}
use Rattle.cs_ast.specs.RawDeclarations.{ParameterList, Head}
use Rattle.cs_ast.specs.RawStatements.{First, NoFirst, FirstRuns, FirstDeclares, Sentence, Block, Nothing, Runs, If, IfElse, While, Do, For, Switch, Goto}
use Rattle.cs_ast.specs.RawStatements.{Continue, Break, Return, Label, Item, Declares, Does, Items, NoItem, MoreItems, SwitchItem, Case, Default, Inside}
use Rattle.cs_ast.specs.RawStatements.{SwitchItems, NoSwitchItem, MoreSwitchItems, External, TypeAlone, Typedef, Objects, Function, Definition}
use Rattle.cs_grammar.specs.Punctuators.{step_punctuator, infix_punctuator, assign_punctuator}
use Rattle.cs_grammar.specs.Text.{Kinds, text, listed, after_commas, bounds_text, words_text, pointers_text, type_word_text}
use Rattle.cs_grammar.specs.FileText.{punctuator_text, word_text, name_text, some_text, comma_text, each_after_comma, with_commas, brackets_text}
use Rattle.cs_grammar.specs.FileText.{declarator_text, value_text, constant_text, spec_text, specs_text, members_text, initial_text, initials_text}
use Rattle.cs_grammar.specs.FileText.{further_initials_text, first_value_text, declared_text, declaration_text, parameter_text, parameters_text, head_text}
use Rattle.cs_grammar.specs.FileText.{first_text, test_text, sentence_text, item_text, items_text, switch_item_text, switch_text, external_text, file_text}
use Rattle.cs_grammar.specs.Roles.{Role, closes_type, in_expression, another, after_member, declared_name, Roles, each, type_roles, roles, roles_listed}
use Rattle.cs_grammar.specs.Roles.{roles_after_commas, roles_of_bounds, some_roles, comma_roles, each_after, between, brackets_roles, declarator_roles}
use Rattle.cs_grammar.specs.Roles.{value_roles, constant_roles, spec_roles, specs_roles, members_roles, initial_roles, initials_roles, further_initials_roles}
use Rattle.cs_grammar.specs.Roles.{first_value_roles, declared_roles, declaration_roles, name_roles, parameter_roles, parameters_roles, head_roles, first_roles}
use Rattle.cs_grammar.specs.Roles.{test_roles, sentence_roles, item_roles, items_roles, switch_item_roles, switch_roles, external_roles, file_roles}
use Rattle.cs_grammar.proofs.Texts.{word_append, words_append, pointers_append}
use Rattle.cs_grammar.proofs.FileTexts.{name_append}

-- as many roles as tokens
abbrev Beside : Roles → Kinds → Type 0
Beside rs ts = length rs ≡ length ts

-- one more role and one more token
one : (r : Role) (t : TokenKind) (rs : Roles) (ts : Kinds) → Beside rs ts → Beside (r ∷ rs) (t ∷ ts)
one r t rs ts b = omega (arith, b)

each_beside : (r : Role) (tokens : Kinds) (rs : Roles) (ts : Kinds) → Beside rs ts → Beside (each r tokens rs) (tokens ++ ts)
each_beside r [] rs ts b = b
each_beside r (t ∷ tokens) rs ts b = let e = each_beside r tokens rs ts b in omega (arith, e)

type_beside : (ws : List TypeWord) (ps : List PointerWord) (rs : Roles) (ts : Kinds) → Beside rs ts
    → Beside (type_roles ws ps rs) (words_text ws (pointers_text ps ts))
type_beside ws ps rs ts b =
    subst (λ (x : Kinds). Beside (type_roles ws ps rs) x) (words_append ws (pointers_text ps []) ts ∙ ap (words_text ws) (pointers_append ps [] ts))
    (each_beside in_expression (words_text ws (pointers_text ps [])) rs ts b)

mutual
  expression_beside : (e : Written) (rs : Roles) (ts : Kinds) → Beside rs ts → Beside (roles e rs) (text e ts)
  expression_beside (Named n) rs ts b = omega (arith, b)
  expression_beside (Numeral n) rs ts b = omega (arith, b)
  expression_beside (Character v) rs ts b = omega (arith, b)
  expression_beside (Literal x) rs ts b = omega (arith, b)
  expression_beside (Enclosed i) rs ts b =
      let k = expression_beside i (in_expression ∷ rs) (token.Punctuator punctuator.CloseParenthesis ∷ ts)
      (one in_expression (token.Punctuator punctuator.CloseParenthesis) rs ts b) in omega (arith, k)
  expression_beside (Index a n) rs ts b =
      expression_beside a (in_expression ∷ roles n (in_expression ∷ rs))
      (token.Punctuator punctuator.OpenBracket ∷ text n (token.Punctuator punctuator.CloseBracket ∷ ts))
      (one in_expression (token.Punctuator punctuator.OpenBracket) (roles n (in_expression ∷ rs)) (text n (token.Punctuator punctuator.CloseBracket ∷ ts))
      (expression_beside n (in_expression ∷ rs) (token.Punctuator punctuator.CloseBracket ∷ ts)
      (one in_expression (token.Punctuator punctuator.CloseBracket) rs ts b)))
  expression_beside (Call f es) rs ts b =
      expression_beside f (in_expression ∷ roles_listed es (in_expression ∷ rs))
      (token.Punctuator punctuator.OpenParenthesis ∷ listed es (token.Punctuator punctuator.CloseParenthesis ∷ ts))
      (one in_expression (token.Punctuator punctuator.OpenParenthesis) (roles_listed es (in_expression ∷ rs))
      (listed es (token.Punctuator punctuator.CloseParenthesis ∷ ts))
      (listed_beside es (in_expression ∷ rs) (token.Punctuator punctuator.CloseParenthesis ∷ ts)
      (one in_expression (token.Punctuator punctuator.CloseParenthesis) rs ts b)))
  expression_beside (Member o n) rs ts b =
      expression_beside o (in_expression ∷ in_expression ∷ rs) (token.Punctuator punctuator.Dot ∷ token.Name n ∷ ts) (omega (arith, b))
  expression_beside (Arrow o n) rs ts b =
      expression_beside o (in_expression ∷ in_expression ∷ rs) (token.Punctuator punctuator.Arrow ∷ token.Name n ∷ ts) (omega (arith, b))
  expression_beside (StepAfter s o) rs ts b = expression_beside o (in_expression ∷ rs) (token.Punctuator (step_punctuator s) ∷ ts) (omega (arith, b))
  expression_beside (StepBefore s o) rs ts b = let k = expression_beside o rs ts b in omega (arith, k)
  expression_beside (Prefix op o) rs ts b = let k = expression_beside o rs ts b in omega (arith, k)
  expression_beside (SizeOf o) rs ts b = let k = expression_beside o rs ts b in omega (arith, k)
  expression_beside (SizeOfType ws ps bs) rs ts b =
      let k = type_beside ws ps (roles_of_bounds bs (closes_type ∷ rs)) (bounds_text bs (token.Punctuator punctuator.CloseParenthesis ∷ ts))
      (bounds_beside bs (closes_type ∷ rs) (token.Punctuator punctuator.CloseParenthesis ∷ ts) (omega (arith, b))) in
      omega (arith, k)
  expression_beside (Cast ws ps bs o) rs ts b =
      let i = expression_beside o rs ts b in
      let k = type_beside ws ps (roles_of_bounds bs (closes_type ∷ roles o rs)) (bounds_text bs (token.Punctuator punctuator.CloseParenthesis ∷ text o ts))
      (bounds_beside bs (closes_type ∷ roles o rs) (token.Punctuator punctuator.CloseParenthesis ∷ text o ts) (omega (arith, i))) in
      omega (arith, k)
  expression_beside (Infix op l r) rs ts b =
      let i = expression_beside r rs ts b in
      expression_beside l (in_expression ∷ roles r rs) (token.Punctuator (infix_punctuator op) ∷ text r ts) (omega (arith, i))
  expression_beside (Choice t o e) rs ts b =
      let i = expression_beside e rs ts b in
      let j = expression_beside o (in_expression ∷ roles e rs) (token.Punctuator punctuator.Colon ∷ text e ts) (omega (arith, i)) in
      expression_beside t (in_expression ∷ roles o (in_expression ∷ roles e rs))
      (token.Punctuator punctuator.Question ∷ text o (token.Punctuator punctuator.Colon ∷ text e ts)) (omega (arith, j))
  expression_beside (Assign op l r) rs ts b =
      let i = expression_beside r rs ts b in
      expression_beside l (in_expression ∷ roles r rs) (token.Punctuator (assign_punctuator op) ∷ text r ts) (omega (arith, i))
  expression_beside (Comma l r) rs ts b =
      let i = expression_beside r rs ts b in
      expression_beside l (in_expression ∷ roles r rs) (token.Punctuator punctuator.Comma ∷ text r ts) (omega (arith, i))

  listed_beside : (es : WrittenList) (rs : Roles) (ts : Kinds) → Beside rs ts → Beside (roles_listed es rs) (listed es ts)
  listed_beside End rs ts b = b
  listed_beside (More e es) rs ts b = expression_beside e (roles_after_commas es rs) (after_commas es ts) (commas_beside es rs ts b)

  commas_beside : (es : WrittenList) (rs : Roles) (ts : Kinds) → Beside rs ts → Beside (roles_after_commas es rs) (after_commas es ts)
  commas_beside End rs ts b = b
  commas_beside (More e es) rs ts b = let k = expression_beside e (roles_after_commas es rs) (after_commas es ts) (commas_beside es rs ts b) in omega (arith, k)

  bounds_beside : (es : WrittenList) (rs : Roles) (ts : Kinds) → Beside rs ts → Beside (roles_of_bounds es rs) (bounds_text es ts)
  bounds_beside End rs ts b = b
  bounds_beside (More e es) rs ts b =
      let i = bounds_beside es rs ts b in
      let k = expression_beside e (in_expression ∷ roles_of_bounds es rs) (token.Punctuator punctuator.CloseBracket ∷ bounds_text es ts)
      (omega (arith, i)) in
      omega (arith, k)

some_beside : (e : Option Written) (rs : Roles) (ts : Kinds) → Beside rs ts → Beside (some_roles e rs) (some_text e ts)
some_beside None rs ts b = b
some_beside (Some e) rs ts b = expression_beside e rs ts b

comma_beside : (c : Bool) (rs : Roles) (ts : Kinds) → Beside rs ts → Beside (comma_roles c rs) (comma_text c ts)
comma_beside false rs ts b = b
comma_beside true rs ts b = omega (arith, b)

-- the parts add as many roles as tokens
abbrev Besides : {A : Type 0} → (A → Roles → Roles) → (A → Kinds → Kinds) → Type 0
Besides {A} f g = (a : A) (rs : Roles) (ts : Kinds) → Beside rs ts → Beside (f a rs) (g a ts)

each_list : {A : Type 0} (r : Role) (f : A → Roles → Roles) (g : A → Kinds → Kinds) → Besides f g
    → (all : List A) (rs : Roles) (ts : Kinds) → Beside rs ts → Beside (each_after r f all rs) (each_after_comma g all ts)
each_list r f g law [] rs ts b = b
each_list r f g law (a ∷ all) rs ts b = let k = law a (each_after r f all rs) (each_after_comma g all ts) (each_list r f g law all rs ts b) in
    omega (arith, k)

list_beside : {A : Type 0} (r : Role) (f : A → Roles → Roles) (g : A → Kinds → Kinds) → Besides f g
    → (all : List A) (rs : Roles) (ts : Kinds) → Beside rs ts → Beside (between r f all rs) (with_commas g all ts)
list_beside r f g law [] rs ts b = b
list_beside r f g law (a ∷ all) rs ts b = law a (each_after r f all rs) (each_after_comma g all ts) (each_list r f g law all rs ts b)

brackets_beside : (bs : List (Option Written)) (rs : Roles) (ts : Kinds) → Beside rs ts → Beside (brackets_roles bs rs) (brackets_text bs ts)
brackets_beside [] rs ts b = b
brackets_beside (x ∷ bs) rs ts b =
    let i = brackets_beside bs rs ts b in
    let k = some_beside x (another ∷ brackets_roles bs rs) (token.Punctuator punctuator.CloseBracket ∷ brackets_text bs ts) (omega (arith, i)) in
    omega (arith, k)

-- tokens with one role, before others
run_beside : (r : Role) (tokens : Kinds) (f : Kinds → Kinds) → ((x : Kinds) → tokens ++ x ≡ f x) → (rs : Roles) (ts : Kinds) → Beside rs ts
    → Beside (each r tokens rs) (f ts)
run_beside r tokens f same rs ts b = subst (λ (x : Kinds). Beside (each r tokens rs) x) (same ts) (each_beside r tokens rs ts b)

pointers_beside : (ps : List PointerWord) (rs : Roles) (ts : Kinds) → Beside rs ts → Beside (each another (pointers_text ps []) rs) (pointers_text ps ts)
pointers_beside ps rs ts b = run_beside another (pointers_text ps []) (pointers_text ps) (λ x. pointers_append ps [] x) rs ts b

optional_beside : (tag : Option (List ℕ)) (rs : Roles) (ts : Kinds) → Beside rs ts → Beside (each another (name_text tag []) rs) (name_text tag ts)
optional_beside tag rs ts b = run_beside another (name_text tag []) (name_text tag) (λ x. name_append tag [] x) rs ts b

declarator_beside : Besides declarator_roles declarator_text
declarator_beside d rs ts b =
    let i = brackets_beside d.bounds rs ts b in
    pointers_beside d.pointers (declared_name ∷ brackets_roles d.bounds rs) (token.Name d.name ∷ brackets_text d.bounds ts) (omega (arith, i))

value_beside : (e : Option Written) (rs : Roles) (ts : Kinds) → Beside rs ts → Beside (value_roles e rs) (value_text e ts)
value_beside None rs ts b = b
value_beside (Some e) rs ts b = let k = expression_beside e rs ts b in omega (arith, k)

constant_beside : Besides constant_roles constant_text
constant_beside c rs ts b = let k = value_beside c.value rs ts b in omega (arith, k)

mutual
  spec_beside : (s : Spec) (rs : Roles) (ts : Kinds) → Beside rs ts → Beside (spec_roles s rs) (spec_text s ts)
  spec_beside Static rs ts b = omega (arith, b)
  spec_beside (Plain w) rs ts b = run_beside another (type_word_text w []) (type_word_text w) (λ x. word_append w [] x) rs ts b
  spec_beside (StructBody tag members) rs ts b =
      let i = members_beside members (another ∷ rs) (token.Punctuator punctuator.CloseBrace ∷ ts) (omega (arith, b)) in
      let k = optional_beside tag (another ∷ members_roles members (another ∷ rs))
      (punctuator_text punctuator.OpenBrace (members_text members (punctuator_text punctuator.CloseBrace ts))) (omega (arith, i)) in
      omega (arith, k)
  spec_beside (EnumBody tag constants comma) rs ts b =
      let h = comma_beside comma (another ∷ rs) (punctuator_text punctuator.CloseBrace ts) (omega (arith, b)) in
      let i = list_beside another constant_roles constant_text constant_beside constants (comma_roles comma (another ∷ rs))
      (comma_text comma (punctuator_text punctuator.CloseBrace ts)) h in
      let k = optional_beside tag (another ∷ between another constant_roles constants (comma_roles comma (another ∷ rs)))
      (punctuator_text punctuator.OpenBrace (with_commas constant_text constants (comma_text comma (punctuator_text punctuator.CloseBrace ts))))
      (omega (arith, i)) in
      omega (arith, k)

  specs_beside : (s : Specs) (rs : Roles) (ts : Kinds) → Beside rs ts → Beside (specs_roles s rs) (specs_text s ts)
  specs_beside NoSpec rs ts b = b
  specs_beside (MoreSpecs s others) rs ts b = spec_beside s (specs_roles others rs) (specs_text others ts) (specs_beside others rs ts b)

  members_beside : (m : Members) (rs : Roles) (ts : Kinds) → Beside rs ts → Beside (members_roles m rs) (members_text m ts)
  members_beside NoMember rs ts b = b
  members_beside (MoreMembers specs declarators others) rs ts b =
      let i = members_beside others rs ts b in
      let k = list_beside after_member declarator_roles declarator_text declarator_beside declarators (after_member ∷ members_roles others rs)
      (punctuator_text punctuator.Semicolon (members_text others ts)) (omega (arith, i)) in
      specs_beside specs (between after_member declarator_roles declarators (after_member ∷ members_roles others rs))
      (with_commas declarator_text declarators (punctuator_text punctuator.Semicolon (members_text others ts))) k

mutual
  initial_beside : (i : Initial) (rs : Roles) (ts : Kinds) → Beside rs ts → Beside (initial_roles i rs) (initial_text i ts)
  initial_beside (Single e) rs ts b = expression_beside e rs ts b
  initial_beside (Listed items comma) rs ts b =
      let h = comma_beside comma (another ∷ rs) (punctuator_text punctuator.CloseBrace ts) (omega (arith, b)) in
      let k = initials_beside items (comma_roles comma (another ∷ rs)) (comma_text comma (punctuator_text punctuator.CloseBrace ts)) h in
      omega (arith, k)

  initials_beside : (i : Initials) (rs : Roles) (ts : Kinds) → Beside rs ts → Beside (initials_roles i rs) (initials_text i ts)
  initials_beside NoInitial rs ts b = b
  initials_beside (MoreInitials first others) rs ts b =
      initial_beside first (further_initials_roles others rs) (further_initials_text others ts) (further_beside others rs ts b)

  further_beside : (i : Initials) (rs : Roles) (ts : Kinds) → Beside rs ts → Beside (further_initials_roles i rs) (further_initials_text i ts)
  further_beside NoInitial rs ts b = b
  further_beside (MoreInitials first others) rs ts b =
      let k = initial_beside first (further_initials_roles others rs) (further_initials_text others ts) (further_beside others rs ts b) in omega (arith, k)

first_value_beside : (i : Option Initial) (rs : Roles) (ts : Kinds) → Beside rs ts → Beside (first_value_roles i rs) (first_value_text i ts)
first_value_beside None rs ts b = b
first_value_beside (Some i) rs ts b = let k = initial_beside i rs ts b in omega (arith, k)

declared_beside : Besides declared_roles declared_text
declared_beside d rs ts b = declarator_beside d.declarator (first_value_roles d.initial rs) (first_value_text d.initial ts)
    (first_value_beside d.initial rs ts b)

declaration_beside : (specs : Specs) (objects : List Declared) (rs : Roles) (ts : Kinds) → Beside rs ts
    → Beside (declaration_roles specs objects rs) (declaration_text specs objects ts)
declaration_beside specs objects rs ts b =
    specs_beside specs (between another declared_roles objects (another ∷ rs)) (with_commas declared_text objects (punctuator_text punctuator.Semicolon ts))
    (list_beside another declared_roles declared_text declared_beside objects (another ∷ rs) (punctuator_text punctuator.Semicolon ts) (omega (arith, b)))

name_beside : (name : Option (List ℕ)) (rs : Roles) (ts : Kinds) → Beside rs ts → Beside (name_roles name rs) (name_text name ts)
name_beside None rs ts b = b
name_beside (Some n) rs ts b = omega (arith, b)

parameter_beside : Besides parameter_roles parameter_text
parameter_beside p rs ts b =
    specs_beside p.specs (each another (pointers_text p.pointers []) (name_roles p.name (brackets_roles p.bounds rs)))
    (pointers_text p.pointers (name_text p.name (brackets_text p.bounds ts)))
    (pointers_beside p.pointers (name_roles p.name (brackets_roles p.bounds rs)) (name_text p.name (brackets_text p.bounds ts))
    (name_beside p.name (brackets_roles p.bounds rs) (brackets_text p.bounds ts) (brackets_beside p.bounds rs ts b)))

parameters_beside : (p : Parameters) (rs : Roles) (ts : Kinds) → Beside rs ts → Beside (parameters_roles p rs) (parameters_text p ts)
parameters_beside NoParameter rs ts b = b
parameters_beside VoidAlone rs ts b = omega (arith, b)
parameters_beside (ParameterList list) rs ts b = list_beside another parameter_roles parameter_text parameter_beside list rs ts b

head_beside : (h : Head) (rs : Roles) (ts : Kinds) → Beside rs ts → Beside (head_roles h rs) (head_text h ts)
head_beside h rs ts b =
    let k = parameters_beside h.parameters (another ∷ rs) (punctuator_text punctuator.CloseParenthesis ts) (omega (arith, b)) in
    pointers_beside h.pointers (declared_name ∷ another ∷ parameters_roles h.parameters (another ∷ rs))
    (token.Name h.name ∷ punctuator_text punctuator.OpenParenthesis (parameters_text h.parameters (punctuator_text punctuator.CloseParenthesis ts)))
    (omega (arith, k))

first_beside : (f : First) (rs : Roles) (ts : Kinds) → Beside rs ts → Beside (first_roles f rs) (first_text f ts)
first_beside NoFirst rs ts b = omega (arith, b)
first_beside (FirstRuns e) rs ts b = expression_beside e (another ∷ rs) (punctuator_text punctuator.Semicolon ts) (omega (arith, b))
first_beside (FirstDeclares specs objects) rs ts b = declaration_beside specs objects rs ts b

test_beside : (e : Written) (rs : Roles) (ts : Kinds) → Beside rs ts → Beside (test_roles e rs) (test_text e ts)
test_beside e rs ts b = let k = expression_beside e (another ∷ rs) (punctuator_text punctuator.CloseParenthesis ts) (omega (arith, b)) in omega (arith, k)

mutual
  sentence_beside : (s : Sentence) (rs : Roles) (ts : Kinds) → Beside rs ts → Beside (sentence_roles s rs) (sentence_text s ts)
  sentence_beside (Block items) rs ts b = let k = items_beside items (another ∷ rs) (punctuator_text punctuator.CloseBrace ts) (omega (arith, b)) in
      omega (arith, k)
  sentence_beside Nothing rs ts b = omega (arith, b)
  sentence_beside (Runs e) rs ts b = expression_beside e (another ∷ rs) (punctuator_text punctuator.Semicolon ts) (omega (arith, b))
  sentence_beside (If test body) rs ts b =
      let k = test_beside test (sentence_roles body rs) (sentence_text body ts) (sentence_beside body rs ts b) in omega (arith, k)
  sentence_beside (IfElse test body other) rs ts b =
      let i = sentence_beside other rs ts b in
      let j = sentence_beside body (another ∷ sentence_roles other rs) (word_text keyword.Else (sentence_text other ts)) (omega (arith, i)) in
      let k = test_beside test (sentence_roles body (another ∷ sentence_roles other rs))
      (sentence_text body (word_text keyword.Else (sentence_text other ts))) j in
      omega (arith, k)
  sentence_beside (While test body) rs ts b =
      let k = test_beside test (sentence_roles body rs) (sentence_text body ts) (sentence_beside body rs ts b) in omega (arith, k)
  sentence_beside (Do body test) rs ts b =
      let i = test_beside test (another ∷ rs) (punctuator_text punctuator.Semicolon ts) (omega (arith, b)) in
      let k = sentence_beside body (another ∷ test_roles test (another ∷ rs))
      (word_text keyword.While (test_text test (punctuator_text punctuator.Semicolon ts))) (omega (arith, i)) in
      omega (arith, k)
  sentence_beside (For first test last body) rs ts b =
      let i = sentence_beside body rs ts b in
      let j = some_beside last (another ∷ sentence_roles body rs) (punctuator_text punctuator.CloseParenthesis (sentence_text body ts)) (omega (arith, i)) in
      let l = some_beside test (another ∷ some_roles last (another ∷ sentence_roles body rs))
      (punctuator_text punctuator.Semicolon (some_text last (punctuator_text punctuator.CloseParenthesis (sentence_text body ts)))) (omega (arith, j)) in
      let k = first_beside first (some_roles test (another ∷ some_roles last (another ∷ sentence_roles body rs)))
      (some_text test (punctuator_text punctuator.Semicolon (some_text last (punctuator_text punctuator.CloseParenthesis (sentence_text body ts))))) l in
      omega (arith, k)
  sentence_beside (Switch value items) rs ts b =
      let i = switch_beside items (another ∷ rs) (punctuator_text punctuator.CloseBrace ts) (omega (arith, b)) in
      let k = test_beside value (another ∷ switch_roles items (another ∷ rs))
      (punctuator_text punctuator.OpenBrace (switch_text items (punctuator_text punctuator.CloseBrace ts))) (omega (arith, i)) in
      omega (arith, k)
  sentence_beside (Goto label) rs ts b = omega (arith, b)
  sentence_beside Continue rs ts b = omega (arith, b)
  sentence_beside Break rs ts b = omega (arith, b)
  sentence_beside (Return value) rs ts b = let k = some_beside value (another ∷ rs) (punctuator_text punctuator.Semicolon ts) (omega (arith, b)) in
      omega (arith, k)
  sentence_beside (Label name body) rs ts b = let k = sentence_beside body rs ts b in omega (arith, k)

  item_beside : (i : Item) (rs : Roles) (ts : Kinds) → Beside rs ts → Beside (item_roles i rs) (item_text i ts)
  item_beside (Declares specs objects) rs ts b = declaration_beside specs objects rs ts b
  item_beside (Does statement) rs ts b = sentence_beside statement rs ts b

  items_beside : (i : Items) (rs : Roles) (ts : Kinds) → Beside rs ts → Beside (items_roles i rs) (items_text i ts)
  items_beside NoItem rs ts b = b
  items_beside (MoreItems first others) rs ts b = item_beside first (items_roles others rs) (items_text others ts) (items_beside others rs ts b)

  switch_item_beside : (i : SwitchItem) (rs : Roles) (ts : Kinds) → Beside rs ts → Beside (switch_item_roles i rs) (switch_item_text i ts)
  switch_item_beside (Case value) rs ts b = let k = expression_beside value (another ∷ rs) (punctuator_text punctuator.Colon ts) (omega (arith, b)) in
      omega (arith, k)
  switch_item_beside Default rs ts b = omega (arith, b)
  switch_item_beside (Inside item) rs ts b = item_beside item rs ts b

  switch_beside : (i : SwitchItems) (rs : Roles) (ts : Kinds) → Beside rs ts → Beside (switch_roles i rs) (switch_text i ts)
  switch_beside NoSwitchItem rs ts b = b
  switch_beside (MoreSwitchItems first others) rs ts b =
      switch_item_beside first (switch_roles others rs) (switch_text others ts) (switch_beside others rs ts b)

external_beside : (e : External) (rs : Roles) (ts : Kinds) → Beside rs ts → Beside (external_roles e rs) (external_text e ts)
external_beside (TypeAlone specs) rs ts b = specs_beside specs (another ∷ rs) (punctuator_text punctuator.Semicolon ts) (omega (arith, b))
external_beside (Typedef specs names) rs ts b =
    let i = list_beside another declarator_roles declarator_text declarator_beside names (another ∷ rs) (punctuator_text punctuator.Semicolon ts)
    (omega (arith, b)) in
    let k = specs_beside specs (between another declarator_roles names (another ∷ rs))
    (with_commas declarator_text names (punctuator_text punctuator.Semicolon ts)) i in
    omega (arith, k)
external_beside (Objects specs objects) rs ts b = declaration_beside specs objects rs ts b
external_beside (Function specs head) rs ts b =
    specs_beside specs (head_roles head (another ∷ rs)) (head_text head (punctuator_text punctuator.Semicolon ts))
    (head_beside head (another ∷ rs) (punctuator_text punctuator.Semicolon ts) (omega (arith, b)))
external_beside (Definition specs head body) rs ts b =
    let i = items_beside body (another ∷ rs) (punctuator_text punctuator.CloseBrace ts) (omega (arith, b)) in
    specs_beside specs (head_roles head (another ∷ items_roles body (another ∷ rs)))
    (head_text head (punctuator_text punctuator.OpenBrace (items_text body (punctuator_text punctuator.CloseBrace ts))))
    (head_beside head (another ∷ items_roles body (another ∷ rs))
    (punctuator_text punctuator.OpenBrace (items_text body (punctuator_text punctuator.CloseBrace ts))) (omega (arith, i)))

-- each token of a file has a role
pub file_beside : (file : List External) → length (file_roles file) ≡ length (file_text file)
file_beside [] = refl
file_beside (e ∷ es) = external_beside e (file_roles es) (file_text es) (file_beside es)

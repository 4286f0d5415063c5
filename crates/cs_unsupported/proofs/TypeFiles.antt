-- The tokens of declarations, statements and external declarations with their roles: where a parenthesis closes a type. For the
-- contract of `is_after_type`.
use Rattle.std.proofs.Common.{◌≡◌, ℕ, zero, suc, ◌↔◌, Bool, true, false, IsTrue, List, [], ◌∷◌, ◌++◌, Option, Some, None, MatchOption}
use Rattle.std.proofs.Common.{length, drop, slice_get, refl, sym, ap, ◌∙◌, subst, arith}
use Rattle.std.proofs.lemmas.Bool.{false≢true}
use Rattle.cs_ast.specs.declared.token.TokenKind.TheVariants as token
use Rattle.cs_ast.specs.declared.token.Keyword.{Keyword}
use Rattle.cs_ast.specs.declared.token.Keyword.TheVariants as keyword
use Rattle.cs_ast.specs.declared.token.Punctuator.{Punctuator}
use Rattle.cs_ast.specs.declared.token.Punctuator.TheVariants as punctuator
use Rattle.cs_ast.specs.RawTree.{Written}
use Rattle.cs_ast.specs.RawDeclarations.{Declarator, Spec, Static, Plain, StructBody, EnumBody, Specs, NoSpec, MoreSpecs, Members, NoMember, MoreMembers}
use Rattle.cs_ast.specs.RawDeclarations.{Initial, Single, Listed, Initials, NoItem as NoInitial, MoreItems as MoreInitials, Declared, Parameters, NoParameter}
use Rattle.cs_ast.specs.RawDeclarations.{VoidAlone, ParameterList, Head}
use Rattle.cs_ast.specs.RawStatements.{First, NoFirst, FirstRuns, FirstDeclares, Sentence, Block, Nothing, Runs, If, IfElse, While, Do, For, Switch, Goto}
use Rattle.cs_ast.specs.RawStatements.{Continue, Break, Return, Label, Item, Declares, Does, Items, NoItem, MoreItems, SwitchItem, Case, Default, Inside}
use Rattle.cs_ast.specs.RawStatements.{SwitchItems, NoSwitchItem, MoreSwitchItems, External, TypeAlone, Typedef, Objects, Function, Definition}
use Rattle.cs_grammar.specs.TypeWords.{Names, is_among, is_type}
use Rattle.cs_grammar.specs.Levels.{CHOICE, COMMA}
use Rattle.cs_grammar.specs.Text.{Kinds, pointers_text}
use Rattle.cs_grammar.specs.FileText.{name_text, some_text, comma_text, each_after_comma, with_commas, brackets_text, declarator_text, value_text}
use Rattle.cs_grammar.specs.FileText.{constant_text, spec_text, specs_text, members_text, initial_text, further_initials_text, first_value_text, declared_text}
use Rattle.cs_grammar.specs.FileText.{declaration_text, parameter_text, parameters_text, head_text, first_text, test_text, sentence_text, item_text, items_text}
use Rattle.cs_grammar.specs.FileText.{switch_item_text, switch_text, external_text}
use Rattle.cs_grammar.specs.Phrases.{IsWell, IsPhrase}
use Rattle.cs_grammar.specs.FilePhrases.{AreAll, IsBound, IsFullBound, IsDeclarator, IsMember, IsConstant, HaveBodies, HasBody, AreMembers, AreBlockSpecs}
use Rattle.cs_grammar.specs.FilePhrases.{IsInitial, AreInitials, IsDeclared, AreDeclared, IsParameter, AreParameters, IsHead, IsAny, IsFirst, IsSentence}
use Rattle.cs_grammar.specs.FilePhrases.{IsItem, AreItems, IsSwitchItem, AreSwitchItems, IsExternal}
use Rattle.cs_grammar.specs.Roles.{Role, closes_type, another, after_member, declared_name, Roles, each, some_roles, comma_roles, each_after, between}
use Rattle.cs_grammar.specs.Roles.{brackets_roles, declarator_roles, value_roles, constant_roles, spec_roles, specs_roles, members_roles, initial_roles}
use Rattle.cs_grammar.specs.Roles.{further_initials_roles, first_value_roles, declared_roles, declaration_roles, name_roles, parameter_roles, parameters_roles}
use Rattle.cs_grammar.specs.Roles.{head_roles, first_roles, test_roles, sentence_roles, item_roles, items_roles, switch_item_roles, switch_roles}
use Rattle.cs_grammar.specs.Roles.{external_roles}
use Rattle.cs_unsupported.specs.declared.types.Following.TheVariants as following
use Rattle.cs_unsupported.specs.Parentheses.{Parens, the_outside, closes, step, run}
use Rattle.cs_unsupported.proofs.Statements.{ArePlain, plain_specs}
use Rattle.cs_unsupported.proofs.TypeTraces.{is_closing, Trace, Calm, Quiet, there_word, pointers_calm, word_calm, expression_trace}

abbrev word : Keyword → Kinds → Kinds
word k x = token.Keyword k ∷ x

abbrev set : Punctuator → Kinds → Kinds
set m x = token.Punctuator m ∷ x

-- an expression, if there is one, is well formed
abbrev SomeWell : Names → Option Written → Type 0
SomeWell names e = MatchOption e (Unit {0}) (IsWell names)

some_quiet : (names : Names) (E : Roles → Type 0) (h : Bool) (s : List Bool) (e : Option Written) (ts : Kinds) (rs : Roles) → SomeWell names e
    → Calm names E h s ts rs → Quiet names E h s (some_text e ts) (some_roles e rs)
some_quiet names E h s None ts rs is t = t following.Other refl
some_quiet names E h s (Some e) ts rs is t = expression_trace names E h s e ts rs is t following.Other refl

well_bound : (names : Names) (e : Option Written) → IsBound names e → SomeWell names e
well_bound names None is = tt
well_bound names (Some e) is = is.1

full_bound : (names : Names) (e : Option Written) → IsFullBound names e → SomeWell names e
full_bound names None is = tt
full_bound names (Some e) is = is.1

well_any : (names : Names) (e : Option Written) → IsAny names e → SomeWell names e
well_any names None is = tt
well_any names (Some e) is = is.1

well_bounds : (names : Names) (bs : List (Option Written)) → AreAll (IsBound names) bs → AreAll (SomeWell names) bs
well_bounds names [] are = tt
well_bounds names (e ∷ bs) are = (well_bound names e are.0, well_bounds names bs are.1)

full_bounds : (names : Names) (bs : List (Option Written)) → AreAll (IsFullBound names) bs → AreAll (SomeWell names) bs
full_bounds names [] are = tt
full_bounds names (e ∷ bs) are = (full_bound names e are.0, full_bounds names bs are.1)

comma_calm : (names : Names) (E : Roles → Type 0) (h : Bool) (s : List Bool) (comma : Bool) (ts : Kinds) (rs : Roles) → Calm names E h s ts rs
    → Calm names E h s (comma_text comma ts) (comma_roles comma rs)
comma_calm names E h s false ts rs t = t
comma_calm names E h s true ts rs t = λ b o. (refl, t following.Other refl)

brackets_calm : (names : Names) (E : Roles → Type 0) (h : Bool) (s : List Bool) (bs : List (Option Written)) (ts : Kinds) (rs : Roles)
    → AreAll (SomeWell names) bs → Calm names E h s ts rs → Calm names E h s (brackets_text bs ts) (brackets_roles bs rs)
brackets_calm names E h s [] ts rs are t = t
brackets_calm names E h s (e ∷ bs) ts rs are t =
    λ b o. (
      refl,
      some_quiet names E h s e (set punctuator.CloseBracket (brackets_text bs ts)) (another ∷ brackets_roles bs rs) are.0
          (λ c p. (refl, brackets_calm names E h s bs ts rs are.1 t following.Other refl)),
    )

-- the parts of a list, which satisfy a condition
abbrev Calms : {A : Type 0} → Names → (Roles → Type 0) → (A → Type 0) → (A → Kinds → Kinds) → (A → Roles → Roles) → Type 0
Calms {A} names E Is g f = (h : Bool) (s : List Bool) (a : A) (ts : Kinds) (rs : Roles) → Is a → Calm names E h s ts rs
    → Calm names E h s (g a ts) (f a rs)

each_calm : {A : Type 0} (names : Names) (E : Roles → Type 0) (Is : A → Type 0) (comma : Role) → is_closing comma ≡ false
    → (g : A → Kinds → Kinds) (f : A → Roles → Roles) → Calms names E Is g f
    → (h : Bool) (s : List Bool) (all : List A) (ts : Kinds) (rs : Roles) → AreAll Is all → Calm names E h s ts rs
    → Calm names E h s (each_after_comma g all ts) (each_after comma f all rs)
each_calm names E Is comma e g f law h s [] ts rs are t = t
each_calm names E Is comma e g f law h s (a ∷ all) ts rs are t =
    λ b o. (
      e,
      law h s a (each_after_comma g all ts) (each_after comma f all rs) are.0 (each_calm names E Is comma e g f law h s all ts rs are.1 t) following.Other refl,
    )

list_calm : {A : Type 0} (names : Names) (E : Roles → Type 0) (Is : A → Type 0) (comma : Role) → is_closing comma ≡ false
    → (g : A → Kinds → Kinds) (f : A → Roles → Roles) → Calms names E Is g f
    → (h : Bool) (s : List Bool) (all : List A) (ts : Kinds) (rs : Roles) → AreAll Is all → Calm names E h s ts rs
    → Calm names E h s (with_commas g all ts) (between comma f all rs)
list_calm names E Is comma e g f law h s [] ts rs are t = t
list_calm names E Is comma e g f law h s (a ∷ all) ts rs are t =
    law h s a (each_after_comma g all ts) (each_after comma f all rs) are.0 (each_calm names E Is comma e g f law h s all ts rs are.1 t)

declarator_with : (names : Names) (E : Roles → Type 0) (h : Bool) (s : List Bool) (d : Declarator) (ts : Kinds) (rs : Roles)
    → AreAll (SomeWell names) d.bounds → Calm names E h s ts rs → Calm names E h s (declarator_text d ts) (declarator_roles d rs)
declarator_with names E h s d ts rs are t =
    pointers_calm names E another refl h s d.pointers (token.Name d.name ∷ brackets_text d.bounds ts) (declared_name ∷ brackets_roles d.bounds rs)
    (λ b o. (
      refl,
      there_word names E b following.Name (is_among names d.name) h s (brackets_text d.bounds ts) (brackets_roles d.bounds rs) o
          (brackets_calm names E h s d.bounds ts rs are t following.Name refl),
    ))

declarator_calm : (names : Names) (E : Roles → Type 0) → Calms names E (IsDeclarator names) declarator_text declarator_roles
declarator_calm names E h s d ts rs is t = declarator_with names E h s d ts rs (well_bounds names d.bounds is.bounds) t

member_calm : (names : Names) (E : Roles → Type 0) → Calms names E (IsMember names) declarator_text declarator_roles
member_calm names E h s d ts rs is t = declarator_with names E h s d ts rs (full_bounds names d.bounds is.bounds) t

value_calm : (names : Names) (E : Roles → Type 0) (h : Bool) (s : List Bool) (e : Option Written) (ts : Kinds) (rs : Roles)
    → MatchOption e (Unit {0}) (IsPhrase names CHOICE) → Calm names E h s ts rs → Calm names E h s (value_text e ts) (value_roles e rs)
value_calm names E h s None ts rs is t = t
value_calm names E h s (Some e) ts rs is t = λ b o. (refl, expression_trace names E h s e ts rs is.1 t following.Other refl)

constant_calm : (names : Names) (E : Roles → Type 0) → Calms names E (IsConstant names) constant_text constant_roles
constant_calm names E h s c ts rs is t =
    λ b o. (
      refl,
      there_word names E b following.Name (is_among names c.name) h s (value_text c.value ts) (value_roles c.value rs) o
          (value_calm names E h s c.value ts rs is.value t following.Name refl),
    )

-- the tag of a type with its body
tag_quiet : (names : Names) (E : Roles → Type 0) (h : Bool) (s : List Bool) (tag : Option (List ℕ)) (ts : Kinds) (rs : Roles) → Calm names E h s ts rs
    → Quiet names E h s (name_text tag ts) (each another (name_text tag []) rs)
tag_quiet names E h s None ts rs t = t following.Other refl
tag_quiet names E h s (Some n) ts rs t = (refl, t following.Name refl)

mutual
  spec_calm : (names : Names) (E : Roles → Type 0) (h : Bool) (s : List Bool) (spec : Spec) (ts : Kinds) (rs : Roles) → HasBody names spec
      → Calm names E h s ts rs → Calm names E h s (spec_text spec ts) (spec_roles spec rs)
  spec_calm names E h s Static ts rs has t = λ b o. (refl, there_word names E b following.Other false h s ts rs o (t following.Other refl))
  spec_calm names E h s (Plain w) ts rs has t = word_calm names E another refl h s w ts rs t
  spec_calm names E h s (StructBody tag m) ts rs has t =
      λ b o. (
        refl,
        there_word names E b following.Other true h s (name_text tag (set punctuator.OpenBrace (members_text m (set punctuator.CloseBrace ts))))
            (each another (name_text tag []) (another ∷ members_roles m (another ∷ rs))) o
            (tag_quiet names E h s tag (set punctuator.OpenBrace (members_text m (set punctuator.CloseBrace ts))) (another ∷ members_roles m (another ∷ rs))
            (λ c p. (
              refl,
              members_calm names E h s m (set punctuator.CloseBrace ts) (another ∷ rs) has (λ d q. (refl, t following.Other refl)) following.Other refl,
            ))),
      )
  spec_calm names E h s (EnumBody tag cs comma) ts rs has t =
      λ b o. (
        refl,
        there_word names E b following.Other true h s
            (name_text tag (set punctuator.OpenBrace (with_commas constant_text cs (comma_text comma (set punctuator.CloseBrace ts)))))
            (each another (name_text tag []) (another ∷ between another constant_roles cs (comma_roles comma (another ∷ rs)))) o
            (tag_quiet names E h s tag (set punctuator.OpenBrace (with_commas constant_text cs (comma_text comma (set punctuator.CloseBrace ts))))
            (another ∷ between another constant_roles cs (comma_roles comma (another ∷ rs)))
            (λ c p. (
              refl,
              list_calm names E (IsConstant names) another refl constant_text constant_roles (constant_calm names E) h s cs
                  (comma_text comma (set punctuator.CloseBrace ts)) (comma_roles comma (another ∷ rs)) has.1
                  (comma_calm names E h s comma (set punctuator.CloseBrace ts) (another ∷ rs) (λ d q. (refl, t following.Other refl))) following.Other refl,
            ))),
      )

  -- specifiers
  specs_calm : (names : Names) (E : Roles → Type 0) (h : Bool) (s : List Bool) (specs : Specs) (ts : Kinds) (rs : Roles) → HaveBodies names specs
      → Calm names E h s ts rs → Calm names E h s (specs_text specs ts) (specs_roles specs rs)
  specs_calm names E h s NoSpec ts rs have t = t
  specs_calm names E h s (MoreSpecs first others) ts rs have t =
      spec_calm names E h s first (specs_text others ts) (specs_roles others rs) have.0 (specs_calm names E h s others ts rs have.1 t)

  members_calm : (names : Names) (E : Roles → Type 0) (h : Bool) (s : List Bool) (m : Members) (ts : Kinds) (rs : Roles) → AreMembers names m
      → Calm names E h s ts rs → Calm names E h s (members_text m ts) (members_roles m rs)
  members_calm names E h s NoMember ts rs are t = t
  members_calm names E h s (MoreMembers specs ds m) ts rs are t =
      specs_calm names E h s specs (with_commas declarator_text ds (set punctuator.Semicolon (members_text m ts)))
      (between after_member declarator_roles ds (after_member ∷ members_roles m rs)) are.1
      (list_calm names E (IsMember names) after_member refl declarator_text declarator_roles (member_calm names E) h s ds
      (set punctuator.Semicolon (members_text m ts)) (after_member ∷ members_roles m rs) are.3
      (λ b o. (refl, members_calm names E h s m ts rs are.4 t following.Other refl)))

-- no specifier has a body
plain_bodies : (names : Names) (specs : Specs) → ArePlain specs → HaveBodies names specs
plain_bodies names NoSpec are = tt
plain_bodies names (MoreSpecs (Plain w) others) are = (tt, plain_bodies names others are)
plain_bodies names (MoreSpecs Static others) are = absurd are
plain_bodies names (MoreSpecs (StructBody tag m) others) are = absurd are
plain_bodies names (MoreSpecs (EnumBody tag cs comma) others) are = absurd are

block_bodies : (names : Names) (specs : Specs) → AreBlockSpecs names specs → HaveBodies names specs
block_bodies names specs are = plain_bodies names specs (plain_specs specs (λ words. IsTrue (is_type names words)) are)

mutual
  initial_quiet : (names : Names) (E : Roles → Type 0) (h : Bool) (s : List Bool) (i : Initial) (ts : Kinds) (rs : Roles) → IsInitial names i
      → Calm names E h s ts rs → Quiet names E h s (initial_text i ts) (initial_roles i rs)
  initial_quiet names E h s (Single e) ts rs is t = expression_trace names E h s e ts rs is.1 t following.Other refl
  initial_quiet names E h s (Listed NoInitial comma) ts rs is t = absurd is
  initial_quiet names E h s (Listed (MoreInitials first others) comma) ts rs is t = (
    refl,
    initial_quiet names E h s first (further_initials_text others (comma_text comma (set punctuator.CloseBrace ts)))
        (further_initials_roles others (comma_roles comma (another ∷ rs))) is.0
        (further_calm names E h s others (comma_text comma (set punctuator.CloseBrace ts)) (comma_roles comma (another ∷ rs)) is.1
        (comma_calm names E h s comma (set punctuator.CloseBrace ts) (another ∷ rs) (λ b o. (refl, t following.Other refl)))),
  )

  further_calm : (names : Names) (E : Roles → Type 0) (h : Bool) (s : List Bool) (i : Initials) (ts : Kinds) (rs : Roles) → AreInitials names i
      → Calm names E h s ts rs → Calm names E h s (further_initials_text i ts) (further_initials_roles i rs)
  further_calm names E h s NoInitial ts rs are t = t
  further_calm names E h s (MoreInitials first others) ts rs are t =
      λ b o. (
        refl,
        initial_quiet names E h s first (further_initials_text others ts) (further_initials_roles others rs) are.0
            (further_calm names E h s others ts rs are.1 t),
      )

first_value_calm : (names : Names) (E : Roles → Type 0) (h : Bool) (s : List Bool) (i : Option Initial) (ts : Kinds) (rs : Roles)
    → MatchOption i (Unit {0}) (IsInitial names) → Calm names E h s ts rs → Calm names E h s (first_value_text i ts) (first_value_roles i rs)
first_value_calm names E h s None ts rs is t = t
first_value_calm names E h s (Some i) ts rs is t = λ b o. (refl, initial_quiet names E h s i ts rs is t)

declared_calm : (names : Names) (E : Roles → Type 0) → Calms names E (IsDeclared names) declared_text declared_roles
declared_calm names E h s d ts rs is t =
    declarator_calm names E h s d.declarator (first_value_text d.initial ts) (first_value_roles d.initial rs) is.declarator
    (first_value_calm names E h s d.initial ts rs is.initial t)

-- a declaration of objects
declaration_quiet : (names : Names) (E : Roles → Type 0) (h : Bool) (s : List Bool) (specs : Specs) (objects : List Declared) (ts : Kinds) (rs : Roles)
    → HaveBodies names specs → AreDeclared names objects → Quiet names E h s ts rs
    → Quiet names E h s (declaration_text specs objects ts) (declaration_roles specs objects rs)
declaration_quiet names E h s specs objects ts rs have are t =
    specs_calm names E h s specs (with_commas declared_text objects (set punctuator.Semicolon ts)) (between another declared_roles objects (another ∷ rs))
    have
    (list_calm names E (IsDeclared names) another refl declared_text declared_roles (declared_calm names E) h s objects (set punctuator.Semicolon ts)
    (another ∷ rs) are.1 (λ b o. (refl, t))) following.Other refl

first_quiet : (names : Names) (E : Roles → Type 0) (h : Bool) (s : List Bool) (f : First) (ts : Kinds) (rs : Roles) → IsFirst names f
    → Quiet names E h s ts rs → Quiet names E h s (first_text f ts) (first_roles f rs)
first_quiet names E h s NoFirst ts rs is t = (refl, t)
first_quiet names E h s (FirstRuns e) ts rs is t =
    expression_trace names E h s e (set punctuator.Semicolon ts) (another ∷ rs) is.1 (λ b o. (refl, t)) following.Other refl
first_quiet names E h s (FirstDeclares specs objects) ts rs is t = declaration_quiet names E h s specs objects ts rs (block_bodies names specs is.0) is.1 t

-- an expression between parentheses
test_quiet : (names : Names) (E : Roles → Type 0) (h : Bool) (s : List Bool) (e : Written) (ts : Kinds) (rs : Roles) → IsPhrase names COMMA e
    → Quiet names E h s ts rs → Quiet names E h s (test_text e ts) (test_roles e rs)
test_quiet names E h s e ts rs is t =
    (refl, expression_trace names E false (h ∷ s) e (set punctuator.CloseParenthesis ts) (another ∷ rs) is.1 (λ b o. (refl, t)) following.Opening refl)

mutual
  sentence_quiet : (names : Names) (E : Roles → Type 0) (h : Bool) (s : List Bool) (q : Sentence) (ts : Kinds) (rs : Roles) → IsSentence names q
      → Quiet names E h s ts rs → Quiet names E h s (sentence_text q ts) (sentence_roles q rs)
  sentence_quiet names E h s (Block items) ts rs is t = (refl, items_quiet names E h s items (set punctuator.CloseBrace ts) (another ∷ rs) is (refl, t))
  sentence_quiet names E h s Nothing ts rs is t = (refl, t)
  sentence_quiet names E h s (Runs e) ts rs is t =
      expression_trace names E h s e (set punctuator.Semicolon ts) (another ∷ rs) is.1 (λ b o. (refl, t)) following.Other refl
  sentence_quiet names E h s (If test body) ts rs is t =
      (refl, test_quiet names E h s test (sentence_text body ts) (sentence_roles body rs) is.0 (sentence_quiet names E h s body ts rs is.1 t))
  sentence_quiet names E h s (IfElse test body other) ts rs is t = (
    refl,
    test_quiet names E h s test (sentence_text body (word keyword.Else (sentence_text other ts))) (sentence_roles body (another ∷ sentence_roles other rs))
        is.0
        (sentence_quiet names E h s body (word keyword.Else (sentence_text other ts)) (another ∷ sentence_roles other rs) is.2
        (refl, sentence_quiet names E h s other ts rs is.3 t)),
  )
  sentence_quiet names E h s (While test body) ts rs is t =
      (refl, test_quiet names E h s test (sentence_text body ts) (sentence_roles body rs) is.0 (sentence_quiet names E h s body ts rs is.1 t))
  sentence_quiet names E h s (Do body test) ts rs is t = (
    refl,
    sentence_quiet names E h s body (word keyword.While (test_text test (set punctuator.Semicolon ts))) (another ∷ test_roles test (another ∷ rs)) is.0
        (refl, test_quiet names E h s test (set punctuator.Semicolon ts) (another ∷ rs) is.1 (refl, t)),
  )
  sentence_quiet names E h s (For first test last body) ts rs is t = (
    refl,
    (
      refl,
      first_quiet names E false (h ∷ s) first
          (some_text test (set punctuator.Semicolon (some_text last (set punctuator.CloseParenthesis (sentence_text body ts)))))
          (some_roles test (another ∷ some_roles last (another ∷ sentence_roles body rs))) is.0
          (some_quiet names E false (h ∷ s) test (set punctuator.Semicolon (some_text last (set punctuator.CloseParenthesis (sentence_text body ts))))
          (another ∷ some_roles last (another ∷ sentence_roles body rs)) (well_any names test is.1)
          (λ b o. (
            refl,
            some_quiet names E false (h ∷ s) last (set punctuator.CloseParenthesis (sentence_text body ts)) (another ∷ sentence_roles body rs)
                (well_any names last is.2) (λ c p. (refl, sentence_quiet names E h s body ts rs is.3 t)),
          ))),
    ),
  )
  sentence_quiet names E h s (Switch value items) ts rs is t = (
    refl,
    test_quiet names E h s value (set punctuator.OpenBrace (switch_text items (set punctuator.CloseBrace ts))) (another ∷ switch_roles items (another ∷ rs))
        is.0
        (refl, switch_quiet names E h s items (set punctuator.CloseBrace ts) (another ∷ rs) is.1 (refl, t)),
  )
  sentence_quiet names E h s (Goto label) ts rs is t = (refl, (refl, (refl, t)))
  sentence_quiet names E h s Continue ts rs is t = (refl, (refl, t))
  sentence_quiet names E h s Break ts rs is t = (refl, (refl, t))
  sentence_quiet names E h s (Return value) ts rs is t =
      (refl, some_quiet names E h s value (set punctuator.Semicolon ts) (another ∷ rs) (well_any names value is) (λ b o. (refl, t)))
  sentence_quiet names E h s (Label name body) ts rs is t = (refl, (refl, sentence_quiet names E h s body ts rs is t))

  item_quiet : (names : Names) (E : Roles → Type 0) (h : Bool) (s : List Bool) (i : Item) (ts : Kinds) (rs : Roles) → IsItem names i
      → Quiet names E h s ts rs → Quiet names E h s (item_text i ts) (item_roles i rs)
  item_quiet names E h s (Declares specs objects) ts rs is t = declaration_quiet names E h s specs objects ts rs (block_bodies names specs is.0) is.1 t
  item_quiet names E h s (Does statement) ts rs is t = sentence_quiet names E h s statement ts rs is t

  items_quiet : (names : Names) (E : Roles → Type 0) (h : Bool) (s : List Bool) (i : Items) (ts : Kinds) (rs : Roles) → AreItems names i
      → Quiet names E h s ts rs → Quiet names E h s (items_text i ts) (items_roles i rs)
  items_quiet names E h s NoItem ts rs is t = t
  items_quiet names E h s (MoreItems first others) ts rs is t =
      item_quiet names E h s first (items_text others ts) (items_roles others rs) is.0 (items_quiet names E h s others ts rs is.1 t)

  switch_item_quiet : (names : Names) (E : Roles → Type 0) (h : Bool) (s : List Bool) (i : SwitchItem) (ts : Kinds) (rs : Roles) → IsSwitchItem names i
      → Quiet names E h s ts rs → Quiet names E h s (switch_item_text i ts) (switch_item_roles i rs)
  switch_item_quiet names E h s (Case value) ts rs is t =
      (refl, expression_trace names E h s value (set punctuator.Colon ts) (another ∷ rs) is.1 (λ b o. (refl, t)) following.Other refl)
  switch_item_quiet names E h s Default ts rs is t = (refl, (refl, t))
  switch_item_quiet names E h s (Inside item) ts rs is t = item_quiet names E h s item ts rs is t

  switch_quiet : (names : Names) (E : Roles → Type 0) (h : Bool) (s : List Bool) (i : SwitchItems) (ts : Kinds) (rs : Roles) → AreSwitchItems names i
      → Quiet names E h s ts rs → Quiet names E h s (switch_text i ts) (switch_roles i rs)
  switch_quiet names E h s NoSwitchItem ts rs is t = t
  switch_quiet names E h s (MoreSwitchItems first others) ts rs is t =
      switch_item_quiet names E h s first (switch_text others ts) (switch_roles others rs) is.0 (switch_quiet names E h s others ts rs is.1 t)

name_calm : (names : Names) (E : Roles → Type 0) (h : Bool) (s : List Bool) (name : Option (List ℕ)) (ts : Kinds) (rs : Roles) → Calm names E h s ts rs
    → Calm names E h s (name_text name ts) (name_roles name rs)
name_calm names E h s None ts rs t = t
name_calm names E h s (Some n) ts rs t = λ b o. (refl, there_word names E b following.Name (is_among names n) h s ts rs o (t following.Name refl))

parameter_calm : (names : Names) (E : Roles → Type 0) → Calms names E (IsParameter names) parameter_text parameter_roles
parameter_calm names E h s p ts rs is t =
    specs_calm names E h s p.specs (pointers_text p.pointers (name_text p.name (brackets_text p.bounds ts)))
    (each another (pointers_text p.pointers []) (name_roles p.name (brackets_roles p.bounds rs))) is.specs.1
    (pointers_calm names E another refl h s p.pointers (name_text p.name (brackets_text p.bounds ts)) (name_roles p.name (brackets_roles p.bounds rs))
    (name_calm names E h s p.name (brackets_text p.bounds ts) (brackets_roles p.bounds rs)
    (brackets_calm names E h s p.bounds ts rs (well_bounds names p.bounds is.bounds) t)))

parameters_quiet : (names : Names) (E : Roles → Type 0) (h : Bool) (s : List Bool) (ps : Parameters) (ts : Kinds) (rs : Roles) → AreParameters names ps
    → Calm names E h s ts rs → Quiet names E h s (parameters_text ps ts) (parameters_roles ps rs)
parameters_quiet names E h s NoParameter ts rs are t = t following.Other refl
parameters_quiet names E h s VoidAlone ts rs are t = (refl, t following.Other refl)
parameters_quiet names E h s (ParameterList ps) ts rs are t =
    list_calm names E (IsParameter names) another refl parameter_text parameter_roles (parameter_calm names E) h s ps ts rs are.2 t following.Other refl

head_calm : (names : Names) (E : Roles → Type 0) (h : Bool) (s : List Bool) (head : Head) (ts : Kinds) (rs : Roles) → IsHead names head
    → Quiet names E h s ts rs → Calm names E h s (head_text head ts) (head_roles head rs)
head_calm names E h s head ts rs is t =
    pointers_calm names E another refl h s head.pointers
    (token.Name head.name ∷ set punctuator.OpenParenthesis (parameters_text head.parameters (set punctuator.CloseParenthesis ts)))
    (declared_name ∷ another ∷ parameters_roles head.parameters (another ∷ rs))
    (λ b o. (
      refl,
      there_word names E b following.Name (is_among names head.name) h s
          (set punctuator.OpenParenthesis (parameters_text head.parameters (set punctuator.CloseParenthesis ts)))
          (another ∷ parameters_roles head.parameters (another ∷ rs)) o (
            refl,
            parameters_quiet names E false (h ∷ s) head.parameters (set punctuator.CloseParenthesis ts) (another ∷ rs) is.parameters (λ c p. (refl, t)),
          ),
    ))

external_quiet : (names : Names) (E : Roles → Type 0) (h : Bool) (s : List Bool) (e : External) (ts : Kinds) (rs : Roles) → IsExternal names e
    → Quiet names E h s ts rs → Quiet names E h s (external_text e ts) (external_roles e rs)
external_quiet names E h s (TypeAlone specs) ts rs is t =
    specs_calm names E h s specs (set punctuator.Semicolon ts) (another ∷ rs) is.1 (λ b o. (refl, t)) following.Other refl
external_quiet names E h s (Typedef specs ds) ts rs is t = (
  refl,
  specs_calm names E h s specs (with_commas declarator_text ds (set punctuator.Semicolon ts)) (between another declarator_roles ds (another ∷ rs)) is.0.1
      (list_calm names E (IsDeclarator names) another refl declarator_text declarator_roles (declarator_calm names E) h s ds (set punctuator.Semicolon ts)
      (another ∷ rs) is.2 (λ b o. (refl, t))) following.Other refl,
)
external_quiet names E h s (Objects specs objects) ts rs is t = declaration_quiet names E h s specs objects ts rs is.0.1 is.1 t
external_quiet names E h s (Function specs head) ts rs is t =
    specs_calm names E h s specs (head_text head (set punctuator.Semicolon ts)) (head_roles head (another ∷ rs)) is.0.1
    (head_calm names E h s head (set punctuator.Semicolon ts) (another ∷ rs) is.1 (refl, t)) following.Other refl
external_quiet names E h s (Definition specs head body) ts rs is t =
    specs_calm names E h s specs (head_text head (set punctuator.OpenBrace (items_text body (set punctuator.CloseBrace ts))))
    (head_roles head (another ∷ items_roles body (another ∷ rs))) is.0.1
    (head_calm names E h s head (set punctuator.OpenBrace (items_text body (set punctuator.CloseBrace ts))) (another ∷ items_roles body (another ∷ rs)) is.1
    (refl, items_quiet names E h s body (set punctuator.CloseBrace ts) (another ∷ rs) is.3 (refl, t))) following.Other refl

closing_role : (r : Role) → is_closing r ≡ true → r ≡ closes_type
closing_role closes_type e = refl
closing_role _ e = absurd (false≢true e)

-- if the last of some tokens closes a type, it has that role
last_closes : (names : Names) (E : Roles → Type 0) (s : Parens) (last : Bool) (front more : Kinds) (rs : Roles) (count : ℕ) → length front ≡ suc count
    → Trace names E s (front ++ more) rs → run names front s last ≡ true → slice_get rs count ≡ Some closes_type
last_closes names E s last [] more rs count n t e = absurd (omega (arith, n))
last_closes names E s last (k ∷ front) more [] count n t e = absurd t
last_closes names E s last (k ∷ []) more (r ∷ rs) zero n t e = ap Some (closing_role r (t.0 ∙ e))
last_closes names E s last (k ∷ []) more (r ∷ rs) (suc count) n t e = absurd (omega (arith, n))
last_closes names E s last (k ∷ j ∷ front) more (r ∷ rs) zero n t e = absurd (omega (arith, n))
last_closes names E s last (k ∷ j ∷ front) more (r ∷ rs) (suc count) n t e =
    last_closes names E (step names k s) (closes k s.holds) (j ∷ front) more rs count (omega (arith, n)) t.1 e

-- and it closes one if it has that role
has_closed : (names : Names) (E : Roles → Type 0) (s : Parens) (last : Bool) (front more : Kinds) (rs : Roles) (count : ℕ) → length front ≡ suc count
    → Trace names E s (front ++ more) rs → slice_get rs count ≡ Some closes_type → run names front s last ≡ true
has_closed names E s last [] more rs count n t e = absurd (omega (arith, n))
has_closed names E s last (k ∷ front) more [] count n t e = absurd t
has_closed names E s last (k ∷ []) more (r ∷ rs) zero n t e =
    let z : Some r ≡ Some closes_type = e in
    let same : r ≡ closes_type = cc in
    sym t.0 ∙ ap is_closing same
has_closed names E s last (k ∷ []) more (r ∷ rs) (suc count) n t e = absurd (omega (arith, n))
has_closed names E s last (k ∷ j ∷ front) more (r ∷ rs) zero n t e = absurd (omega (arith, n))
has_closed names E s last (k ∷ j ∷ front) more (r ∷ rs) (suc count) n t e =
    has_closed names E (step names k s) (closes k s.holds) (j ∷ front) more rs count (omega (arith, n)) t.1 e

-- the last of so many tokens has this role
pub record IsLastRole (roles : Roles) (count : ℕ) (role : Role) : Type 0 where
  pub last : ℕ
  pub number : count ≡ suc last
  pub there : slice_get roles last ≡ Some role

last_role : (names : Names) (E : Roles → Type 0) (s : Parens) (front more : Kinds) (rs : Roles) → Trace names E s (front ++ more) rs
    → run names front s false ≡ true → IsLastRole rs (length front) closes_type
last_role names E s [] more rs t e = absurd (false≢true e)
last_role names E s (k ∷ front) more rs t e = record {
  last = length front;
  number = refl;
  there = last_closes names E s false (k ∷ front) more rs (length front) refl t e;
}

-- the scan of the first tokens of an external declaration decides whether the last of them closes a type, whatever the roles after it are
pub yields_type : (names : Names) (part : Kinds) (whole : External) (rest : Roles) (more : Kinds) → IsExternal names whole
    → external_text whole [] ≡ part ++ more
    → IsTrue (run names part the_outside false) ↔ IsLastRole (external_roles whole rest) (length part) closes_type
yields_type names part whole rest more is same =
    let any : Roles → Type 0 = λ rs. Unit {0} in
    let t = subst (λ (x : Kinds). Trace names any the_outside x (external_roles whole rest)) same (external_quiet names any false [] whole [] rest is tt) in (
      λ e. last_role names any the_outside part more (external_roles whole rest) t e,
      λ l. has_closed names any the_outside false part more (external_roles whole rest) l.last l.number t l.there,
    )

after_all : (names : Names) (E : Roles → Type 0) (s : Parens) (ts : Kinds) (rs : Roles) → Trace names E s ts rs → E (drop (length ts) rs)
after_all names E s [] rs t = t
after_all names E s (k ∷ ts) [] t = absurd t
after_all names E s (k ∷ ts) (r ∷ rs) t = after_all names E (step names k s) ts rs t.1

-- the roles after those of an external declaration
pub roles_after : (names : Names) (e : External) (rest : Roles) → IsExternal names e → drop (length (external_text e [])) (external_roles e rest) ≡ rest
roles_after names e rest is = after_all names (λ rs. rs ≡ rest) the_outside (external_text e []) (external_roles e rest)
    (external_quiet names (λ rs. rs ≡ rest) false [] e [] rest is refl)

-- The tokens of a file with their roles: a brace opens an initializer list exactly where an initializer is expected. For the
-- contract of `awaits_list`.
use Rattle.std.proofs.Common.{◌≡◌, ℕ, Bool, true, false, List, [], ◌∷◌, Option, Some, None, refl}
use Rattle.cs_ast.specs.declared.token.TokenKind.{TokenKind}
use Rattle.cs_ast.specs.declared.token.TokenKind.TheVariants as token
use Rattle.cs_ast.specs.declared.token.Punctuator.TheVariants as punctuator
use Rattle.cs_ast.specs.declared.raw.operator.Step.{Step}
use Rattle.cs_ast.specs.declared.raw.operator.Step.TheVariants.{Up, Down}
use Rattle.cs_ast.specs.declared.raw.operator.PrefixOp.{PrefixOp}
use Rattle.cs_ast.specs.declared.raw.operator.PrefixOp.TheVariants as before
use Rattle.cs_ast.specs.declared.raw.operator.InfixOp.{InfixOp}
use Rattle.cs_ast.specs.declared.raw.operator.InfixOp.TheVariants as operator
use Rattle.cs_ast.specs.declared.raw.operator.AssignOp.{AssignOp}
use Rattle.cs_ast.specs.declared.raw.operator.AssignOp.TheVariants as assign
use Rattle.cs_ast.specs.declared.raw.written_type.TypeWord.{TypeWord}
use Rattle.cs_ast.specs.declared.raw.written_type.TypeWord.TheVariants as word
use Rattle.cs_ast.specs.declared.raw.written_type.IntegerWord.{IntegerWord}
use Rattle.cs_ast.specs.declared.raw.written_type.IntegerWord.TheVariants.{Char, Short, Int, Long, Signed, Unsigned}
use Rattle.cs_ast.specs.declared.raw.written_type.PointerWord.{PointerWord}
use Rattle.cs_ast.specs.declared.raw.written_type.PointerWord.TheVariants as pointer
use Rattle.cs_ast.specs.RawTree.{Written, WrittenList, Named, Numeral, Character, Literal, Enclosed, Index, Call, Member, Arrow, StepAfter, StepBefore, Prefix}
use Rattle.cs_ast.specs.RawTree.{SizeOf, SizeOfType, Cast, Infix, Choice, Assign, Comma, End, More}
use Rattle.cs_ast.specs.RawDeclarations.{Spec, Static, Plain, StructBody, EnumBody, Specs, NoSpec, MoreSpecs, Members, NoMember, MoreMembers, Initial, Single}
use Rattle.cs_ast.specs.RawDeclarations.{Listed, Initials, NoItem as NoInitial, MoreItems as MoreInitials}
use Rattle.cs_grammar.specs.Punctuators.{step_punctuator, prefix_punctuator, infix_punctuator, assign_punctuator}
use Rattle.cs_grammar.specs.Text.{Kinds, text, listed, after_commas, bounds_text, words_text, pointers_text, type_word_text, integer_word_text}
use Rattle.cs_grammar.specs.FileText.{name_text, some_text, comma_text, each_after_comma, with_commas, brackets_text, declarator_text, value_text}
use Rattle.cs_grammar.specs.FileText.{constant_text, spec_text, specs_text, members_text, initial_text, initials_text, further_initials_text, first_value_text}
use Rattle.cs_grammar.specs.FileText.{declared_text}
use Rattle.cs_grammar.specs.Roles.{Role, closes_type, in_expression, another, after_member, declared_name, opens_list, Roles, each, type_roles, roles}
use Rattle.cs_grammar.specs.Roles.{roles_listed, roles_after_commas, roles_of_bounds, some_roles, comma_roles, each_after, between, brackets_roles}
use Rattle.cs_grammar.specs.Roles.{declarator_roles, value_roles, constant_roles, spec_roles, specs_roles, members_roles, initial_roles, initials_roles}
use Rattle.cs_grammar.specs.Roles.{further_initials_roles, first_value_roles, declared_roles}
use Rattle.cs_unsupported.specs.Awaiting.{step}

-- the role is that of a brace that opens an initializer list
abbrev pub is_list : Role → Bool
is_list opens_list = true
is_list other = false

-- the token opens such a list, given whether an initializer is expected
abbrev pub opens : TokenKind → Bool → Bool
opens (token.Punctuator punctuator.OpenBrace) awaits = awaits
opens other awaits = false

-- each of some tokens has the role of a list's brace exactly if it is a brace and an initializer is expected
abbrev pub Trace : Bool → Kinds → Roles → Type 0
Trace awaits [] [] = Unit {0}
Trace awaits [] (role ∷ roles) = ⊥
Trace awaits (next ∷ tokens) [] = ⊥
Trace awaits (next ∷ tokens) (role ∷ roles) = (is_list role ≡ opens next awaits) × Trace (step next awaits) tokens roles

-- the same, whether an initializer is expected or not
abbrev pub Calm : Kinds → Roles → Type 0
Calm tokens roles = (awaits : Bool) → Trace awaits tokens roles

-- the same if none is expected
abbrev pub Quiet : Kinds → Roles → Type 0
Quiet tokens roles = Trace false tokens roles

plain_step : (s : Step) (b : Bool) → opens (token.Punctuator (step_punctuator s)) b ≡ false
plain_step Up b = refl
plain_step Down b = refl

after_step : (s : Step) (b : Bool) (ts : Kinds) (rs : Roles) → Quiet ts rs → Trace (step (token.Punctuator (step_punctuator s)) b) ts rs
after_step Up b ts rs h = h
after_step Down b ts rs h = h

plain_prefix : (op : PrefixOp) (b : Bool) → opens (token.Punctuator (prefix_punctuator op)) b ≡ false
plain_prefix before.Address b = refl
plain_prefix _ b = refl

plain_infix : (op : InfixOp) (b : Bool) → opens (token.Punctuator (infix_punctuator op)) b ≡ false
plain_infix operator.Or b = refl
plain_infix _ b = refl

plain_assign : (op : AssignOp) (b : Bool) → opens (token.Punctuator (assign_punctuator op)) b ≡ false
plain_assign assign.Plain b = refl
plain_assign _ b = refl

plain_integer : (r : Role) → is_list r ≡ false → (k : IntegerWord) (b : Bool) → is_list r ≡ opens (integer_word_text k) b
plain_integer r e Char b = e
plain_integer r e Short b = e
plain_integer r e Int b = e
plain_integer r e Long b = e
plain_integer r e Signed b = e
plain_integer r e Unsigned b = e

abbrev opening : TokenKind
opening = token.Punctuator punctuator.OpenParenthesis

abbrev closing : TokenKind
closing = token.Punctuator punctuator.CloseParenthesis

abbrev bracket : TokenKind
bracket = token.Punctuator punctuator.OpenBracket

abbrev bracketed : TokenKind
bracketed = token.Punctuator punctuator.CloseBracket

abbrev brace : TokenKind
brace = token.Punctuator punctuator.CloseBrace

-- the words of pointers, which have this role
pub pointers_calm : (r : Role) → is_list r ≡ false → (ps : List PointerWord) (ts : Kinds) (rs : Roles) → Calm ts rs
    → Calm (pointers_text ps ts) (each r (pointers_text ps []) rs)
pointers_calm r e [] ts rs h = h
pointers_calm r e (pointer.Star ∷ ps) ts rs h = λ b. (e, pointers_calm r e ps ts rs h false)
pointers_calm r e (pointer.Const ∷ ps) ts rs h = λ b. (e, pointers_calm r e ps ts rs h false)

-- a word of a type
word_calm : (r : Role) → is_list r ≡ false → (w : TypeWord) (ts : Kinds) (rs : Roles) → Calm ts rs
    → Calm (type_word_text w ts) (each r (type_word_text w []) rs)
word_calm r e word.Const ts rs h = λ b. (e, h false)
word_calm r e (word.Integer k) ts rs h = λ b. (plain_integer r e k b, h (step (integer_word_text k) b))
word_calm r e word.Void ts rs h = λ b. (e, h false)
word_calm r e (word.Typedef n) ts rs h = λ b. (e, h false)
word_calm r e (word.Struct n) ts rs h = λ b. (e, (e, h false))
word_calm r e (word.Enum n) ts rs h = λ b. (e, (e, h false))

-- the words and pointers of a type between parentheses
type_calm : (ws : List TypeWord) (ps : List PointerWord) (ts : Kinds) (rs : Roles) → Calm ts rs
    → Calm (words_text ws (pointers_text ps ts)) (type_roles ws ps rs)
type_calm [] ps ts rs h = pointers_calm in_expression refl ps ts rs h
type_calm (word.Const ∷ ws) ps ts rs h = λ b. (refl, type_calm ws ps ts rs h false)
type_calm (word.Integer k ∷ ws) ps ts rs h = λ b. (plain_integer in_expression refl k b, type_calm ws ps ts rs h (step (integer_word_text k) b))
type_calm (word.Void ∷ ws) ps ts rs h = λ b. (refl, type_calm ws ps ts rs h false)
type_calm (word.Typedef n ∷ ws) ps ts rs h = λ b. (refl, type_calm ws ps ts rs h false)
type_calm (word.Struct n ∷ ws) ps ts rs h = λ b. (refl, (refl, type_calm ws ps ts rs h false))
type_calm (word.Enum n ∷ ws) ps ts rs h = λ b. (refl, (refl, type_calm ws ps ts rs h false))

-- an equation, turned to the order of the roles
turned : (b : Bool) → b ≡ false → false ≡ b
turned b e = cc

mutual
  -- an expression, after which no initializer is expected
  pub expression_calm : (e : Written) (ts : Kinds) (rs : Roles) → Quiet ts rs → Calm (text e ts) (roles e rs)
  expression_calm (Named n) ts rs h = λ b. (refl, h)
  expression_calm (Numeral n) ts rs h = λ b. (refl, h)
  expression_calm (Character v) ts rs h = λ b. (refl, h)
  expression_calm (Literal x) ts rs h = λ b. (refl, h)
  expression_calm (Enclosed i) ts rs h = λ b. (refl, expression_calm i (closing ∷ ts) (in_expression ∷ rs) (refl, h) false)
  expression_calm (Index a n) ts rs h =
      expression_calm a (bracket ∷ text n (bracketed ∷ ts)) (in_expression ∷ roles n (in_expression ∷ rs))
      (refl, expression_calm n (bracketed ∷ ts) (in_expression ∷ rs) (refl, h) false)
  expression_calm (Call f es) ts rs h =
      expression_calm f (opening ∷ listed es (closing ∷ ts)) (in_expression ∷ roles_listed es (in_expression ∷ rs))
      (refl, listed_calm es (closing ∷ ts) (in_expression ∷ rs) (λ c. (refl, h)) false)
  expression_calm (Member o n) ts rs h =
      expression_calm o (token.Punctuator punctuator.Dot ∷ token.Name n ∷ ts) (in_expression ∷ in_expression ∷ rs) (refl, (refl, h))
  expression_calm (Arrow o n) ts rs h =
      expression_calm o (token.Punctuator punctuator.Arrow ∷ token.Name n ∷ ts) (in_expression ∷ in_expression ∷ rs) (refl, (refl, h))
  expression_calm (StepAfter t o) ts rs h =
      expression_calm o (token.Punctuator (step_punctuator t) ∷ ts) (in_expression ∷ rs) (
        turned (opens (token.Punctuator (step_punctuator t)) false) (plain_step t false),
        after_step t false ts rs h,
      )
  expression_calm (StepBefore t o) ts rs h =
      λ b.
      (turned (opens (token.Punctuator (step_punctuator t)) b) (plain_step t b), expression_calm o ts rs h (step (token.Punctuator (step_punctuator t)) b))
  expression_calm (Prefix op o) ts rs h =
      λ b. (
        turned (opens (token.Punctuator (prefix_punctuator op)) b) (plain_prefix op b),
        expression_calm o ts rs h (step (token.Punctuator (prefix_punctuator op)) b),
      )
  expression_calm (SizeOf o) ts rs h = λ b. (refl, expression_calm o ts rs h false)
  expression_calm (SizeOfType ws ps bs) ts rs h =
      λ b. (
        refl,
        (
          refl,
          type_calm ws ps (bounds_text bs (closing ∷ ts)) (roles_of_bounds bs (closes_type ∷ rs))
              (bounds_calm bs (closing ∷ ts) (closes_type ∷ rs) (λ c. (refl, h))) false,
        ),
      )
  expression_calm (Cast ws ps bs o) ts rs h =
      λ b. (
        refl,
        type_calm ws ps (bounds_text bs (closing ∷ text o ts)) (roles_of_bounds bs (closes_type ∷ roles o rs))
            (bounds_calm bs (closing ∷ text o ts) (closes_type ∷ roles o rs) (λ c. (refl, expression_calm o ts rs h false))) false,
      )
  expression_calm (Infix op l r) ts rs h =
      expression_calm l (token.Punctuator (infix_punctuator op) ∷ text r ts) (in_expression ∷ roles r rs) (
        turned (opens (token.Punctuator (infix_punctuator op)) false) (plain_infix op false),
        expression_calm r ts rs h (step (token.Punctuator (infix_punctuator op)) false),
      )
  expression_calm (Choice t o e) ts rs h =
      expression_calm t (token.Punctuator punctuator.Question ∷ text o (token.Punctuator punctuator.Colon ∷ text e ts))
      (in_expression ∷ roles o (in_expression ∷ roles e rs))
      (refl, expression_calm o (token.Punctuator punctuator.Colon ∷ text e ts) (in_expression ∷ roles e rs) (refl, expression_calm e ts rs h false) false)
  expression_calm (Assign op l r) ts rs h =
      expression_calm l (token.Punctuator (assign_punctuator op) ∷ text r ts) (in_expression ∷ roles r rs) (
        turned (opens (token.Punctuator (assign_punctuator op)) false) (plain_assign op false),
        expression_calm r ts rs h (step (token.Punctuator (assign_punctuator op)) false),
      )
  expression_calm (Comma l r) ts rs h =
      expression_calm l (token.Punctuator punctuator.Comma ∷ text r ts) (in_expression ∷ roles r rs) (refl, expression_calm r ts rs h true)

  listed_calm : (es : WrittenList) (ts : Kinds) (rs : Roles) → Calm ts rs → Calm (listed es ts) (roles_listed es rs)
  listed_calm End ts rs h = h
  listed_calm (More e es) ts rs h = expression_calm e (after_commas es ts) (roles_after_commas es rs) (commas_calm es ts rs h false)

  commas_calm : (es : WrittenList) (ts : Kinds) (rs : Roles) → Calm ts rs → Calm (after_commas es ts) (roles_after_commas es rs)
  commas_calm End ts rs h = h
  commas_calm (More e es) ts rs h = λ b. (refl, expression_calm e (after_commas es ts) (roles_after_commas es rs) (commas_calm es ts rs h false) true)

  bounds_calm : (es : WrittenList) (ts : Kinds) (rs : Roles) → Calm ts rs → Calm (bounds_text es ts) (roles_of_bounds es rs)
  bounds_calm End ts rs h = h
  bounds_calm (More e es) ts rs h =
      λ b. (refl, expression_calm e (bracketed ∷ bounds_text es ts) (in_expression ∷ roles_of_bounds es rs) (refl, bounds_calm es ts rs h false) false)

pub some_calm : (e : Option Written) (ts : Kinds) (rs : Roles) → Calm ts rs → Calm (some_text e ts) (some_roles e rs)
some_calm None ts rs h = h
some_calm (Some e) ts rs h = expression_calm e ts rs (h false)

comma_calm : (comma : Bool) (ts : Kinds) (rs : Roles) → Calm ts rs → Calm (comma_text comma ts) (comma_roles comma rs)
comma_calm false ts rs h = h
comma_calm true ts rs h = λ b. (refl, h true)

-- the parts of a list, whether an initializer is expected before them or not
abbrev pub Calms : {A : Type 0} → (A → Kinds → Kinds) → (A → Roles → Roles) → Type 0
Calms {A} g f = (a : A) (ts : Kinds) (rs : Roles) → Calm ts rs → Calm (g a ts) (f a rs)

each_calm : {A : Type 0} (comma : Role) → is_list comma ≡ false → (g : A → Kinds → Kinds) (f : A → Roles → Roles) → Calms g f
    → (all : List A) (ts : Kinds) (rs : Roles) → Calm ts rs → Calm (each_after_comma g all ts) (each_after comma f all rs)
each_calm comma e g f law [] ts rs h = h
each_calm comma e g f law (a ∷ all) ts rs h = λ b.
    (e, law a (each_after_comma g all ts) (each_after comma f all rs) (each_calm comma e g f law all ts rs h) true)

pub list_calm : {A : Type 0} (comma : Role) → is_list comma ≡ false → (g : A → Kinds → Kinds) (f : A → Roles → Roles) → Calms g f
    → (all : List A) (ts : Kinds) (rs : Roles) → Calm ts rs → Calm (with_commas g all ts) (between comma f all rs)
list_calm comma e g f law [] ts rs h = h
list_calm comma e g f law (a ∷ all) ts rs h = law a (each_after_comma g all ts) (each_after comma f all rs) (each_calm comma e g f law all ts rs h)

pub brackets_calm : (bs : List (Option Written)) (ts : Kinds) (rs : Roles) → Calm ts rs → Calm (brackets_text bs ts) (brackets_roles bs rs)
brackets_calm [] ts rs h = h
brackets_calm (e ∷ bs) ts rs h =
    λ b. (refl, some_calm e (bracketed ∷ brackets_text bs ts) (another ∷ brackets_roles bs rs) (λ c. (refl, brackets_calm bs ts rs h false)) false)

pub declarator_calm : Calms declarator_text declarator_roles
declarator_calm d ts rs h =
    pointers_calm another refl d.pointers (token.Name d.name ∷ brackets_text d.bounds ts) (declared_name ∷ brackets_roles d.bounds rs)
    (λ b. (refl, brackets_calm d.bounds ts rs h false))

value_calm : (e : Option Written) (ts : Kinds) (rs : Roles) → Calm ts rs → Calm (value_text e ts) (value_roles e rs)
value_calm None ts rs h = h
value_calm (Some e) ts rs h = λ b. (refl, expression_calm e ts rs (h false) true)

constant_calm : Calms constant_text constant_roles
constant_calm c ts rs h = λ b. (refl, value_calm c.value ts rs h false)

-- the tag of a type with its body
tag_quiet : (tag : Option (List ℕ)) (ts : Kinds) (rs : Roles) → Quiet ts rs → Quiet (name_text tag ts) (each another (name_text tag []) rs)
tag_quiet None ts rs h = h
tag_quiet (Some n) ts rs h = (refl, h)

mutual
  spec_calm : (s : Spec) (ts : Kinds) (rs : Roles) → Calm ts rs → Calm (spec_text s ts) (spec_roles s rs)
  spec_calm Static ts rs h = λ b. (refl, h false)
  spec_calm (Plain w) ts rs h = word_calm another refl w ts rs h
  spec_calm (StructBody tag m) ts rs h =
      λ b. (
        refl,
        tag_quiet tag (token.Punctuator punctuator.OpenBrace ∷ members_text m (brace ∷ ts)) (another ∷ members_roles m (another ∷ rs))
            (refl, members_calm m (brace ∷ ts) (another ∷ rs) (λ c. (refl, h false)) false),
      )
  spec_calm (EnumBody tag cs comma) ts rs h =
      λ b. (
        refl,
        tag_quiet tag (token.Punctuator punctuator.OpenBrace ∷ with_commas constant_text cs (comma_text comma (brace ∷ ts)))
            (another ∷ between another constant_roles cs (comma_roles comma (another ∷ rs))) (
              refl,
              list_calm another refl constant_text constant_roles constant_calm cs (comma_text comma (brace ∷ ts)) (comma_roles comma (another ∷ rs))
                  (comma_calm comma (brace ∷ ts) (another ∷ rs) (λ c. (refl, h false))) false,
            ),
      )

  -- specifiers
  pub specs_calm : (s : Specs) (ts : Kinds) (rs : Roles) → Calm ts rs → Calm (specs_text s ts) (specs_roles s rs)
  specs_calm NoSpec ts rs h = h
  specs_calm (MoreSpecs first others) ts rs h = spec_calm first (specs_text others ts) (specs_roles others rs) (specs_calm others ts rs h)

  members_calm : (m : Members) (ts : Kinds) (rs : Roles) → Calm ts rs → Calm (members_text m ts) (members_roles m rs)
  members_calm NoMember ts rs h = h
  members_calm (MoreMembers specs ds m) ts rs h =
      specs_calm specs (with_commas declarator_text ds (token.Punctuator punctuator.Semicolon ∷ members_text m ts))
      (between after_member declarator_roles ds (after_member ∷ members_roles m rs))
      (list_calm after_member refl declarator_text declarator_roles declarator_calm ds (token.Punctuator punctuator.Semicolon ∷ members_text m ts)
      (after_member ∷ members_roles m rs) (λ b. (refl, members_calm m ts rs h false)))

mutual
  -- an initializer, where one is expected
  initial_awaited : (i : Initial) (ts : Kinds) (rs : Roles) → Calm ts rs → Trace true (initial_text i ts) (initial_roles i rs)
  initial_awaited (Single e) ts rs h = expression_calm e ts rs (h false) true
  initial_awaited (Listed items comma) ts rs h = (
    refl,
    initials_awaited items (comma_text comma (brace ∷ ts)) (comma_roles comma (another ∷ rs))
        (comma_calm comma (brace ∷ ts) (another ∷ rs) (λ c. (refl, h false))),
  )

  initials_awaited : (i : Initials) (ts : Kinds) (rs : Roles) → Calm ts rs → Trace true (initials_text i ts) (initials_roles i rs)
  initials_awaited NoInitial ts rs h = h true
  initials_awaited (MoreInitials first others) ts rs h =
      initial_awaited first (further_initials_text others ts) (further_initials_roles others rs) (further_calm others ts rs h)

  further_calm : (i : Initials) (ts : Kinds) (rs : Roles) → Calm ts rs → Calm (further_initials_text i ts) (further_initials_roles i rs)
  further_calm NoInitial ts rs h = h
  further_calm (MoreInitials first others) ts rs h = λ b.
      (refl, initial_awaited first (further_initials_text others ts) (further_initials_roles others rs) (further_calm others ts rs h))

first_value_calm : (i : Option Initial) (ts : Kinds) (rs : Roles) → Calm ts rs → Calm (first_value_text i ts) (first_value_roles i rs)
first_value_calm None ts rs h = h
first_value_calm (Some i) ts rs h = λ b. (refl, initial_awaited i ts rs h)

pub declared_calm : Calms declared_text declared_roles
declared_calm d ts rs h = declarator_calm d.declarator (first_value_text d.initial ts) (first_value_roles d.initial rs) (first_value_calm d.initial ts rs h)

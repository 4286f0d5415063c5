-- The tokens of a file with their roles, from one spot to another, outside of members. For the contract of
-- `is_after_member`.
use Rattle.std.proofs.Common.{◌≡◌, Bool, true, false, List, [], ◌∷◌, Option, Some, None, refl}
use Rattle.std.proofs.lemmas.Bool.{false≢true}
use Rattle.cs_ast.specs.declared.token.TokenKind.{TokenKind}
use Rattle.cs_ast.specs.declared.token.TokenKind.TheVariants as token
use Rattle.cs_ast.specs.declared.token.Keyword.TheVariants as keyword
use Rattle.cs_ast.specs.declared.token.Punctuator.{Punctuator}
use Rattle.cs_ast.specs.declared.token.Punctuator.TheVariants as punctuator
use Rattle.cs_ast.specs.declared.raw.operator.Step.{Step}
use Rattle.cs_ast.specs.declared.raw.operator.Step.TheVariants.{Up, Down}
use Rattle.cs_ast.specs.declared.raw.operator.PrefixOp.{PrefixOp}
use Rattle.cs_ast.specs.declared.raw.operator.PrefixOp.TheVariants as before
use Rattle.cs_ast.specs.declared.raw.operator.InfixOp.{InfixOp}
use Rattle.cs_ast.specs.declared.raw.operator.InfixOp.TheVariants as operator
use Rattle.cs_ast.specs.declared.raw.operator.AssignOp.{AssignOp}
use Rattle.cs_ast.specs.declared.raw.operator.AssignOp.TheVariants as assign
use Rattle.cs_ast.specs.declared.raw.written_type.TypeWord.{TypeWord}
use Rattle.cs_ast.specs.declared.raw.written_type.TypeWord.TheVariants as word
use Rattle.cs_ast.specs.declared.raw.written_type.IntegerWord.{IntegerWord}
use Rattle.cs_ast.specs.declared.raw.written_type.IntegerWord.TheVariants.{Char, Short, Int, Long, Signed, Unsigned}
use Rattle.cs_ast.specs.declared.raw.written_type.PointerWord.{PointerWord}
use Rattle.cs_ast.specs.declared.raw.written_type.PointerWord.TheVariants as pointer
use Rattle.cs_ast.specs.RawTree.{Written, WrittenList, Named, Numeral, Character, Literal, Enclosed, Index, Call, Member, Arrow, StepAfter, StepBefore, Prefix}
use Rattle.cs_ast.specs.RawTree.{SizeOf, SizeOfType, Cast, Infix, Choice, Assign, Comma, End, More}
use Rattle.cs_ast.specs.RawDeclarations.{Initial, Single, Listed, Initials, NoItem as NoInitial, MoreItems as MoreInitials}
use Rattle.cs_grammar.specs.Punctuators.{step_punctuator, prefix_punctuator, infix_punctuator, assign_punctuator}
use Rattle.cs_grammar.specs.Text.{Kinds, text, listed, after_commas, bounds_text, words_text, pointers_text, type_word_text, integer_word_text}
use Rattle.cs_grammar.specs.FileText.{some_text, comma_text, each_after_comma, with_commas, brackets_text, declarator_text, value_text, constant_text}
use Rattle.cs_grammar.specs.FileText.{initial_text, initials_text, further_initials_text, first_value_text, declared_text}
use Rattle.cs_grammar.specs.Roles.{Role, closes_type, in_expression, another, after_member, declared_name, Roles, each, type_roles, roles, roles_listed}
use Rattle.cs_grammar.specs.Roles.{roles_after_commas, roles_of_bounds, some_roles, comma_roles, each_after, between, brackets_roles, declarator_roles}
use Rattle.cs_grammar.specs.Roles.{value_roles, constant_roles, initial_roles, initials_roles, further_initials_roles, first_value_roles, declared_roles}
use Rattle.cs_unsupported.specs.declared.members.Phase.{Phase}
use Rattle.cs_unsupported.specs.declared.members.Phase.TheVariants.{Outside, Declared}
use Rattle.cs_unsupported.specs.declared.members.Last.{Last}
use Rattle.cs_unsupported.specs.declared.members.Last.TheVariants as last
use Rattle.cs_unsupported.specs.Spots.{Spot, name_after, punctuator_step, step, is_declared}

-- the role is that of what follows a member's declarator
abbrev pub is_member : Role → Bool
is_member after_member = true
is_member other = false

-- after a member's declarator a semicolon is allowed, and has that role; no token has it elsewhere. What is allowed continues with
-- tokens that W allows
abbrev pub Reported : (Kinds → Type 0) → Phase → TokenKind → Role → Type 0
Reported W Declared next role = ((more : Kinds) × W (token.Punctuator punctuator.Semicolon ∷ more))
    × (next ≡ token.Punctuator punctuator.Semicolon → is_member role ≡ true)
Reported W phase next role = is_member role ≡ false

-- the same for each of some tokens, from this spot on
abbrev pub Trace : (Kinds → Type 0) → Spot → Kinds → Roles → Type 0
Trace W s [] [] = is_declared s.phase ≡ false
Trace W s [] (role ∷ roles) = ⊥
Trace W s (next ∷ tokens) [] = ⊥
Trace W s (next ∷ tokens) (role ∷ roles) = Reported W s.phase next role × Trace (λ more. W (next ∷ more)) (step next s) tokens roles

abbrev pub spot : Phase → Last → List Phase → Spot
spot phase following around = record { phase = phase; following = following; around = around }

-- the same outside of members, whatever the last tokens are
abbrev pub Calm : (Kinds → Type 0) → List Phase → Kinds → Roles → Type 0
Calm W around tokens roles = (following : Last) → Trace W (spot Outside following around) tokens roles

-- the punctuator isn't a bracket
abbrev pub is_plain : Punctuator → Bool
is_plain punctuator.OpenBrace = false
is_plain punctuator.OpenParenthesis = false
is_plain punctuator.OpenBracket = false
is_plain punctuator.CloseBrace = false
is_plain punctuator.CloseParenthesis = false
is_plain punctuator.CloseBracket = false
is_plain other = true

plain_punctuator : (W : Kinds → Type 0) (s : List Phase) (m : Punctuator) → is_plain m ≡ true
    → (ts : Kinds) (rs : Roles) (b : Last) → Trace W (spot Outside last.Other s) ts rs → Trace W (punctuator_step m (spot Outside b s)) ts rs
plain_punctuator W s punctuator.OpenBrace e ts rs b h = absurd (false≢true e)
plain_punctuator W s punctuator.OpenParenthesis e ts rs b h = absurd (false≢true e)
plain_punctuator W s punctuator.OpenBracket e ts rs b h = absurd (false≢true e)
plain_punctuator W s punctuator.CloseBrace e ts rs b h = absurd (false≢true e)
plain_punctuator W s punctuator.CloseParenthesis e ts rs b h = absurd (false≢true e)
plain_punctuator W s punctuator.CloseBracket e ts rs b h = absurd (false≢true e)
plain_punctuator W s _ e ts rs b h = h

plain_step : (s : Step) → is_plain (step_punctuator s) ≡ true
plain_step Up = refl
plain_step Down = refl

plain_prefix : (op : PrefixOp) → is_plain (prefix_punctuator op) ≡ true
plain_prefix before.Address = refl
plain_prefix _ = refl

plain_infix : (op : InfixOp) → is_plain (infix_punctuator op) ≡ true
plain_infix operator.Or = refl
plain_infix _ = refl

plain_assign : (op : AssignOp) → is_plain (assign_punctuator op) ≡ true
plain_assign assign.Plain = refl
plain_assign _ = refl

integer_step : (W : Kinds → Type 0) (s : List Phase) (k : IntegerWord) (ts : Kinds) (rs : Roles) (b : Last) → Trace W (spot Outside last.Other s) ts rs
    → Trace W (step (integer_word_text k) (spot Outside b s)) ts rs
integer_step W s Char ts rs b h = h
integer_step W s Short ts rs b h = h
integer_step W s Int ts rs b h = h
integer_step W s Long ts rs b h = h
integer_step W s Signed ts rs b h = h
integer_step W s Unsigned ts rs b h = h

-- the words of pointers, which have this role
pub pointers_calm : (r : Role) → is_member r ≡ false → (W : Kinds → Type 0) (s : List Phase) (ps : List PointerWord) (ts : Kinds) (rs : Roles)
    → Calm (λ y. W (pointers_text ps y)) s ts rs → Calm W s (pointers_text ps ts) (each r (pointers_text ps []) rs)
pointers_calm r e W s [] ts rs h = h
pointers_calm r e W s (pointer.Star ∷ ps) ts rs h = λ b. (e, pointers_calm r e (λ y. W (token.Punctuator punctuator.Star ∷ y)) s ps ts rs h last.Other)
pointers_calm r e W s (pointer.Const ∷ ps) ts rs h = λ b. (e, pointers_calm r e (λ y. W (token.Keyword keyword.Const ∷ y)) s ps ts rs h last.Other)

-- a word of a type
pub word_calm : (r : Role) → is_member r ≡ false → (W : Kinds → Type 0) (s : List Phase) (w : TypeWord) (ts : Kinds) (rs : Roles)
    → Calm (λ y. W (type_word_text w y)) s ts rs → Calm W s (type_word_text w ts) (each r (type_word_text w []) rs)
word_calm r e W s word.Const ts rs h = λ b. (e, h last.Other)
word_calm r e W s (word.Integer k) ts rs h = λ b. (e, integer_step (λ y. W (integer_word_text k ∷ y)) s k ts rs b (h last.Other))
word_calm r e W s word.Void ts rs h = λ b. (e, h last.Other)
word_calm r e W s (word.Typedef n) ts rs h = λ b. (e, h (name_after b))
word_calm r e W s (word.Struct n) ts rs h = λ b. (e, (e, h last.StructTag))
word_calm r e W s (word.Enum n) ts rs h = λ b. (e, (e, h last.Other))

-- the words and pointers of a type between parentheses
type_calm : (W : Kinds → Type 0) (s : List Phase) (ws : List TypeWord) (ps : List PointerWord) (ts : Kinds) (rs : Roles)
    → Calm (λ y. W (words_text ws (pointers_text ps y))) s ts rs → Calm W s (words_text ws (pointers_text ps ts)) (type_roles ws ps rs)
type_calm W s [] ps ts rs h = pointers_calm in_expression refl W s ps ts rs h
type_calm W s (word.Const ∷ ws) ps ts rs h = λ b. (refl, type_calm (λ y. W (token.Keyword keyword.Const ∷ y)) s ws ps ts rs h last.Other)
type_calm W s (word.Integer k ∷ ws) ps ts rs h =
    λ b. (
      refl,
      integer_step (λ y. W (integer_word_text k ∷ y)) s k (words_text ws (pointers_text ps ts)) (type_roles ws ps rs) b
          (type_calm (λ y. W (integer_word_text k ∷ y)) s ws ps ts rs h last.Other),
    )
type_calm W s (word.Void ∷ ws) ps ts rs h = λ b. (refl, type_calm (λ y. W (token.Keyword keyword.Void ∷ y)) s ws ps ts rs h last.Other)
type_calm W s (word.Typedef n ∷ ws) ps ts rs h = λ b. (refl, type_calm (λ y. W (token.Name n ∷ y)) s ws ps ts rs h (name_after b))
type_calm W s (word.Struct n ∷ ws) ps ts rs h = λ b.
    (refl, (refl, type_calm (λ y. W (token.Keyword keyword.Struct ∷ token.Name n ∷ y)) s ws ps ts rs h last.StructTag))
type_calm W s (word.Enum n ∷ ws) ps ts rs h = λ b.
    (refl, (refl, type_calm (λ y. W (token.Keyword keyword.Enum ∷ token.Name n ∷ y)) s ws ps ts rs h last.Other))

abbrev opening : TokenKind
opening = token.Punctuator punctuator.OpenParenthesis

abbrev closing : TokenKind
closing = token.Punctuator punctuator.CloseParenthesis

abbrev bracket : TokenKind
bracket = token.Punctuator punctuator.OpenBracket

abbrev bracketed : TokenKind
bracketed = token.Punctuator punctuator.CloseBracket

mutual
  pub expression_calm : (W : Kinds → Type 0) (s : List Phase) (e : Written) (ts : Kinds) (rs : Roles) → Calm (λ y. W (text e y)) s ts rs
      → Calm W s (text e ts) (roles e rs)
  expression_calm W s (Named n) ts rs h = λ b. (refl, h (name_after b))
  expression_calm W s (Numeral n) ts rs h = λ b. (refl, h last.Other)
  expression_calm W s (Character v) ts rs h = λ b. (refl, h last.Other)
  expression_calm W s (Literal x) ts rs h = λ b. (refl, h last.Other)
  expression_calm W s (Enclosed i) ts rs h =
      λ b. (refl, expression_calm (λ y. W (opening ∷ y)) (Outside ∷ s) i (closing ∷ ts) (in_expression ∷ rs) (λ c. (refl, h last.Other)) last.Other)
  expression_calm W s (Index a n) ts rs h =
      expression_calm W s a (bracket ∷ text n (bracketed ∷ ts)) (in_expression ∷ roles n (in_expression ∷ rs))
      (λ b. (
        refl,
        expression_calm (λ y. W (text a (bracket ∷ y))) (Outside ∷ s) n (bracketed ∷ ts) (in_expression ∷ rs) (λ c. (refl, h last.Other)) last.Other,
      ))
  expression_calm W s (Call f es) ts rs h =
      expression_calm W s f (opening ∷ listed es (closing ∷ ts)) (in_expression ∷ roles_listed es (in_expression ∷ rs))
      (λ b. (
        refl,
        listed_calm (λ y. W (text f (opening ∷ y))) (Outside ∷ s) es (closing ∷ ts) (in_expression ∷ rs) (λ c. (refl, h last.Other)) last.Other,
      ))
  expression_calm W s (Member o n) ts rs h =
      expression_calm W s o (token.Punctuator punctuator.Dot ∷ token.Name n ∷ ts) (in_expression ∷ in_expression ∷ rs)
      (λ b. (refl, (refl, h last.Other)))
  expression_calm W s (Arrow o n) ts rs h =
      expression_calm W s o (token.Punctuator punctuator.Arrow ∷ token.Name n ∷ ts) (in_expression ∷ in_expression ∷ rs)
      (λ b. (refl, (refl, h last.Other)))
  expression_calm W s (StepAfter t o) ts rs h =
      expression_calm W s o (token.Punctuator (step_punctuator t) ∷ ts) (in_expression ∷ rs)
      (λ b.
      (refl, plain_punctuator (λ y. W (text o (token.Punctuator (step_punctuator t) ∷ y))) s (step_punctuator t) (plain_step t) ts rs b (h last.Other)))
  expression_calm W s (StepBefore t o) ts rs h =
      λ b. (
        refl,
        plain_punctuator (λ y. W (token.Punctuator (step_punctuator t) ∷ y)) s (step_punctuator t) (plain_step t) (text o ts) (roles o rs) b
            (expression_calm (λ y. W (token.Punctuator (step_punctuator t) ∷ y)) s o ts rs h last.Other),
      )
  expression_calm W s (Prefix op o) ts rs h =
      λ b. (
        refl,
        plain_punctuator (λ y. W (token.Punctuator (prefix_punctuator op) ∷ y)) s (prefix_punctuator op) (plain_prefix op) (text o ts) (roles o rs) b
            (expression_calm (λ y. W (token.Punctuator (prefix_punctuator op) ∷ y)) s o ts rs h last.Other),
      )
  expression_calm W s (SizeOf o) ts rs h = λ b. (refl, expression_calm (λ y. W (token.Keyword keyword.Sizeof ∷ y)) s o ts rs h last.Other)
  expression_calm W s (SizeOfType ws ps bs) ts rs h =
      λ b. (
        refl,
        (
          refl,
          type_calm (λ y. W (token.Keyword keyword.Sizeof ∷ opening ∷ y)) (Outside ∷ s) ws ps (bounds_text bs (closing ∷ ts))
              (roles_of_bounds bs (closes_type ∷ rs))
              (bounds_calm (λ y. W (token.Keyword keyword.Sizeof ∷ opening ∷ words_text ws (pointers_text ps y))) (Outside ∷ s) bs (closing ∷ ts)
              (closes_type ∷ rs) (λ c. (refl, h last.Other))) last.Other,
        ),
      )
  expression_calm W s (Cast ws ps bs o) ts rs h =
      λ b. (
        refl,
        type_calm (λ y. W (opening ∷ y)) (Outside ∷ s) ws ps (bounds_text bs (closing ∷ text o ts)) (roles_of_bounds bs (closes_type ∷ roles o rs))
            (bounds_calm (λ y. W (opening ∷ words_text ws (pointers_text ps y))) (Outside ∷ s) bs (closing ∷ text o ts) (closes_type ∷ roles o rs)
            (λ c. (refl, expression_calm (λ y. W (opening ∷ words_text ws (pointers_text ps (bounds_text bs (closing ∷ y))))) s o ts rs h last.Other)))
            last.Other,
      )
  expression_calm W s (Infix op l r) ts rs h =
      expression_calm W s l (token.Punctuator (infix_punctuator op) ∷ text r ts) (in_expression ∷ roles r rs)
      (λ b. (
        refl,
        plain_punctuator (λ y. W (text l (token.Punctuator (infix_punctuator op) ∷ y))) s (infix_punctuator op) (plain_infix op) (text r ts) (roles r rs) b
            (expression_calm (λ y. W (text l (token.Punctuator (infix_punctuator op) ∷ y))) s r ts rs h last.Other),
      ))
  expression_calm W s (Choice t o e) ts rs h =
      expression_calm W s t (token.Punctuator punctuator.Question ∷ text o (token.Punctuator punctuator.Colon ∷ text e ts))
      (in_expression ∷ roles o (in_expression ∷ roles e rs))
      (λ b. (
        refl,
        expression_calm (λ y. W (text t (token.Punctuator punctuator.Question ∷ y))) s o (token.Punctuator punctuator.Colon ∷ text e ts)
            (in_expression ∷ roles e rs)
            (λ c. (
              refl,
              expression_calm (λ y. W (text t (token.Punctuator punctuator.Question ∷ text o (token.Punctuator punctuator.Colon ∷ y)))) s e ts rs h
                  last.Other,
            )) last.Other,
      ))
  expression_calm W s (Assign op l r) ts rs h =
      expression_calm W s l (token.Punctuator (assign_punctuator op) ∷ text r ts) (in_expression ∷ roles r rs)
      (λ b. (
        refl,
        plain_punctuator (λ y. W (text l (token.Punctuator (assign_punctuator op) ∷ y))) s (assign_punctuator op) (plain_assign op) (text r ts) (roles r rs)
            b
            (expression_calm (λ y. W (text l (token.Punctuator (assign_punctuator op) ∷ y))) s r ts rs h last.Other),
      ))
  expression_calm W s (Comma l r) ts rs h =
      expression_calm W s l (token.Punctuator punctuator.Comma ∷ text r ts) (in_expression ∷ roles r rs)
      (λ b. (refl, expression_calm (λ y. W (text l (token.Punctuator punctuator.Comma ∷ y))) s r ts rs h last.Other))

  listed_calm : (W : Kinds → Type 0) (s : List Phase) (es : WrittenList) (ts : Kinds) (rs : Roles) → Calm (λ y. W (listed es y)) s ts rs
      → Calm W s (listed es ts) (roles_listed es rs)
  listed_calm W s End ts rs h = h
  listed_calm W s (More e es) ts rs h = expression_calm W s e (after_commas es ts) (roles_after_commas es rs) (commas_calm (λ y. W (text e y)) s es ts rs h)

  commas_calm : (W : Kinds → Type 0) (s : List Phase) (es : WrittenList) (ts : Kinds) (rs : Roles) → Calm (λ y. W (after_commas es y)) s ts rs
      → Calm W s (after_commas es ts) (roles_after_commas es rs)
  commas_calm W s End ts rs h = h
  commas_calm W s (More e es) ts rs h =
      λ b. (
        refl,
        expression_calm (λ y. W (token.Punctuator punctuator.Comma ∷ y)) s e (after_commas es ts) (roles_after_commas es rs)
            (commas_calm (λ y. W (token.Punctuator punctuator.Comma ∷ text e y)) s es ts rs h) last.Other,
      )

  bounds_calm : (W : Kinds → Type 0) (s : List Phase) (es : WrittenList) (ts : Kinds) (rs : Roles) → Calm (λ y. W (bounds_text es y)) s ts rs
      → Calm W s (bounds_text es ts) (roles_of_bounds es rs)
  bounds_calm W s End ts rs h = h
  bounds_calm W s (More e es) ts rs h =
      λ b. (
        refl,
        expression_calm (λ y. W (bracket ∷ y)) (Outside ∷ s) e (bracketed ∷ bounds_text es ts) (in_expression ∷ roles_of_bounds es rs)
            (λ c. (refl, bounds_calm (λ y. W (bracket ∷ text e (bracketed ∷ y))) s es ts rs h last.Other)) last.Other,
      )

pub some_calm : (W : Kinds → Type 0) (s : List Phase) (e : Option Written) (ts : Kinds) (rs : Roles) → Calm (λ y. W (some_text e y)) s ts rs
    → Calm W s (some_text e ts) (some_roles e rs)
some_calm W s None ts rs h = h
some_calm W s (Some e) ts rs h = expression_calm W s e ts rs h

pub comma_calm : (W : Kinds → Type 0) (s : List Phase) (comma : Bool) (ts : Kinds) (rs : Roles) → Calm (λ y. W (comma_text comma y)) s ts rs
    → Calm W s (comma_text comma ts) (comma_roles comma rs)
comma_calm W s false ts rs h = h
comma_calm W s true ts rs h = λ b. (refl, h last.Other)

-- the parts of a list, outside of members
abbrev pub Calms : {A : Type 0} → (A → Kinds → Kinds) → (A → Roles → Roles) → Type 1
Calms {A} g f = (W : Kinds → Type 0) (s : List Phase) (a : A) (ts : Kinds) (rs : Roles) → Calm (λ y. W (g a y)) s ts rs → Calm W s (g a ts) (f a rs)

each_calm : {A : Type 0} (g : A → Kinds → Kinds) (f : A → Roles → Roles) → Calms g f
    → (W : Kinds → Type 0) (s : List Phase) (all : List A) (ts : Kinds) (rs : Roles) → Calm (λ y. W (each_after_comma g all y)) s ts rs
    → Calm W s (each_after_comma g all ts) (each_after another f all rs)
each_calm g f law W s [] ts rs h = h
each_calm g f law W s (a ∷ all) ts rs h =
    λ b. (
      refl,
      law (λ y. W (token.Punctuator punctuator.Comma ∷ y)) s a (each_after_comma g all ts) (each_after another f all rs)
          (each_calm g f law (λ y. W (token.Punctuator punctuator.Comma ∷ g a y)) s all ts rs h) last.Other,
    )

pub list_calm : {A : Type 0} (g : A → Kinds → Kinds) (f : A → Roles → Roles) → Calms g f
    → (W : Kinds → Type 0) (s : List Phase) (all : List A) (ts : Kinds) (rs : Roles) → Calm (λ y. W (with_commas g all y)) s ts rs
    → Calm W s (with_commas g all ts) (between another f all rs)
list_calm g f law W s [] ts rs h = h
list_calm g f law W s (a ∷ all) ts rs h =
    law W s a (each_after_comma g all ts) (each_after another f all rs) (each_calm g f law (λ y. W (g a y)) s all ts rs h)

pub brackets_calm : (W : Kinds → Type 0) (s : List Phase) (bs : List (Option Written)) (ts : Kinds) (rs : Roles)
    → Calm (λ y. W (brackets_text bs y)) s ts rs → Calm W s (brackets_text bs ts) (brackets_roles bs rs)
brackets_calm W s [] ts rs h = h
brackets_calm W s (e ∷ bs) ts rs h =
    λ b. (
      refl,
      some_calm (λ y. W (bracket ∷ y)) (Outside ∷ s) e (bracketed ∷ brackets_text bs ts) (another ∷ brackets_roles bs rs)
          (λ c. (refl, brackets_calm (λ y. W (bracket ∷ some_text e (bracketed ∷ y))) s bs ts rs h last.Other)) last.Other,
    )

pub declarator_calm : Calms declarator_text declarator_roles
declarator_calm W s d ts rs h =
    pointers_calm another refl W s d.pointers (token.Name d.name ∷ brackets_text d.bounds ts) (declared_name ∷ brackets_roles d.bounds rs)
    (λ b. (refl, brackets_calm (λ y. W (pointers_text d.pointers (token.Name d.name ∷ y))) s d.bounds ts rs h (name_after b)))

value_calm : (W : Kinds → Type 0) (s : List Phase) (e : Option Written) (ts : Kinds) (rs : Roles) → Calm (λ y. W (value_text e y)) s ts rs
    → Calm W s (value_text e ts) (value_roles e rs)
value_calm W s None ts rs h = h
value_calm W s (Some e) ts rs h = λ b. (refl, expression_calm (λ y. W (token.Punctuator punctuator.Equal ∷ y)) s e ts rs h last.Other)

pub constant_calm : Calms constant_text constant_roles
constant_calm W s c ts rs h = λ b. (refl, value_calm (λ y. W (token.Name c.name ∷ y)) s c.value ts rs h (name_after b))

mutual
  initial_calm : (W : Kinds → Type 0) (s : List Phase) (i : Initial) (ts : Kinds) (rs : Roles) → Calm (λ y. W (initial_text i y)) s ts rs
      → Trace W (spot Outside last.Other s) (initial_text i ts) (initial_roles i rs)
  initial_calm W s (Single e) ts rs h = expression_calm W s e ts rs h last.Other
  initial_calm W s (Listed items comma) ts rs h = (
    refl,
    initials_calm (λ y. W (token.Punctuator punctuator.OpenBrace ∷ y)) (Outside ∷ s) items
        (comma_text comma (token.Punctuator punctuator.CloseBrace ∷ ts)) (comma_roles comma (another ∷ rs))
        (comma_calm (λ y. W (token.Punctuator punctuator.OpenBrace ∷ initials_text items y)) (Outside ∷ s) comma
        (token.Punctuator punctuator.CloseBrace ∷ ts) (another ∷ rs) (λ c. (refl, h last.Other))),
  )

  initials_calm : (W : Kinds → Type 0) (s : List Phase) (i : Initials) (ts : Kinds) (rs : Roles) → Calm (λ y. W (initials_text i y)) s ts rs
      → Trace W (spot Outside last.Other s) (initials_text i ts) (initials_roles i rs)
  initials_calm W s NoInitial ts rs h = h last.Other
  initials_calm W s (MoreInitials first others) ts rs h =
      initial_calm W s first (further_initials_text others ts) (further_initials_roles others rs)
      (further_calm (λ y. W (initial_text first y)) s others ts rs h)

  further_calm : (W : Kinds → Type 0) (s : List Phase) (i : Initials) (ts : Kinds) (rs : Roles) → Calm (λ y. W (further_initials_text i y)) s ts rs
      → Calm W s (further_initials_text i ts) (further_initials_roles i rs)
  further_calm W s NoInitial ts rs h = h
  further_calm W s (MoreInitials first others) ts rs h =
      λ b. (
        refl,
        initial_calm (λ y. W (token.Punctuator punctuator.Comma ∷ y)) s first (further_initials_text others ts) (further_initials_roles others rs)
            (further_calm (λ y. W (token.Punctuator punctuator.Comma ∷ initial_text first y)) s others ts rs h),
      )

value_first : (W : Kinds → Type 0) (s : List Phase) (i : Option Initial) (ts : Kinds) (rs : Roles) → Calm (λ y. W (first_value_text i y)) s ts rs
    → Calm W s (first_value_text i ts) (first_value_roles i rs)
value_first W s None ts rs h = h
value_first W s (Some i) ts rs h = λ b. (refl, initial_calm (λ y. W (token.Punctuator punctuator.Equal ∷ y)) s i ts rs h)

pub declared_calm : Calms declared_text declared_roles
declared_calm W s d ts rs h =
    declarator_calm W s d.declarator (first_value_text d.initial ts) (first_value_roles d.initial rs)
    (value_first (λ y. W (declarator_text d.declarator y)) s d.initial ts rs h)

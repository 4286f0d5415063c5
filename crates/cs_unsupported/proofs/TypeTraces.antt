-- The tokens of expressions and declarations with their roles: where a parenthesis closes a type. For the contract of
-- `is_after_type`.
use Rattle.std.proofs.Common.{◌≡◌, ℕ, Bool, true, false, IsTrue, List, [], ◌∷◌, refl, sym, subst}
use Rattle.std.proofs.lemmas.Bool.{false≢true}
use Rattle.cs_ast.specs.declared.token.TokenKind.{TokenKind}
use Rattle.cs_ast.specs.declared.token.TokenKind.TheVariants as token
use Rattle.cs_ast.specs.declared.token.Punctuator.{Punctuator}
use Rattle.cs_ast.specs.declared.token.Punctuator.TheVariants as punctuator
use Rattle.cs_ast.specs.declared.raw.operator.Step.{Step}
use Rattle.cs_ast.specs.declared.raw.operator.Step.TheVariants.{Up, Down}
use Rattle.cs_ast.specs.declared.raw.operator.PrefixOp.{PrefixOp}
use Rattle.cs_ast.specs.declared.raw.operator.PrefixOp.TheVariants as before
use Rattle.cs_ast.specs.declared.raw.operator.InfixOp.{InfixOp}
use Rattle.cs_ast.specs.declared.raw.operator.InfixOp.TheVariants as operator
use Rattle.cs_ast.specs.declared.raw.operator.AssignOp.{AssignOp}
use Rattle.cs_ast.specs.declared.raw.operator.AssignOp.TheVariants as assign
use Rattle.cs_ast.specs.declared.raw.written_type.TypeWord.{TypeWord}
use Rattle.cs_ast.specs.declared.raw.written_type.TypeWord.TheVariants as word
use Rattle.cs_ast.specs.declared.raw.written_type.IntegerWord.{IntegerWord}
use Rattle.cs_ast.specs.declared.raw.written_type.IntegerWord.TheVariants.{Char, Short, Int, Long, Signed, Unsigned}
use Rattle.cs_ast.specs.declared.raw.written_type.PointerWord.{PointerWord}
use Rattle.cs_ast.specs.declared.raw.written_type.PointerWord.TheVariants as pointer
use Rattle.cs_ast.specs.RawTree.{Written, WrittenList, Named, Numeral, Character, Literal, Enclosed, Index, Call, Member, Arrow, StepAfter, StepBefore, Prefix}
use Rattle.cs_ast.specs.RawTree.{SizeOf, SizeOfType, Cast, Infix, Choice, Assign, Comma, End, More}
use Rattle.cs_grammar.specs.TypeWords.{Names, is_among, is_type, names_type, named_by}
use Rattle.cs_grammar.specs.Punctuators.{step_punctuator, prefix_punctuator, infix_punctuator, assign_punctuator}
use Rattle.cs_grammar.specs.Levels.{ASSIGN, CHOICE}
use Rattle.cs_grammar.specs.Text.{Kinds, text, listed, after_commas, bounds_text, words_text, pointers_text, type_word_text, integer_word_text}
use Rattle.cs_grammar.specs.Phrases.{IsWell, ArePhrases}
use Rattle.cs_grammar.specs.Roles.{Role, closes_type, in_expression, Roles, each, type_roles, roles, roles_listed, roles_after_commas, roles_of_bounds}
use Rattle.cs_unsupported.specs.declared.types.Following.{Following}
use Rattle.cs_unsupported.specs.declared.types.Following.TheVariants.{Opening, Name, For, Other}
use Rattle.cs_unsupported.specs.Parentheses.{Parens, opening, begun, closes, step}

-- the role is that of the parenthesis after a type
abbrev pub is_closing : Role → Bool
is_closing closes_type = true
is_closing other = false

-- each of some tokens has this role exactly if it closes a type, and the roles after theirs are as given
abbrev pub Trace : Names → (Roles → Type 0) → Parens → Kinds → Roles → Type 0
Trace names E s [] roles = E roles
Trace names E s (next ∷ tokens) [] = ⊥
Trace names E s (next ∷ tokens) (role ∷ roles) = (is_closing role ≡ closes next s.holds) × Trace names E (step names next s) tokens roles

abbrev pub parens : Following → Bool → List Bool → Parens
parens following holds around = record { following = following; holds = holds; around = around }

abbrev pub is_opening : Following → Bool
is_opening Opening = true
is_opening _ = false

-- the same if no type may begin with the next token
abbrev pub Calm : Names → (Roles → Type 0) → Bool → List Bool → Kinds → Roles → Type 0
Calm names E h s tokens roles = (b : Following) → is_opening b ≡ false → Trace names E (parens b h s) tokens roles

-- the same whatever the last token is
abbrev Ever : Names → (Roles → Type 0) → Bool → List Bool → Kinds → Roles → Type 0
Ever names E h s tokens roles = (b : Following) → Trace names E (parens b h s) tokens roles

-- the same if the last token doesn't matter
abbrev pub Quiet : Names → (Roles → Type 0) → Bool → List Bool → Kinds → Roles → Type 0
Quiet names E h s tokens roles = Trace names E (parens Other h s) tokens roles

-- a parenthesis after it may hold a type
abbrev is_apart : Following → Bool
is_apart Name = false
is_apart For = false
is_apart _ = true

opened_apart : (b : Following) → is_apart (opening b) ≡ true
opened_apart Opening = refl
opened_apart Name = refl
opened_apart For = refl
opened_apart Other = refl

apart_opens : (b : Following) → is_apart b ≡ true → opening b ≡ Opening
apart_opens Opening e = refl
apart_opens Name e = absurd (false≢true e)
apart_opens For e = absurd (false≢true e)
apart_opens Other e = refl

-- no type begins with the word
kept_by : (b : Following) (begins h : Bool) → begins ≡ false → begun b begins h ≡ h
kept_by Opening false h e = refl
kept_by Opening true h e = absurd (false≢true (sym e))
kept_by Name begins h e = refl
kept_by For begins h e = refl
kept_by Other begins h e = refl

-- or none may begin there
kept_there : (b : Following) (begins h : Bool) → is_opening b ≡ false → begun b begins h ≡ h
kept_there Opening begins h e = absurd (false≢true (sym e))
kept_there Name begins h e = refl
kept_there For begins h e = refl
kept_there Other begins h e = refl

-- after a word with which no type begins
pub by_word : (names : Names) (E : Roles → Type 0) (b d : Following) (begins h : Bool) (s : List Bool) (ts : Kinds) (rs : Roles) → begins ≡ false
    → Trace names E (parens d h s) ts rs → Trace names E (parens d (begun b begins h) s) ts rs
by_word names E b d begins h s ts rs e t = subst (λ (x : Bool). Trace names E (parens d x s) ts rs) (sym (kept_by b begins h e)) t

pub there_word : (names : Names) (E : Roles → Type 0) (b d : Following) (begins h : Bool) (s : List Bool) (ts : Kinds) (rs : Roles) → is_opening b ≡ false
    → Trace names E (parens d h s) ts rs → Trace names E (parens d (begun b begins h) s) ts rs
there_word names E b d begins h s ts rs e t = subst (λ (x : Bool). Trace names E (parens d x s) ts rs) (sym (kept_there b begins h e)) t

-- after a parenthesis that isn't after a name or `for`
by_opening : (names : Names) (E : Roles → Type 0) (b : Following) (h : Bool) (s : List Bool) (ts : Kinds) (rs : Roles) → is_apart b ≡ true
    → Trace names E (parens Opening h s) ts rs → Trace names E (parens (opening b) h s) ts rs
by_opening names E b h s ts rs e t = subst (λ (x : Following). Trace names E (parens x h s) ts rs) (sym (apart_opens b e)) t

-- the punctuator isn't a parenthesis
abbrev is_plain : Punctuator → Bool
is_plain punctuator.OpenParenthesis = false
is_plain punctuator.CloseParenthesis = false
is_plain other = true

plain_punctuator : (names : Names) (E : Roles → Type 0) (m : Punctuator) (b : Following) (h : Bool) (s : List Bool) (ts : Kinds) (rs : Roles)
    → is_plain m ≡ true → Quiet names E h s ts rs → Trace names E (parens b h s) (token.Punctuator m ∷ ts) (in_expression ∷ rs)
plain_punctuator names E punctuator.OpenParenthesis b h s ts rs e t = absurd (false≢true e)
plain_punctuator names E punctuator.CloseParenthesis b h s ts rs e t = absurd (false≢true e)
plain_punctuator names E _ b h s ts rs e t = (refl, t)

plain_step : (t : Step) → is_plain (step_punctuator t) ≡ true
plain_step Up = refl
plain_step Down = refl

plain_prefix : (op : PrefixOp) → is_plain (prefix_punctuator op) ≡ true
plain_prefix before.Address = refl
plain_prefix _ = refl

plain_infix : (op : InfixOp) → is_plain (infix_punctuator op) ≡ true
plain_infix operator.Or = refl
plain_infix _ = refl

plain_assign : (op : AssignOp) → is_plain (assign_punctuator op) ≡ true
plain_assign assign.Plain = refl
plain_assign _ = refl

integer_there : (names : Names) (E : Roles → Type 0) (r : Role) → is_closing r ≡ false
    → (k : IntegerWord) (b : Following) (h : Bool) (s : List Bool) (ts : Kinds) (rs : Roles) → is_opening b ≡ false → Quiet names E h s ts rs
    → Trace names E (parens b h s) (integer_word_text k ∷ ts) (r ∷ rs)
integer_there names E r e Char b h s ts rs o t = (e, there_word names E b Other true h s ts rs o t)
integer_there names E r e Short b h s ts rs o t = (e, there_word names E b Other true h s ts rs o t)
integer_there names E r e Int b h s ts rs o t = (e, there_word names E b Other true h s ts rs o t)
integer_there names E r e Long b h s ts rs o t = (e, there_word names E b Other true h s ts rs o t)
integer_there names E r e Signed b h s ts rs o t = (e, there_word names E b Other true h s ts rs o t)
integer_there names E r e Unsigned b h s ts rs o t = (e, there_word names E b Other true h s ts rs o t)

-- the words of pointers, which have this role
pub pointers_calm : (names : Names) (E : Roles → Type 0) (r : Role) → is_closing r ≡ false
    → (h : Bool) (s : List Bool) (ps : List PointerWord) (ts : Kinds) (rs : Roles) → Calm names E h s ts rs
    → Calm names E h s (pointers_text ps ts) (each r (pointers_text ps []) rs)
pointers_calm names E r e h s [] ts rs t = t
pointers_calm names E r e h s (pointer.Star ∷ ps) ts rs t = λ b o. (e, pointers_calm names E r e h s ps ts rs t Other refl)
pointers_calm names E r e h s (pointer.Const ∷ ps) ts rs t =
    λ b o.
    (e, there_word names E b Other true h s (pointers_text ps ts) (each r (pointers_text ps []) rs) o (pointers_calm names E r e h s ps ts rs t Other refl))

-- a word of a type where none of an expression begins
pub word_calm : (names : Names) (E : Roles → Type 0) (r : Role) → is_closing r ≡ false
    → (h : Bool) (s : List Bool) (w : TypeWord) (ts : Kinds) (rs : Roles) → Calm names E h s ts rs
    → Calm names E h s (type_word_text w ts) (each r (type_word_text w []) rs)
word_calm names E r e h s word.Const ts rs t = λ b o. (e, there_word names E b Other true h s ts rs o (t Other refl))
word_calm names E r e h s (word.Integer k) ts rs t = λ b o. integer_there names E r e k b h s ts rs o (t Other refl)
word_calm names E r e h s word.Void ts rs t = λ b o. (e, there_word names E b Other true h s ts rs o (t Other refl))
word_calm names E r e h s (word.Typedef n) ts rs t = λ b o. (e, there_word names E b Name (is_among names n) h s ts rs o (t Name refl))
word_calm names E r e h s (word.Struct n) ts rs t =
    λ b o. (e, there_word names E b Other true h s (token.Name n ∷ ts) (r ∷ rs) o (e, t Name refl))
word_calm names E r e h s (word.Enum n) ts rs t =
    λ b o. (e, there_word names E b Other true h s (token.Name n ∷ ts) (r ∷ rs) o (e, t Name refl))

-- more words and pointers of a type between parentheses
words_calm : (names : Names) (E : Roles → Type 0) (h : Bool) (s : List Bool) (ws : List TypeWord) (ps : List PointerWord) (ts : Kinds) (rs : Roles)
    → Calm names E h s ts rs → Calm names E h s (words_text ws (pointers_text ps ts)) (type_roles ws ps rs)
words_calm names E h s [] ps ts rs t = pointers_calm names E in_expression refl h s ps ts rs t
words_calm names E h s (word.Const ∷ ws) ps ts rs t = λ b o.
    (refl, there_word names E b Other true h s (words_text ws (pointers_text ps ts)) (type_roles ws ps rs) o (words_calm names E h s ws ps ts rs t Other refl))
words_calm names E h s (word.Integer k ∷ ws) ps ts rs t = λ b o.
    integer_there names E in_expression refl k b h s (words_text ws (pointers_text ps ts)) (type_roles ws ps rs) o
    (words_calm names E h s ws ps ts rs t Other refl)
words_calm names E h s (word.Void ∷ ws) ps ts rs t = λ b o.
    (refl, there_word names E b Other true h s (words_text ws (pointers_text ps ts)) (type_roles ws ps rs) o (words_calm names E h s ws ps ts rs t Other refl))
words_calm names E h s (word.Typedef n ∷ ws) ps ts rs t =
    λ b o. (
      refl,
      there_word names E b Name (is_among names n) h s (words_text ws (pointers_text ps ts)) (type_roles ws ps rs) o
          (words_calm names E h s ws ps ts rs t Name refl),
    )
words_calm names E h s (word.Struct n ∷ ws) ps ts rs t =
    λ b o. (
      refl,
      there_word names E b Other true h s (token.Name n ∷ words_text ws (pointers_text ps ts)) (in_expression ∷ type_roles ws ps rs) o
          (refl, words_calm names E h s ws ps ts rs t Name refl),
    )
words_calm names E h s (word.Enum n ∷ ws) ps ts rs t =
    λ b o. (
      refl,
      there_word names E b Other true h s (token.Name n ∷ words_text ws (pointers_text ps ts)) (in_expression ∷ type_roles ws ps rs) o
          (refl, words_calm names E h s ws ps ts rs t Name refl),
    )

pub among_alone : (names : Names) (n : List ℕ) (ws : List TypeWord) → IsTrue (names_type names (word.Typedef n ∷ ws)) → is_among names n ≡ true
among_alone names n [] is = is
among_alone names n (w ∷ ws) is = absurd (false≢true is)

-- a typedef name at the beginning of a type is one of the names
first_among : (names : Names) (n : List ℕ) (ws : List TypeWord) → IsTrue (is_type names (word.Typedef n ∷ ws)) → is_among names n ≡ true
first_among names n ws is = among_alone names n (named_by ws) is

by_name : (names : Names) (E : Roles → Type 0) (n : List ℕ) (s : List Bool) (ts : Kinds) (rs : Roles) → is_among names n ≡ true
    → Trace names E (parens Name true s) ts rs → Trace names E (parens Name (begun Opening (is_among names n) false) s) ts rs
by_name names E n s ts rs e t = subst (λ (x : Bool). Trace names E (parens Name (begun Opening x false) s) ts rs) (sym e) t

integer_opens : (names : Names) (E : Roles → Type 0) (k : IntegerWord) (s : List Bool) (ts : Kinds) (rs : Roles) → Quiet names E true s ts rs
    → Trace names E (parens Opening false s) (integer_word_text k ∷ ts) (in_expression ∷ rs)
integer_opens names E Char s ts rs t = (refl, t)
integer_opens names E Short s ts rs t = (refl, t)
integer_opens names E Int s ts rs t = (refl, t)
integer_opens names E Long s ts rs t = (refl, t)
integer_opens names E Signed s ts rs t = (refl, t)
integer_opens names E Unsigned s ts rs t = (refl, t)

-- a type after its parenthesis, which holds a type from the first word on
type_opens : (names : Names) (E : Roles → Type 0) (s : List Bool) (ws : List TypeWord) (ps : List PointerWord) (ts : Kinds) (rs : Roles)
    → IsTrue (is_type names ws) → Calm names E true s ts rs
    → Trace names E (parens Opening false s) (words_text ws (pointers_text ps ts)) (type_roles ws ps rs)
type_opens names E s [] ps ts rs is t = absurd (false≢true is)
type_opens names E s (word.Const ∷ ws) ps ts rs is t = (refl, words_calm names E true s ws ps ts rs t Other refl)
type_opens names E s (word.Integer k ∷ ws) ps ts rs is t =
    integer_opens names E k s (words_text ws (pointers_text ps ts)) (type_roles ws ps rs) (words_calm names E true s ws ps ts rs t Other refl)
type_opens names E s (word.Void ∷ ws) ps ts rs is t = (refl, words_calm names E true s ws ps ts rs t Other refl)
type_opens names E s (word.Typedef n ∷ ws) ps ts rs is t = (
  refl,
  by_name names E n s (words_text ws (pointers_text ps ts)) (type_roles ws ps rs) (first_among names n ws is)
      (words_calm names E true s ws ps ts rs t Name refl),
)
type_opens names E s (word.Struct n ∷ ws) ps ts rs is t = (refl, (refl, words_calm names E true s ws ps ts rs t Name refl))
type_opens names E s (word.Enum n ∷ ws) ps ts rs is t = (refl, (refl, words_calm names E true s ws ps ts rs t Name refl))

abbrev open_punctuator : TokenKind
open_punctuator = token.Punctuator punctuator.OpenParenthesis

abbrev close_punctuator : TokenKind
close_punctuator = token.Punctuator punctuator.CloseParenthesis

abbrev bracket : TokenKind
bracket = token.Punctuator punctuator.OpenBracket

abbrev bracketed : TokenKind
bracketed = token.Punctuator punctuator.CloseBracket

mutual
  pub expression_trace : (names : Names) (E : Roles → Type 0) (h : Bool) (s : List Bool) (e : Written) (ts : Kinds) (rs : Roles) → IsWell names e
      → Calm names E h s ts rs → (b : Following) → is_apart b ≡ true → Trace names E (parens b h s) (text e ts) (roles e rs)
  expression_trace names E h s (Named n) ts rs is t b a = (refl, by_word names E b Name (is_among names n) h s ts rs is (t Name refl))
  expression_trace names E h s (Numeral n) ts rs is t b a = (refl, t Other refl)
  expression_trace names E h s (Character v) ts rs is t b a = (refl, t Other refl)
  expression_trace names E h s (Literal x) ts rs is t b a = (refl, t Other refl)
  expression_trace names E h s (Enclosed i) ts rs is t b a = (
    refl,
    expression_trace names E false (h ∷ s) i (close_punctuator ∷ ts) (in_expression ∷ rs) is (λ c o. (refl, t Other refl)) (opening b) (opened_apart b),
  )
  expression_trace names E h s (Index array n) ts rs is t b a =
      expression_trace names E h s array (bracket ∷ text n (bracketed ∷ ts)) (in_expression ∷ roles n (in_expression ∷ rs)) is.1
      (λ c o. (refl, expression_trace names E h s n (bracketed ∷ ts) (in_expression ∷ rs) is.2 (λ d p. (refl, t Other refl)) Other refl)) b a
  expression_trace names E h s (Call f es) ts rs is t b a =
      expression_trace names E h s f (open_punctuator ∷ listed es (close_punctuator ∷ ts)) (in_expression ∷ roles_listed es (in_expression ∷ rs)) is.1
      (λ c o. (
        refl,
        listed_trace names E false (h ∷ s) es (close_punctuator ∷ ts) (in_expression ∷ rs) is.2 (λ d. (refl, t Other refl)) (opening c) (opened_apart c),
      )) b a
  expression_trace names E h s (Member o n) ts rs is t b a =
      expression_trace names E h s o (token.Punctuator punctuator.Dot ∷ token.Name n ∷ ts) (in_expression ∷ in_expression ∷ rs) is.1
      (λ c p. (refl, (refl, t Name refl))) b a
  expression_trace names E h s (Arrow o n) ts rs is t b a =
      expression_trace names E h s o (token.Punctuator punctuator.Arrow ∷ token.Name n ∷ ts) (in_expression ∷ in_expression ∷ rs) is.1
      (λ c p. (refl, (refl, t Name refl))) b a
  expression_trace names E h s (StepAfter i o) ts rs is t b a =
      expression_trace names E h s o (token.Punctuator (step_punctuator i) ∷ ts) (in_expression ∷ rs) is.1
      (λ c p. plain_punctuator names E (step_punctuator i) c h s ts rs (plain_step i) (t Other refl)) b a
  expression_trace names E h s (StepBefore i o) ts rs is t b a =
      plain_punctuator names E (step_punctuator i) b h s (text o ts) (roles o rs) (plain_step i) (expression_trace names E h s o ts rs is.1 t Other refl)
  expression_trace names E h s (Prefix op o) ts rs is t b a =
      plain_punctuator names E (prefix_punctuator op) b h s (text o ts) (roles o rs) (plain_prefix op) (expression_trace names E h s o ts rs is.1 t Other refl)
  expression_trace names E h s (SizeOf o) ts rs is t b a =
      (refl, by_word names E b Other false h s (text o ts) (roles o rs) refl (expression_trace names E h s o ts rs is.1 t Other refl))
  expression_trace names E h s (SizeOfType ws ps bs) ts rs is t b a = (
    refl,
    by_word names E b Other false h s (open_punctuator ∷ words_text ws (pointers_text ps (bounds_text bs (close_punctuator ∷ ts))))
        (in_expression ∷ type_roles ws ps (roles_of_bounds bs (closes_type ∷ rs))) refl (
          refl,
          type_opens names E (h ∷ s) ws ps (bounds_text bs (close_punctuator ∷ ts)) (roles_of_bounds bs (closes_type ∷ rs)) is.0
              (bounds_calm names E true (h ∷ s) bs (close_punctuator ∷ ts) (closes_type ∷ rs) is.2 (λ c o. (refl, t Other refl))),
        ),
  )
  expression_trace names E h s (Cast ws ps bs o) ts rs is t b a = (
    refl,
    by_opening names E b false (h ∷ s) (words_text ws (pointers_text ps (bounds_text bs (close_punctuator ∷ text o ts))))
        (type_roles ws ps (roles_of_bounds bs (closes_type ∷ roles o rs))) a
        (type_opens names E (h ∷ s) ws ps (bounds_text bs (close_punctuator ∷ text o ts)) (roles_of_bounds bs (closes_type ∷ roles o rs)) is.0
        (bounds_calm names E true (h ∷ s) bs (close_punctuator ∷ text o ts) (closes_type ∷ roles o rs) is.2
        (λ c p. (refl, expression_trace names E h s o ts rs is.4 t Other refl)))),
  )
  expression_trace names E h s (Infix op l r) ts rs is t b a =
      expression_trace names E h s l (token.Punctuator (infix_punctuator op) ∷ text r ts) (in_expression ∷ roles r rs) is.1
      (λ c o.
      plain_punctuator names E (infix_punctuator op) c h s (text r ts) (roles r rs) (plain_infix op)
      (expression_trace names E h s r ts rs is.3 t Other refl)) b a
  expression_trace names E h s (Choice q l r) ts rs is t b a =
      expression_trace names E h s q (token.Punctuator punctuator.Question ∷ text l (token.Punctuator punctuator.Colon ∷ text r ts))
      (in_expression ∷ roles l (in_expression ∷ roles r rs)) is.1
      (λ c o. (
        refl,
        expression_trace names E h s l (token.Punctuator punctuator.Colon ∷ text r ts) (in_expression ∷ roles r rs) is.2
            (λ d p. (refl, expression_trace names E h s r ts rs is.4 t Other refl)) Other refl,
      )) b a
  expression_trace names E h s (Assign op l r) ts rs is t b a =
      expression_trace names E h s l (token.Punctuator (assign_punctuator op) ∷ text r ts) (in_expression ∷ roles r rs) is.1
      (λ c o.
      plain_punctuator names E (assign_punctuator op) c h s (text r ts) (roles r rs) (plain_assign op)
      (expression_trace names E h s r ts rs is.3 t Other refl)) b a
  expression_trace names E h s (Comma l r) ts rs is t b a =
      expression_trace names E h s l (token.Punctuator punctuator.Comma ∷ text r ts) (in_expression ∷ roles r rs) is.0
      (λ c o. (refl, expression_trace names E h s r ts rs is.2 t Other refl)) b a

  listed_trace : (names : Names) (E : Roles → Type 0) (h : Bool) (s : List Bool) (es : WrittenList) (ts : Kinds) (rs : Roles) → ArePhrases names ASSIGN es
      → Ever names E h s ts rs → (b : Following) → is_apart b ≡ true → Trace names E (parens b h s) (listed es ts) (roles_listed es rs)
  listed_trace names E h s End ts rs are t b a = t b
  listed_trace names E h s (More e es) ts rs are t b a =
      expression_trace names E h s e (after_commas es ts) (roles_after_commas es rs) are.1 (λ c o. commas_ever names E h s es ts rs are.2 t c) b a

  commas_ever : (names : Names) (E : Roles → Type 0) (h : Bool) (s : List Bool) (es : WrittenList) (ts : Kinds) (rs : Roles) → ArePhrases names ASSIGN es
      → Ever names E h s ts rs → Ever names E h s (after_commas es ts) (roles_after_commas es rs)
  commas_ever names E h s End ts rs are t = t
  commas_ever names E h s (More e es) ts rs are t =
      λ b. (
        refl,
        expression_trace names E h s e (after_commas es ts) (roles_after_commas es rs) are.1 (λ c o. commas_ever names E h s es ts rs are.2 t c) Other refl,
      )

  bounds_calm : (names : Names) (E : Roles → Type 0) (h : Bool) (s : List Bool) (es : WrittenList) (ts : Kinds) (rs : Roles) → ArePhrases names CHOICE es
      → Calm names E h s ts rs → Calm names E h s (bounds_text es ts) (roles_of_bounds es rs)
  bounds_calm names E h s End ts rs are t = t
  bounds_calm names E h s (More e es) ts rs are t =
      λ b o. (
        refl,
        expression_trace names E h s e (bracketed ∷ bounds_text es ts) (in_expression ∷ roles_of_bounds es rs) are.1
            (λ c p. (refl, bounds_calm names E h s es ts rs are.2 t Other refl)) Other refl,
      )

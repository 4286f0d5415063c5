-- The tokens of expressions with their roles: none is a declarator's name, and where a new name is allowed, so is an opening
-- parenthesis. For the contract of `token_for_name`.
use Rattle.std.proofs.Common.{◌≡◌, ℕ, suc, ◌≤◌, ◌⊎◌, inl, inr, Bool, true, false, IsTrue, List, [], ◌∷◌, refl, sym, ap, ◌∙◌}
use Rattle.std.proofs.Common.{arith}
use Rattle.std.specs.List.{list_all}
use Rattle.std.proofs.lemmas.Bool.{false≢true}
use Rattle.cs_ast.specs.declared.token.TokenKind.{TokenKind}
use Rattle.cs_ast.specs.declared.token.TokenKind.TheVariants as token
use Rattle.cs_ast.specs.declared.token.Keyword.TheVariants as keyword
use Rattle.cs_ast.specs.declared.token.Punctuator.{Punctuator}
use Rattle.cs_ast.specs.declared.token.Punctuator.TheVariants as punctuator
use Rattle.cs_ast.specs.declared.raw.operator.Step.{Step}
use Rattle.cs_ast.specs.declared.raw.operator.Step.TheVariants.{Up, Down}
use Rattle.cs_ast.specs.declared.raw.written_type.TypeWord.{TypeWord}
use Rattle.cs_ast.specs.declared.raw.written_type.TypeWord.TheVariants as word
use Rattle.cs_ast.specs.declared.raw.written_type.IntegerWord.{IntegerWord}
use Rattle.cs_ast.specs.declared.raw.written_type.IntegerWord.TheVariants.{Char, Short, Int, Long, Signed, Unsigned}
use Rattle.cs_ast.specs.declared.raw.written_type.PointerWord.{PointerWord}
use Rattle.cs_ast.specs.declared.raw.written_type.PointerWord.TheVariants as pointer
use Rattle.cs_ast.specs.RawTree.{Written, WrittenList, Named, Numeral, Character, Literal, Enclosed, Index, Call, Member, Arrow, StepAfter, StepBefore, Prefix}
use Rattle.cs_ast.specs.RawTree.{SizeOf, SizeOfType, Cast, Infix, Choice, Assign, Comma, End, More}
use Rattle.cs_grammar.specs.Levels.{level_of, infix_level}
use Rattle.cs_grammar.specs.TypeWords.{Names, is_among, is_integer_word, named_by, is_type}
use Rattle.cs_grammar.specs.Punctuators.{step_punctuator, prefix_punctuator, infix_punctuator, assign_punctuator}
use Rattle.cs_grammar.specs.Text.{Kinds, text, listed, after_commas, bounds_text, words_text, pointers_text, type_word_text, integer_word_text}
use Rattle.cs_grammar.specs.Phrases.{IsWell, ArePhrases}
use Rattle.cs_grammar.specs.Roles.{Role, closes_type, in_expression, declared_name, Roles, each, type_roles, roles, roles_listed, roles_after_commas}
use Rattle.cs_grammar.specs.Roles.{roles_of_bounds}
use Rattle.cs_unsupported.specs.declared.declarators.Joint.{Joint}
use Rattle.cs_unsupported.specs.declared.declarators.Joint.TheVariants.{Barred, Listed, Open}
use Rattle.cs_unsupported.specs.Declarators.{joint_after}
use Rattle.cs_unsupported.proofs.MemberTraces.{alone, among_integers}
use Rattle.cs_unsupported.proofs.TypeTraces.{among_alone}

abbrev pub opening : TokenKind
opening = token.Punctuator punctuator.OpenParenthesis

abbrev pub star : TokenKind
star = token.Punctuator punctuator.Star

-- a condition on tokens with their roles, as that they are the rest of a file after others
abbrev pub World : Type 1
World = Kinds → Roles → Type 0

-- a token continues
abbrev pub Goes : World → TokenKind → Type 0
Goes W next = (more : Kinds) × (others : Roles) × W (next ∷ more) others

-- a declarator's name continues
abbrev pub Declares : World → Type 0
Declares W = (name : List ℕ) × (more : Kinds) × (others : Roles) × W (token.Name name ∷ more) (declared_name ∷ others)

abbrev pub is_barred : Joint → Bool
is_barred Barred = true
is_barred other = false

abbrev pub is_open : Joint → Bool
is_open Open = true
is_open other = false

abbrev pub is_name : Role → Bool
is_name declared_name = true
is_name other = false

-- a declarator's name comes only where none is barred, and pointers or the new name are allowed in its place
abbrev pub NameReported : List ℕ → World → Joint → Role → Type 0
NameReported new W joint declared_name = (is_barred joint ≡ false) × Goes W star × Goes W (token.Name new)
NameReported new W joint other = Unit {0}

-- if the new name comes where it can be distinguished from others, it is a declarator's, or an opening parenthesis is allowed in its place; if
-- a star follows a comma, either that is allowed in its place, or a declarator's name
abbrev pub NextReported : List ℕ → World → TokenKind → Joint → Role → Type 0
NextReported new W (token.Name name) Open role = name ≡ new → (role ≡ declared_name) ⊎ Goes W opening
NextReported new W (token.Punctuator punctuator.Star) Listed role = Goes W opening ⊎ Declares W
NextReported new W next joint role = Unit {0}

abbrev pub Reported : List ℕ → World → Joint → TokenKind → Role → Type 0
Reported new W joint next role = NameReported new W joint role × NextReported new W next joint role

-- the same for each of some tokens
abbrev pub Trace : List ℕ → World → Joint → Kinds → Roles → Type 0
Trace new W joint [] roles = Unit {0}
Trace new W joint (next ∷ tokens) [] = ⊥
Trace new W joint (next ∷ tokens) (role ∷ roles) = Reported new W joint next role
    × Trace new (λ more others. W (next ∷ more) (role ∷ others)) (joint_after next) tokens roles

-- a name that is no typedef name
pub record NewName : Type 0 where
  pub names : Names
  pub name : List ℕ
  pub free : is_among names name ≡ false

-- not a declarator's name
pub unnamed : (new : List ℕ) (W : World) (j : Joint) (r : Role) → is_name r ≡ false → NameReported new W j r
unnamed new W j declared_name e = absurd (false≢true (sym e))
unnamed new W j _ e = tt

-- where a parenthesis is allowed
pub by_opening : (new : List ℕ) (W : World) (k : TokenKind) (j : Joint) (r : Role) → Goes W opening → NextReported new W k j r
by_opening new W (token.Name m) Open r g = λ e. inr g
by_opening new W (token.Name m) Barred r g = tt
by_opening new W (token.Name m) Listed r g = tt
by_opening new W (token.Punctuator punctuator.Star) Listed r g = inl g
by_opening new W (token.Punctuator punctuator.Star) Open r g = tt
by_opening new W (token.Punctuator punctuator.Star) Barred r g = tt
by_opening new W (token.Punctuator _) j r g = tt
by_opening new W _ j r g = tt

-- a punctuator that isn't after a comma
pub punctuator_open : (new : List ℕ) (W : World) (m : Punctuator) (r : Role) → NextReported new W (token.Punctuator m) Open r
punctuator_open new W punctuator.Star r = tt
punctuator_open new W _ r = tt

-- another name
pub other_name : (new : List ℕ) (W : World) (m : List ℕ) (j : Joint) (r : Role) → (m ≡ new → ⊥) → NextReported new W (token.Name m) j r
other_name new W m Open r f = λ e. absurd (f e)
other_name new W m Barred r f = tt
other_name new W m Listed r f = tt

-- a typedef name isn't the new one
pub known_other : (x : NewName) (m : List ℕ) → is_among x.names m ≡ true → m ≡ x.name → ⊥
known_other x m k e = false≢true (sym (ap (is_among x.names) e ∙ x.free) ∙ k)

-- if the word is a name, it is a typedef name
abbrev pub IsKnown : Names → TypeWord → Type 0
IsKnown names (word.Typedef name) = is_among names name ≡ true
IsKnown names other = Unit {0}

abbrev pub AreKnown : Names → List TypeWord → Type 0
AreKnown names [] = Unit {0}
AreKnown names (w ∷ words) = IsKnown names w × AreKnown names words

integers_known : (names : Names) (ws : List TypeWord) → list_all is_integer_word (named_by ws) ≡ true → AreKnown names ws
integers_known names [] e = tt
integers_known names (word.Const ∷ ws) e = (tt, integers_known names ws e)
integers_known names (word.Integer k ∷ ws) e = (tt, integers_known names ws e)
integers_known names (word.Void ∷ ws) e = absurd (false≢true e)
integers_known names (word.Typedef n ∷ ws) e = absurd (false≢true e)
integers_known names (word.Struct n ∷ ws) e = absurd (false≢true e)
integers_known names (word.Enum n ∷ ws) e = absurd (false≢true e)

-- the words of a type
pub words_known : (names : Names) (ws : List TypeWord) → IsTrue (is_type names ws) → AreKnown names ws
words_known names [] is = tt
words_known names (word.Const ∷ ws) is = (tt, words_known names ws is)
words_known names (word.Integer k ∷ ws) is = (tt, integers_known names ws (among_integers names k (named_by ws) is))
words_known names (word.Void ∷ ws) is = (tt, integers_known names ws (alone names word.Void (named_by ws) refl is))
words_known names (word.Typedef n ∷ ws) is =
    (among_alone names n (named_by ws) is, integers_known names ws (alone names (word.Typedef n) (named_by ws) refl is))
words_known names (word.Struct n ∷ ws) is = (tt, integers_known names ws (alone names (word.Struct n) (named_by ws) refl is))
words_known names (word.Enum n ∷ ws) is = (tt, integers_known names ws (alone names (word.Enum n) (named_by ws) refl is))

integer_trace : (new : List ℕ) (r : Role) → is_name r ≡ false
    → (W : World) (j : Joint) (k : IntegerWord) (ts : Kinds) (rs : Roles) → Trace new (λ y q. W (integer_word_text k ∷ y) (r ∷ q)) Open ts rs
    → Trace new W j (integer_word_text k ∷ ts) (r ∷ rs)
integer_trace new r e W j Char ts rs h = ((unnamed new W j r e, tt), h)
integer_trace new r e W j Short ts rs h = ((unnamed new W j r e, tt), h)
integer_trace new r e W j Int ts rs h = ((unnamed new W j r e, tt), h)
integer_trace new r e W j Long ts rs h = ((unnamed new W j r e, tt), h)
integer_trace new r e W j Signed ts rs h = ((unnamed new W j r e, tt), h)
integer_trace new r e W j Unsigned ts rs h = ((unnamed new W j r e, tt), h)

-- a word of a type
pub word_trace : (x : NewName) (r : Role) → is_name r ≡ false → (W : World) (j : Joint) (w : TypeWord) (ts : Kinds) (rs : Roles) → IsKnown x.names w
    → Trace x.name (λ y q. W (type_word_text w y) (each r (type_word_text w []) q)) Open ts rs
    → Trace x.name W j (type_word_text w ts) (each r (type_word_text w []) rs)
word_trace x r e W j word.Const ts rs k h = ((unnamed x.name W j r e, tt), h)
word_trace x r e W j (word.Integer i) ts rs k h = integer_trace x.name r e W j i ts rs h
word_trace x r e W j word.Void ts rs k h = ((unnamed x.name W j r e, tt), h)
word_trace x r e W j (word.Typedef m) ts rs k h = ((unnamed x.name W j r e, other_name x.name W m j r (known_other x m k)), h)
word_trace x r e W j (word.Struct m) ts rs k h =
    ((unnamed x.name W j r e, tt), ((unnamed x.name (λ y q. W (token.Keyword keyword.Struct ∷ y) (r ∷ q)) Barred r e, tt), h))
word_trace x r e W j (word.Enum m) ts rs k h =
    ((unnamed x.name W j r e, tt), ((unnamed x.name (λ y q. W (token.Keyword keyword.Enum ∷ y) (r ∷ q)) Barred r e, tt), h))

-- pointers, after which no declarator's name follows
pub pointers_trace : (new : List ℕ) (r : Role) → is_name r ≡ false
    → (W : World) (ps : List PointerWord) (ts : Kinds) (rs : Roles) → Trace new (λ y q. W (pointers_text ps y) (each r (pointers_text ps []) q)) Open ts rs
    → Trace new W Open (pointers_text ps ts) (each r (pointers_text ps []) rs)
pointers_trace new r e W [] ts rs h = h
pointers_trace new r e W (pointer.Star ∷ ps) ts rs h = ((unnamed new W Open r e, tt), pointers_trace new r e (λ y q. W (star ∷ y) (r ∷ q)) ps ts rs h)
pointers_trace new r e W (pointer.Const ∷ ps) ts rs h =
    ((unnamed new W Open r e, tt), pointers_trace new r e (λ y q. W (token.Keyword keyword.Const ∷ y) (r ∷ q)) ps ts rs h)

-- the words and pointers of a type between parentheses
type_trace : (x : NewName) (W : World) (ws : List TypeWord) (ps : List PointerWord) (ts : Kinds) (rs : Roles) → AreKnown x.names ws
    → Trace x.name (λ y q. W (words_text ws (pointers_text ps y)) (type_roles ws ps q)) Open ts rs
    → Trace x.name W Open (words_text ws (pointers_text ps ts)) (type_roles ws ps rs)
type_trace x W [] ps ts rs k h = pointers_trace x.name in_expression refl W ps ts rs h
type_trace x W (word.Const ∷ ws) ps ts rs k h =
    ((tt, tt), type_trace x (λ y q. W (token.Keyword keyword.Const ∷ y) (in_expression ∷ q)) ws ps ts rs k.1 h)
type_trace x W (word.Integer i ∷ ws) ps ts rs k h =
    integer_trace x.name in_expression refl W Open i (words_text ws (pointers_text ps ts)) (type_roles ws ps rs)
    (type_trace x (λ y q. W (integer_word_text i ∷ y) (in_expression ∷ q)) ws ps ts rs k.1 h)
type_trace x W (word.Void ∷ ws) ps ts rs k h = ((tt, tt), type_trace x (λ y q. W (token.Keyword keyword.Void ∷ y) (in_expression ∷ q)) ws ps ts rs k.1 h)
type_trace x W (word.Typedef m ∷ ws) ps ts rs k h = (
  (tt, other_name x.name W m Open in_expression (known_other x m k.0)),
  type_trace x (λ y q. W (token.Name m ∷ y) (in_expression ∷ q)) ws ps ts rs k.1 h,
)
type_trace x W (word.Struct m ∷ ws) ps ts rs k h = (
  (tt, tt),
  ((tt, tt), type_trace x (λ y q. W (token.Keyword keyword.Struct ∷ token.Name m ∷ y) (in_expression ∷ in_expression ∷ q)) ws ps ts rs k.1 h),
)
type_trace x W (word.Enum m ∷ ws) ps ts rs k h = (
  (tt, tt),
  ((tt, tt), type_trace x (λ y q. W (token.Keyword keyword.Enum ∷ token.Name m ∷ y) (in_expression ∷ in_expression ∷ q)) ws ps ts rs k.1 h),
)

abbrev closing : TokenKind
closing = token.Punctuator punctuator.CloseParenthesis

abbrev bracket : TokenKind
bracket = token.Punctuator punctuator.OpenBracket

abbrev bracketed : TokenKind
bracketed = token.Punctuator punctuator.CloseBracket

abbrev sizeof : TokenKind
sizeof = token.Keyword keyword.Sizeof

-- each expression of the level may come before these tokens
abbrev pub TakesPhrases : World → Names → ℕ → Kinds → Roles → Type 0
TakesPhrases W names level us qs = (e : Written) → level ≤ level_of e → IsWell names e → W (text e us) (roles e qs)

-- and so may one between parentheses
pub opens : (W : World) (names : Names) (level : ℕ) (us : Kinds) (qs : Roles) (e : Written) → level ≤ 16 → IsWell names e
    → TakesPhrases W names level us qs → Goes W opening
opens W names level us qs e low is g = (text e (closing ∷ us), roles (Enclosed e) qs, g (Enclosed e) low is)

before_step : (new : List ℕ) (W : World) (q : Step) (j : Joint) (r : Role) → NextReported new W (token.Punctuator (step_punctuator q)) j r
before_step new W Up j r = tt
before_step new W Down j r = tt

after_step : (new : List ℕ) (W : World) (q : Step) (ts : Kinds) (rs : Roles) → Trace new W Open ts rs
    → Trace new W (joint_after (token.Punctuator (step_punctuator q))) ts rs
after_step new W Up ts rs h = h
after_step new W Down ts rs h = h

mutual
  pub expression_trace : (x : NewName) (W : World) (us : Kinds) (qs : Roles) (level : ℕ) (j : Joint) (e : Written) (ts : Kinds) (rs : Roles)
      → level ≤ level_of e → IsWell x.names e → TakesPhrases W x.names level us qs → Trace x.name (λ y q. W (text e y) (roles e q)) Open ts rs
      → Trace x.name W j (text e ts) (roles e rs)
  expression_trace x W us qs level j (Named m) ts rs b is g h =
      ((tt, by_opening x.name W (token.Name m) j in_expression (opens W x.names level us qs (Named m) b is g)), h)
  expression_trace x W us qs level j (Numeral n) ts rs b is g h = ((tt, tt), h)
  expression_trace x W us qs level j (Character v) ts rs b is g h = ((tt, tt), h)
  expression_trace x W us qs level j (Literal bytes) ts rs b is g h = ((tt, tt), h)
  expression_trace x W us qs level j (Enclosed i) ts rs b is g h = (
    (tt, tt),
    expression_trace x (λ y q. W (opening ∷ y) (in_expression ∷ q)) (closing ∷ us) (in_expression ∷ qs) 0 Open i (closing ∷ ts)
        (in_expression ∷ rs) (omega arith) is (λ e' b' w. g (Enclosed e') b w) ((tt, tt), h),
  )
  expression_trace x W us qs level j (Index o n) ts rs b is g h =
      expression_trace x W (bracket ∷ text n (bracketed ∷ us)) (in_expression ∷ roles n (in_expression ∷ qs)) 15 j o
      (bracket ∷ text n (bracketed ∷ ts)) (in_expression ∷ roles n (in_expression ∷ rs)) is.0 is.1
      (λ e' b' w. g (Index e' n) b (b', w, is.2)) (
        (tt, tt),
        expression_trace x (λ y q. W (text o (bracket ∷ y)) (roles o (in_expression ∷ q))) (bracketed ∷ us) (in_expression ∷ qs) 0 Open n
            (bracketed ∷ ts) (in_expression ∷ rs) (omega arith) is.2
            (λ e' b' w. g (Index o e') b (is.0, is.1, w)) ((tt, tt), h),
      )
  expression_trace x W us qs level j (Call o es) ts rs b is g h =
      expression_trace x W (opening ∷ listed es (closing ∷ us)) (in_expression ∷ roles_listed es (in_expression ∷ qs)) 15 j o
      (opening ∷ listed es (closing ∷ ts)) (in_expression ∷ roles_listed es (in_expression ∷ rs)) is.0 is.1
      (λ e' b' w. g (Call e' es) b (b', w, is.2)) (
        (tt, tt),
        listed_trace x (λ y q. W (text o (opening ∷ y)) (roles o (in_expression ∷ q))) (closing ∷ us) (in_expression ∷ qs) 1 es (closing ∷ ts)
            (in_expression ∷ rs) is.2
            (λ es' are. g (Call o es') b (is.0, is.1, are)) ((tt, tt), h),
      )
  expression_trace x W us qs level j (Member o m) ts rs b is g h =
      expression_trace x W (token.Punctuator punctuator.Dot ∷ token.Name m ∷ us) (in_expression ∷ in_expression ∷ qs) 15 j o
      (token.Punctuator punctuator.Dot ∷ token.Name m ∷ ts) (in_expression ∷ in_expression ∷ rs) is.0 is.1
      (λ e' b' w. g (Member e' m) b (b', w)) ((tt, tt), ((tt, tt), h))
  expression_trace x W us qs level j (Arrow o m) ts rs b is g h =
      expression_trace x W (token.Punctuator punctuator.Arrow ∷ token.Name m ∷ us) (in_expression ∷ in_expression ∷ qs) 15 j o
      (token.Punctuator punctuator.Arrow ∷ token.Name m ∷ ts) (in_expression ∷ in_expression ∷ rs) is.0 is.1
      (λ e' b' w. g (Arrow e' m) b (b', w)) ((tt, tt), ((tt, tt), h))
  expression_trace x W us qs level j (StepAfter t o) ts rs b is g h =
      expression_trace x W (token.Punctuator (step_punctuator t) ∷ us) (in_expression ∷ qs) 15 j o (token.Punctuator (step_punctuator t) ∷ ts)
      (in_expression ∷ rs) is.0 is.1 (λ e' b' w. g (StepAfter t e') b (b', w)) (
        (tt, before_step x.name (λ y q. W (text o y) (roles o q)) t Open in_expression),
        after_step x.name (λ y q. W (text o (token.Punctuator (step_punctuator t) ∷ y)) (roles o (in_expression ∷ q))) t ts rs h,
      )
  expression_trace x W us qs level j (StepBefore t o) ts rs b is g h = (
    (tt, before_step x.name W t j in_expression),
    expression_trace x (λ y q. W (token.Punctuator (step_punctuator t) ∷ y) (in_expression ∷ q)) us qs 14
        (joint_after (token.Punctuator (step_punctuator t))) o ts rs is.0 is.1 (λ e' b' w. g (StepBefore t e') b (b', w)) h,
  )
  expression_trace x W us qs level j (Prefix op o) ts rs b is g h =
      let low : level ≤ 14 = b in (
        (
          tt,
          by_opening x.name W (token.Punctuator (prefix_punctuator op)) j in_expression (opens W x.names level us qs (Prefix op o) (omega (arith, low)) is g),
        ),
        expression_trace x (λ y q. W (token.Punctuator (prefix_punctuator op) ∷ y) (in_expression ∷ q)) us qs 13
            (joint_after (token.Punctuator (prefix_punctuator op))) o ts rs is.0 is.1 (λ e' b' w. g (Prefix op e') b (b', w)) h,
      )
  expression_trace x W us qs level j (SizeOf o) ts rs b is g h =
      ((tt, tt), expression_trace x (λ y q. W (sizeof ∷ y) (in_expression ∷ q)) us qs 14 Open o ts rs is.0 is.1 (λ e' b' w. g (SizeOf e') b (b', w)) h)
  expression_trace x W us qs level j (SizeOfType ws ps bs) ts rs b is g h = (
    (tt, tt),
    (
      (tt, tt),
      type_trace x (λ y q. W (sizeof ∷ opening ∷ y) (in_expression ∷ in_expression ∷ q)) ws ps (bounds_text bs (closing ∷ ts))
          (roles_of_bounds bs (closes_type ∷ rs)) (words_known x.names ws is.0)
          (bounds_trace x (λ y q. W (sizeof ∷ opening ∷ words_text ws (pointers_text ps y)) (in_expression ∷ in_expression ∷ type_roles ws ps q))
          (closing ∷ us) (closes_type ∷ qs) bs (closing ∷ ts) (closes_type ∷ rs) is.2
          (λ bs' are. g (SizeOfType ws ps bs') b (is.0, is.1, are)) ((tt, tt), h)),
    ),
  )
  expression_trace x W us qs level j (Cast ws ps bs o) ts rs b is g h = (
    (tt, tt),
    type_trace x (λ y q. W (opening ∷ y) (in_expression ∷ q)) ws ps (bounds_text bs (closing ∷ text o ts))
        (roles_of_bounds bs (closes_type ∷ roles o rs)) (words_known x.names ws is.0)
        (bounds_trace x (λ y q. W (opening ∷ words_text ws (pointers_text ps y)) (in_expression ∷ type_roles ws ps q)) (closing ∷ text o us)
        (closes_type ∷ roles o qs) bs (closing ∷ text o ts) (closes_type ∷ roles o rs) is.2
        (λ bs' are. g (Cast ws ps bs' o) b (is.0, is.1, are, is.3, is.4)) (
          (tt, tt),
          expression_trace x (λ y q.
              W (opening ∷ words_text ws (pointers_text ps (bounds_text bs (closing ∷ y))))
              (in_expression ∷ type_roles ws ps (roles_of_bounds bs (closes_type ∷ q)))) us qs 13 Open o ts rs is.3 is.4
              (λ e' b' w. g (Cast ws ps bs e') b (is.0, is.1, is.2, b', w)) h,
        )),
  )
  expression_trace x W us qs level j (Infix op l r) ts rs b is g h =
      expression_trace x W (token.Punctuator (infix_punctuator op) ∷ text r us) (in_expression ∷ roles r qs) (infix_level op) j l
      (token.Punctuator (infix_punctuator op) ∷ text r ts) (in_expression ∷ roles r rs) is.0 is.1
      (λ e' b' w. g (Infix op e' r) b (b', w, is.2, is.3)) (
        (tt, punctuator_open x.name (λ y q. W (text l y) (roles l q)) (infix_punctuator op) in_expression),
        expression_trace x (λ y q. W (text l (token.Punctuator (infix_punctuator op) ∷ y)) (roles l (in_expression ∷ q))) us qs (suc (infix_level op))
            (joint_after (token.Punctuator (infix_punctuator op))) r ts rs is.2 is.3
            (λ e' b' w. g (Infix op l e') b (is.0, is.1, b', w)) h,
      )
  expression_trace x W us qs level j (Choice t o z) ts rs b is g h =
      expression_trace x W (token.Punctuator punctuator.Question ∷ text o (token.Punctuator punctuator.Colon ∷ text z us))
      (in_expression ∷ roles o (in_expression ∷ roles z qs)) 3 j t
      (token.Punctuator punctuator.Question ∷ text o (token.Punctuator punctuator.Colon ∷ text z ts))
      (in_expression ∷ roles o (in_expression ∷ roles z rs)) is.0 is.1
      (λ e' b' w. g (Choice e' o z) b (b', w, is.2, is.3, is.4)) (
        (tt, tt),
        expression_trace x (λ y q. W (text t (token.Punctuator punctuator.Question ∷ y)) (roles t (in_expression ∷ q)))
            (token.Punctuator punctuator.Colon ∷ text z us) (in_expression ∷ roles z qs) 0 Open o (token.Punctuator punctuator.Colon ∷ text z ts)
            (in_expression ∷ roles z rs) (omega arith) is.2
            (λ e' b' w. g (Choice t e' z) b (is.0, is.1, w, is.3, is.4)) (
              (tt, tt),
              expression_trace x (λ y q.
                  W (text t (token.Punctuator punctuator.Question ∷ text o (token.Punctuator punctuator.Colon ∷ y)))
                  (roles t (in_expression ∷ roles o (in_expression ∷ q)))) us qs 2 Open z ts rs is.3 is.4
                  (λ e' b' w. g (Choice t o e') b (is.0, is.1, is.2, b', w)) h,
            ),
      )
  expression_trace x W us qs level j (Assign op l r) ts rs b is g h =
      expression_trace x W (token.Punctuator (assign_punctuator op) ∷ text r us) (in_expression ∷ roles r qs) 14 j l
      (token.Punctuator (assign_punctuator op) ∷ text r ts) (in_expression ∷ roles r rs) is.0 is.1
      (λ e' b' w. g (Assign op e' r) b (b', w, is.2, is.3)) (
        (tt, punctuator_open x.name (λ y q. W (text l y) (roles l q)) (assign_punctuator op) in_expression),
        expression_trace x (λ y q. W (text l (token.Punctuator (assign_punctuator op) ∷ y)) (roles l (in_expression ∷ q))) us qs 1
            (joint_after (token.Punctuator (assign_punctuator op))) r ts rs is.2 is.3
            (λ e' b' w. g (Assign op l e') b (is.0, is.1, b', w)) h,
      )
  expression_trace x W us qs level j (Comma l r) ts rs b is g h =
      expression_trace x W (token.Punctuator punctuator.Comma ∷ text r us) (in_expression ∷ roles r qs) 0 j l
      (token.Punctuator punctuator.Comma ∷ text r ts) (in_expression ∷ roles r rs) (omega arith) is.0
      (λ e' b' w. g (Comma e' r) b (w, is.1, is.2)) (
        (tt, tt),
        expression_trace x (λ y q. W (text l (token.Punctuator punctuator.Comma ∷ y)) (roles l (in_expression ∷ q))) us qs 1 Listed r ts rs is.1 is.2
            (λ e' b' w. g (Comma l e') b (is.0, b', w)) h,
      )

  listed_trace : (x : NewName) (W : World) (us : Kinds) (qs : Roles) (level : ℕ) (es : WrittenList) (ts : Kinds) (rs : Roles) → ArePhrases x.names level es
      → ((others : WrittenList) → ArePhrases x.names level others → W (listed others us) (roles_listed others qs))
      → Trace x.name (λ y q. W (listed es y) (roles_listed es q)) Open ts rs → Trace x.name W Open (listed es ts) (roles_listed es rs)
  listed_trace x W us qs level End ts rs are g h = h
  listed_trace x W us qs level (More e es) ts rs are g h =
      expression_trace x W (after_commas es us) (roles_after_commas es qs) level Open e (after_commas es ts) (roles_after_commas es rs) are.0 are.1
      (λ e' b' w. g (More e' es) (b', w, are.2))
      (commas_trace x (λ y q. W (text e y) (roles e q)) us qs level es ts rs are.2 (λ es' all. g (More e es') (are.0, are.1, all)) h)

  commas_trace : (x : NewName) (W : World) (us : Kinds) (qs : Roles) (level : ℕ) (es : WrittenList) (ts : Kinds) (rs : Roles) → ArePhrases x.names level es
      → ((others : WrittenList) → ArePhrases x.names level others → W (after_commas others us) (roles_after_commas others qs))
      → Trace x.name (λ y q. W (after_commas es y) (roles_after_commas es q)) Open ts rs
      → Trace x.name W Open (after_commas es ts) (roles_after_commas es rs)
  commas_trace x W us qs level End ts rs are g h = h
  commas_trace x W us qs level (More e es) ts rs are g h = (
    (tt, tt),
    expression_trace x (λ y q. W (token.Punctuator punctuator.Comma ∷ y) (in_expression ∷ q)) (after_commas es us) (roles_after_commas es qs) level Listed
        e (after_commas es ts) (roles_after_commas es rs) are.0 are.1 (λ e' b' w. g (More e' es) (b', w, are.2))
        (commas_trace x (λ y q. W (token.Punctuator punctuator.Comma ∷ text e y) (in_expression ∷ roles e q)) us qs level es ts rs are.2
        (λ es' all. g (More e es') (are.0, are.1, all)) h),
  )

  bounds_trace : (x : NewName) (W : World) (us : Kinds) (qs : Roles) (es : WrittenList) (ts : Kinds) (rs : Roles) → ArePhrases x.names 2 es
      → ((others : WrittenList) → ArePhrases x.names 2 others → W (bounds_text others us) (roles_of_bounds others qs))
      → Trace x.name (λ y q. W (bounds_text es y) (roles_of_bounds es q)) Open ts rs → Trace x.name W Open (bounds_text es ts) (roles_of_bounds es rs)
  bounds_trace x W us qs End ts rs are g h = h
  bounds_trace x W us qs (More e es) ts rs are g h = (
    (tt, tt),
    expression_trace x (λ y q. W (bracket ∷ y) (in_expression ∷ q)) (bracketed ∷ bounds_text es us) (in_expression ∷ roles_of_bounds es qs) 2 Open e
        (bracketed ∷ bounds_text es ts) (in_expression ∷ roles_of_bounds es rs) are.0 are.1
        (λ e' b' w. g (More e' es) (b', w, are.2)) (
          (tt, tt),
          bounds_trace x (λ y q. W (bracket ∷ text e (bracketed ∷ y)) (in_expression ∷ roles e (in_expression ∷ q))) us qs es ts rs are.2
              (λ es' all. g (More e es') (are.0, are.1, all)) h,
        ),
  )

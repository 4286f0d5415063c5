-- The tokens of expressions with their roles, from one site to another. For the contract of `is_inside`.
use Rattle.std.proofs.Common.{◌≡◌, ℕ, ◌≤◌, ◌⊎◌, inl, inr, Bool, true, false, List, [], ◌∷◌, refl, arith}
use Rattle.std.proofs.lemmas.Bool.{false≢true}
use Rattle.cs_ast.specs.declared.token.TokenKind.{TokenKind}
use Rattle.cs_ast.specs.declared.token.TokenKind.TheVariants as token
use Rattle.cs_ast.specs.declared.token.Keyword.TheVariants as keyword
use Rattle.cs_ast.specs.declared.token.Punctuator.{Punctuator}
use Rattle.cs_ast.specs.declared.token.Punctuator.TheVariants as punctuator
use Rattle.cs_ast.specs.declared.raw.operator.Step.{Step}
use Rattle.cs_ast.specs.declared.raw.operator.Step.TheVariants.{Up, Down}
use Rattle.cs_ast.specs.declared.raw.operator.PrefixOp.{PrefixOp}
use Rattle.cs_ast.specs.declared.raw.operator.PrefixOp.TheVariants as before
use Rattle.cs_ast.specs.declared.raw.operator.InfixOp.{InfixOp}
use Rattle.cs_ast.specs.declared.raw.operator.InfixOp.TheVariants as operator
use Rattle.cs_ast.specs.declared.raw.operator.AssignOp.{AssignOp}
use Rattle.cs_ast.specs.declared.raw.operator.AssignOp.TheVariants as assign
use Rattle.cs_ast.specs.declared.raw.written_type.TypeWord.{TypeWord}
use Rattle.cs_ast.specs.declared.raw.written_type.TypeWord.TheVariants as word
use Rattle.cs_ast.specs.declared.raw.written_type.IntegerWord.{IntegerWord}
use Rattle.cs_ast.specs.declared.raw.written_type.IntegerWord.TheVariants.{Char, Short, Int, Long, Signed, Unsigned}
use Rattle.cs_ast.specs.declared.raw.written_type.PointerWord.{PointerWord}
use Rattle.cs_ast.specs.declared.raw.written_type.PointerWord.TheVariants as pointer
use Rattle.cs_ast.specs.RawTree.{Written, WrittenList, Named, Numeral, Character, Literal, Enclosed, Index, Call, Member, Arrow, StepAfter, StepBefore, Prefix}
use Rattle.cs_ast.specs.RawTree.{SizeOf, SizeOfType, Cast, Infix, Choice, Assign, Comma, End, More}
use Rattle.cs_grammar.specs.Levels.{level_of, infix_level, CHOICE}
use Rattle.cs_grammar.specs.TypeWords.{Names}
use Rattle.cs_grammar.specs.Punctuators.{step_punctuator, prefix_punctuator, infix_punctuator, assign_punctuator}
use Rattle.cs_grammar.specs.Text.{Kinds, text, listed, after_commas, bounds_text, words_text, pointers_text, type_word_text, integer_word_text}
use Rattle.cs_grammar.specs.Phrases.{IsWell, ArePhrases}
use Rattle.cs_grammar.specs.Roles.{Role, closes_type, in_expression, Roles, each, type_roles, roles, roles_listed, roles_after_commas, roles_of_bounds}
use Rattle.cs_unsupported.specs.declared.inside.Part.{Part}
use Rattle.cs_unsupported.specs.declared.inside.Part.TheVariants as part
use Rattle.cs_unsupported.specs.declared.inside.Where.{Where}
use Rattle.cs_unsupported.specs.declared.inside.Where.TheVariants.{Inside}
use Rattle.cs_unsupported.specs.declared.inside.Tagging.{Tagging}
use Rattle.cs_unsupported.specs.declared.inside.Tagging.TheVariants as tagging
use Rattle.cs_unsupported.specs.Sites.{Site, tag_after, deeper, chosen, punctuator_step, step}

-- the role of a token of an expression
abbrev pub is_inner : Role → Bool
is_inner in_expression = true
is_inner closes_type = true
is_inner other = false

abbrev pub plus : TokenKind
plus = token.Punctuator punctuator.Plus

-- what is required of each site in a body, of each other site, and of the one after the last token
pub record Telling : Type 1 where
  pub blk : Type 0
  pub out : Type 0
  pub ends : Site → Type 0

-- an operator continues
abbrev pub Goes : (Kinds → Type 0) → Type 0
Goes W = (more : Kinds) × W (plus ∷ more)

-- in an expression, the token is one of the expression, or an operator might be next; an operator is a token of the expression
abbrev pub ReportedIn : Telling → (Kinds → Type 0) → TokenKind → Role → Type 0
ReportedIn t W next role = t.out × (((is_inner role ≡ true) ⊎ Goes W) × (next ≡ plus → is_inner role ≡ true))

abbrev pub Reported : Telling → (Kinds → Type 0) → Where → TokenKind → Role → Type 0
Reported t W (Inside part.Body) next role = t.blk
Reported t W (Inside part.BodyChoice) next role = t.blk
Reported t W (Inside place) next role = ReportedIn t W next role
Reported t W within next role = t.out × (is_inner role ≡ false)

abbrev pub Trace : Telling → (Kinds → Type 0) → Site → Kinds → Roles → Type 0
Trace t W s [] roles = t.ends s
Trace t W s (next ∷ tokens) [] = ⊥
Trace t W s (next ∷ tokens) (role ∷ roles) = Reported t W s.within next role × Trace t (λ more. W (next ∷ more)) (step next s) tokens roles

abbrev pub site : Where → Tagging → List Where → Site
site within following around = record { within = within; following = following; around = around }

-- the same whatever the last tokens are
abbrev pub Calm : Telling → (Kinds → Type 0) → Where → List Where → Kinds → Roles → Type 0
Calm t W within around tokens roles = (following : Tagging) → Trace t W (site within following around) tokens roles

-- what is required at such a site
abbrev pub Asked : Telling → Part → Type 0
Asked t part.Body = t.blk
Asked t part.BodyChoice = t.blk
Asked t place = t.out

-- a token of an expression
token_reported : (t : Telling) (W : Kinds → Type 0) (p : Part) (k : TokenKind) (r : Role) → is_inner r ≡ true → Asked t p
    → Reported t W (Inside p) k r
token_reported t W part.Body k r i a = a
token_reported t W part.BodyChoice k r i a = a
token_reported t W part.Value k r i a = (a, (inl i, λ e. i))
token_reported t W part.Constant k r i a = (a, (inl i, λ e. i))
token_reported t W part.Item k r i a = (a, (inl i, λ e. i))
token_reported t W part.Nested k r i a = (a, (inl i, λ e. i))
token_reported t W part.Choice k r i a = (a, (inl i, λ e. i))

asked_deeper : (t : Telling) (p : Part) → Asked t p → Asked t (deeper p)
asked_deeper t part.Body a = a
asked_deeper t part.BodyChoice a = a
asked_deeper t part.Value a = a
asked_deeper t part.Constant a = a
asked_deeper t part.Item a = a
asked_deeper t part.Nested a = a
asked_deeper t part.Choice a = a

asked_chosen : (t : Telling) (p : Part) → Asked t p → Asked t (chosen p)
asked_chosen t part.Body a = a
asked_chosen t part.BodyChoice a = a
asked_chosen t part.Value a = a
asked_chosen t part.Constant a = a
asked_chosen t part.Item a = a
asked_chosen t part.Nested a = a
asked_chosen t part.Choice a = a

-- a comma doesn't end what is at such a site
abbrev pub keeps_commas : Part → Bool
keeps_commas part.Value = false
keeps_commas part.Constant = false
keeps_commas part.Item = false
keeps_commas place = true

deeper_keeps : (p : Part) → keeps_commas (deeper p) ≡ true
deeper_keeps part.Body = refl
deeper_keeps part.BodyChoice = refl
deeper_keeps _ = refl

chosen_keeps : (p : Part) → keeps_commas (chosen p) ≡ true
chosen_keeps part.Body = refl
chosen_keeps part.BodyChoice = refl
chosen_keeps _ = refl

comma_step : (t : Telling) (W : Kinds → Type 0) (p : Part) → keeps_commas p ≡ true
    → (s : List Where) (ts : Kinds) (rs : Roles) (b : Tagging) → Trace t W (site (Inside p) tagging.Nothing s) ts rs
    → Trace t W (punctuator_step punctuator.Comma (site (Inside p) b s)) ts rs
comma_step t W part.Value k s ts rs b h = absurd (false≢true k)
comma_step t W part.Constant k s ts rs b h = absurd (false≢true k)
comma_step t W part.Item k s ts rs b h = absurd (false≢true k)
comma_step t W part.Nested k s ts rs b h = h
comma_step t W part.Choice k s ts rs b h = h
comma_step t W part.Body k s ts rs b h = h
comma_step t W part.BodyChoice k s ts rs b h = h

colon_step : (t : Telling) (W : Kinds → Type 0) (p : Part) (s : List Where) (ts : Kinds) (rs : Roles) (b : Tagging)
    → Trace t W (site (Inside p) tagging.Nothing s) ts rs → Trace t W (punctuator_step punctuator.Colon (site (Inside (chosen p)) b (Inside p ∷ s))) ts rs
colon_step t W part.Value s ts rs b h = h
colon_step t W part.Constant s ts rs b h = h
colon_step t W part.Item s ts rs b h = h
colon_step t W part.Nested s ts rs b h = h
colon_step t W part.Choice s ts rs b h = h
colon_step t W part.Body s ts rs b h = h
colon_step t W part.BodyChoice s ts rs b h = h

-- the punctuator doesn't change the site
abbrev is_plain : Punctuator → Bool
is_plain punctuator.OpenBrace = false
is_plain punctuator.OpenParenthesis = false
is_plain punctuator.OpenBracket = false
is_plain punctuator.CloseBrace = false
is_plain punctuator.CloseParenthesis = false
is_plain punctuator.CloseBracket = false
is_plain punctuator.Comma = false
is_plain punctuator.Semicolon = false
is_plain punctuator.Question = false
is_plain punctuator.Colon = false
is_plain other = true

plain_punctuator : (t : Telling) (W : Kinds → Type 0) (p : Part) (s : List Where) (m : Punctuator) → is_plain m ≡ true
    → (ts : Kinds) (rs : Roles) (b : Tagging) → Trace t W (site (Inside p) tagging.Nothing s) ts rs
    → Trace t W (punctuator_step m (site (Inside p) b s)) ts rs
plain_punctuator t W p s punctuator.OpenBrace e ts rs b h = absurd (false≢true e)
plain_punctuator t W p s punctuator.OpenParenthesis e ts rs b h = absurd (false≢true e)
plain_punctuator t W p s punctuator.OpenBracket e ts rs b h = absurd (false≢true e)
plain_punctuator t W p s punctuator.CloseBrace e ts rs b h = absurd (false≢true e)
plain_punctuator t W p s punctuator.CloseParenthesis e ts rs b h = absurd (false≢true e)
plain_punctuator t W p s punctuator.CloseBracket e ts rs b h = absurd (false≢true e)
plain_punctuator t W p s punctuator.Comma e ts rs b h = absurd (false≢true e)
plain_punctuator t W p s punctuator.Semicolon e ts rs b h = absurd (false≢true e)
plain_punctuator t W p s punctuator.Question e ts rs b h = absurd (false≢true e)
plain_punctuator t W p s punctuator.Colon e ts rs b h = absurd (false≢true e)
plain_punctuator t W p s _ e ts rs b h = h

plain_step : (s : Step) → is_plain (step_punctuator s) ≡ true
plain_step Up = refl
plain_step Down = refl

plain_prefix : (op : PrefixOp) → is_plain (prefix_punctuator op) ≡ true
plain_prefix before.Address = refl
plain_prefix _ = refl

plain_infix : (op : InfixOp) → is_plain (infix_punctuator op) ≡ true
plain_infix operator.Or = refl
plain_infix _ = refl

plain_assign : (op : AssignOp) → is_plain (assign_punctuator op) ≡ true
plain_assign assign.Plain = refl
plain_assign _ = refl

integer_step : (t : Telling) (W : Kinds → Type 0) (within : Where) (s : List Where) (k : IntegerWord) (ts : Kinds) (rs : Roles) (b : Tagging)
    → Trace t W (site within tagging.Nothing s) ts rs → Trace t W (step (integer_word_text k) (site within b s)) ts rs
integer_step t W p s Char ts rs b h = h
integer_step t W p s Short ts rs b h = h
integer_step t W p s Int ts rs b h = h
integer_step t W p s Long ts rs b h = h
integer_step t W p s Signed ts rs b h = h
integer_step t W p s Unsigned ts rs b h = h

-- each word of a type or of pointers is known
abbrev pub YieldsAll : Telling → Where → Role → Type 1
YieldsAll t within r = (W : Kinds → Type 0) (k : TokenKind) → Reported t W within k r

pub pointers_calm : (t : Telling) (p : Where) (r : Role) → YieldsAll t p r
    → (W : Kinds → Type 0) (s : List Where) (ps : List PointerWord) (ts : Kinds) (rs : Roles) → Calm t (λ y. W (pointers_text ps y)) p s ts rs
    → Calm t W p s (pointers_text ps ts) (each r (pointers_text ps []) rs)
pointers_calm t p r a W s [] ts rs h = h
pointers_calm t p r a W s (pointer.Star ∷ ps) ts rs h = λ b.
    (a W (token.Punctuator punctuator.Star), pointers_calm t p r a (λ y. W (token.Punctuator punctuator.Star ∷ y)) s ps ts rs h tagging.Nothing)
pointers_calm t p r a W s (pointer.Const ∷ ps) ts rs h = λ b.
    (a W (token.Keyword keyword.Const), pointers_calm t p r a (λ y. W (token.Keyword keyword.Const ∷ y)) s ps ts rs h tagging.Nothing)

pub word_calm : (t : Telling) (p : Where) (r : Role) → YieldsAll t p r
    → (W : Kinds → Type 0) (s : List Where) (w : TypeWord) (ts : Kinds) (rs : Roles) → Calm t (λ y. W (type_word_text w y)) p s ts rs
    → Calm t W p s (type_word_text w ts) (each r (type_word_text w []) rs)
word_calm t p r a W s word.Const ts rs h = λ b. (a W (token.Keyword keyword.Const), h tagging.Nothing)
word_calm t p r a W s (word.Integer k) ts rs h = λ b.
    (a W (integer_word_text k), integer_step t (λ y. W (integer_word_text k ∷ y)) p s k ts rs b (h tagging.Nothing))
word_calm t p r a W s word.Void ts rs h = λ b. (a W (token.Keyword keyword.Void), h tagging.Nothing)
word_calm t p r a W s (word.Typedef n) ts rs h = λ b. (a W (token.Name n), h (tag_after b))
word_calm t p r a W s (word.Struct n) ts rs h = λ b.
    (a W (token.Keyword keyword.Struct), (a (λ y. W (token.Keyword keyword.Struct ∷ y)) (token.Name n), h tagging.StructTag))
word_calm t p r a W s (word.Enum n) ts rs h = λ b.
    (a W (token.Keyword keyword.Enum), (a (λ y. W (token.Keyword keyword.Enum ∷ y)) (token.Name n), h tagging.EnumTag))

type_calm : (t : Telling) (p : Where) → YieldsAll t p in_expression
    → (W : Kinds → Type 0) (s : List Where) (ws : List TypeWord) (ps : List PointerWord) (ts : Kinds) (rs : Roles)
    → Calm t (λ y. W (words_text ws (pointers_text ps y))) p s ts rs → Calm t W p s (words_text ws (pointers_text ps ts)) (type_roles ws ps rs)
type_calm t p a W s [] ps ts rs h = pointers_calm t p in_expression a W s ps ts rs h
type_calm t p a W s (word.Const ∷ ws) ps ts rs h = λ b.
    (a W (token.Keyword keyword.Const), type_calm t p a (λ y. W (token.Keyword keyword.Const ∷ y)) s ws ps ts rs h tagging.Nothing)
type_calm t p a W s (word.Integer k ∷ ws) ps ts rs h =
    λ b. (
      a W (integer_word_text k),
      integer_step t (λ y. W (integer_word_text k ∷ y)) p s k (words_text ws (pointers_text ps ts)) (type_roles ws ps rs) b
          (type_calm t p a (λ y. W (integer_word_text k ∷ y)) s ws ps ts rs h tagging.Nothing),
    )
type_calm t p a W s (word.Void ∷ ws) ps ts rs h = λ b.
    (a W (token.Keyword keyword.Void), type_calm t p a (λ y. W (token.Keyword keyword.Void ∷ y)) s ws ps ts rs h tagging.Nothing)
type_calm t p a W s (word.Typedef n ∷ ws) ps ts rs h = λ b.
    (a W (token.Name n), type_calm t p a (λ y. W (token.Name n ∷ y)) s ws ps ts rs h (tag_after b))
type_calm t p a W s (word.Struct n ∷ ws) ps ts rs h =
    λ b. (
      a W (token.Keyword keyword.Struct),
      (
        a (λ y. W (token.Keyword keyword.Struct ∷ y)) (token.Name n),
        type_calm t p a (λ y. W (token.Keyword keyword.Struct ∷ token.Name n ∷ y)) s ws ps ts rs h tagging.StructTag,
      ),
    )
type_calm t p a W s (word.Enum n ∷ ws) ps ts rs h =
    λ b. (
      a W (token.Keyword keyword.Enum),
      (
        a (λ y. W (token.Keyword keyword.Enum ∷ y)) (token.Name n),
        type_calm t p a (λ y. W (token.Keyword keyword.Enum ∷ token.Name n ∷ y)) s ws ps ts rs h tagging.EnumTag,
      ),
    )

-- the expression is allowed at such a site: none of its commas ends what is there
abbrev pub Fits : Part → Written → Type 0
Fits p e = (keeps_commas p ≡ true) ⊎ (1 ≤ level_of e)

fits_deeper : (p : Part) (e : Written) → Fits (deeper p) e
fits_deeper p e = inl (deeper_keeps p)

fits_at : (p : Part) (e f : Written) (n : ℕ) → 1 ≤ n → n ≤ level_of f → Fits p f
fits_at p e f n some b = inr (omega (arith, some, b))

abbrev opening : TokenKind
opening = token.Punctuator punctuator.OpenParenthesis

abbrev closing : TokenKind
closing = token.Punctuator punctuator.CloseParenthesis

abbrev bracket : TokenKind
bracket = token.Punctuator punctuator.OpenBracket

abbrev bracketed : TokenKind
bracketed = token.Punctuator punctuator.CloseBracket

infix_some : (op : InfixOp) → 1 ≤ infix_level op
infix_some operator.Or = omega arith
infix_some _ = omega arith

mutual
  pub expression_calm : (t : Telling) (names : Names) (p : Part) → Asked t p
      → (W : Kinds → Type 0) (s : List Where) (e : Written) (ts : Kinds) (rs : Roles) → IsWell names e → Fits p e
      → Calm t (λ y. W (text e y)) (Inside p) s ts rs → Calm t W (Inside p) s (text e ts) (roles e rs)
  expression_calm t names p a W s (Named n) ts rs is f h = λ b. (token_reported t W p (token.Name n) in_expression refl a, h (tag_after b))
  expression_calm t names p a W s (Numeral n) ts rs is f h = λ b. (token_reported t W p (token.Number n) in_expression refl a, h tagging.Nothing)
  expression_calm t names p a W s (Character v) ts rs is f h = λ b. (token_reported t W p (token.Character v) in_expression refl a, h tagging.Nothing)
  expression_calm t names p a W s (Literal x) ts rs is f h = λ b. (token_reported t W p (token.Text x) in_expression refl a, h tagging.Nothing)
  expression_calm t names p a W s (Enclosed i) ts rs is f h =
      let d = asked_deeper t p a in
      λ b. (
        token_reported t W p opening in_expression refl a,
        expression_calm t names (deeper p) d (λ y. W (opening ∷ y)) (Inside p ∷ s) i (closing ∷ ts) (in_expression ∷ rs) is (fits_deeper p i)
            (λ c. (token_reported t (λ y. W (opening ∷ text i y)) (deeper p) closing in_expression refl d, h tagging.Nothing)) tagging.Nothing,
      )
  expression_calm t names p a W s (Index o n) ts rs is f h =
      let d = asked_deeper t p a in
      expression_calm t names p a W s o (bracket ∷ text n (bracketed ∷ ts)) (in_expression ∷ roles n (in_expression ∷ rs)) is.1
      (fits_at p (Index o n) o 15 (omega arith) is.0)
      (λ b. (
        token_reported t (λ y. W (text o y)) p bracket in_expression refl a,
        expression_calm t names (deeper p) d (λ y. W (text o (bracket ∷ y))) (Inside p ∷ s) n (bracketed ∷ ts) (in_expression ∷ rs) is.2
            (fits_deeper p n)
            (λ c. (token_reported t (λ y. W (text o (bracket ∷ text n y))) (deeper p) bracketed in_expression refl d, h tagging.Nothing)) tagging.Nothing,
      ))
  expression_calm t names p a W s (Call o es) ts rs is f h =
      let d = asked_deeper t p a in
      expression_calm t names p a W s o (opening ∷ listed es (closing ∷ ts)) (in_expression ∷ roles_listed es (in_expression ∷ rs)) is.1
      (fits_at p (Call o es) o 15 (omega arith) is.0)
      (λ b. (
        token_reported t (λ y. W (text o y)) p opening in_expression refl a,
        listed_calm t names (deeper p) (deeper_keeps p) d (λ y. W (text o (opening ∷ y))) (Inside p ∷ s) 1 es (closing ∷ ts) (in_expression ∷ rs) is.2
            (λ c. (token_reported t (λ y. W (text o (opening ∷ listed es y))) (deeper p) closing in_expression refl d, h tagging.Nothing)) tagging.Nothing,
      ))
  expression_calm t names p a W s (Member o n) ts rs is f h =
      expression_calm t names p a W s o (token.Punctuator punctuator.Dot ∷ token.Name n ∷ ts) (in_expression ∷ in_expression ∷ rs) is.1
      (fits_at p (Member o n) o 15 (omega arith) is.0)
      (λ b. (
        token_reported t (λ y. W (text o y)) p (token.Punctuator punctuator.Dot) in_expression refl a,
        (token_reported t (λ y. W (text o (token.Punctuator punctuator.Dot ∷ y))) p (token.Name n) in_expression refl a, h tagging.Nothing),
      ))
  expression_calm t names p a W s (Arrow o n) ts rs is f h =
      expression_calm t names p a W s o (token.Punctuator punctuator.Arrow ∷ token.Name n ∷ ts) (in_expression ∷ in_expression ∷ rs) is.1
      (fits_at p (Arrow o n) o 15 (omega arith) is.0)
      (λ b. (
        token_reported t (λ y. W (text o y)) p (token.Punctuator punctuator.Arrow) in_expression refl a,
        (token_reported t (λ y. W (text o (token.Punctuator punctuator.Arrow ∷ y))) p (token.Name n) in_expression refl a, h tagging.Nothing),
      ))
  expression_calm t names p a W s (StepAfter q o) ts rs is f h =
      expression_calm t names p a W s o (token.Punctuator (step_punctuator q) ∷ ts) (in_expression ∷ rs) is.1
      (fits_at p (StepAfter q o) o 15 (omega arith) is.0)
      (λ b. (
        token_reported t (λ y. W (text o y)) p (token.Punctuator (step_punctuator q)) in_expression refl a,
        plain_punctuator t (λ y. W (text o (token.Punctuator (step_punctuator q) ∷ y))) p s (step_punctuator q) (plain_step q) ts rs b (h tagging.Nothing),
      ))
  expression_calm t names p a W s (StepBefore q o) ts rs is f h =
      λ b. (
        token_reported t W p (token.Punctuator (step_punctuator q)) in_expression refl a,
        plain_punctuator t (λ y. W (token.Punctuator (step_punctuator q) ∷ y)) p s (step_punctuator q) (plain_step q) (text o ts) (roles o rs) b
            (expression_calm t names p a (λ y. W (token.Punctuator (step_punctuator q) ∷ y)) s o ts rs is.1
            (fits_at p (StepBefore q o) o 14 (omega arith) is.0) h tagging.Nothing),
      )
  expression_calm t names p a W s (Prefix op o) ts rs is f h =
      λ b. (
        token_reported t W p (token.Punctuator (prefix_punctuator op)) in_expression refl a,
        plain_punctuator t (λ y. W (token.Punctuator (prefix_punctuator op) ∷ y)) p s (prefix_punctuator op) (plain_prefix op) (text o ts) (roles o rs) b
            (expression_calm t names p a (λ y. W (token.Punctuator (prefix_punctuator op) ∷ y)) s o ts rs is.1
            (fits_at p (Prefix op o) o 13 (omega arith) is.0) h tagging.Nothing),
      )
  expression_calm t names p a W s (SizeOf o) ts rs is f h =
      λ b. (
        token_reported t W p (token.Keyword keyword.Sizeof) in_expression refl a,
        expression_calm t names p a (λ y. W (token.Keyword keyword.Sizeof ∷ y)) s o ts rs is.1 (fits_at p (SizeOf o) o 14 (omega arith) is.0) h
            tagging.Nothing,
      )
  expression_calm t names p a W s (SizeOfType ws ps bs) ts rs is f h =
      let d = asked_deeper t p a in
      λ b. (
        token_reported t W p (token.Keyword keyword.Sizeof) in_expression refl a,
        (
          token_reported t (λ y. W (token.Keyword keyword.Sizeof ∷ y)) p opening in_expression refl a,
          type_calm t (Inside (deeper p)) (λ V k. token_reported t V (deeper p) k in_expression refl d)
              (λ y. W (token.Keyword keyword.Sizeof ∷ opening ∷ y)) (Inside p ∷ s) ws ps (bounds_text bs (closing ∷ ts))
              (roles_of_bounds bs (closes_type ∷ rs))
              (bounds_calm t names (deeper p) d (λ y. W (token.Keyword keyword.Sizeof ∷ opening ∷ words_text ws (pointers_text ps y))) (Inside p ∷ s) bs
              (closing ∷ ts) (closes_type ∷ rs) is.2
              (λ c. (
                token_reported t (λ y. W (token.Keyword keyword.Sizeof ∷ opening ∷ words_text ws (pointers_text ps (bounds_text bs y)))) (deeper p) closing
                    closes_type refl d,
                h tagging.Nothing,
              ))) tagging.Nothing,
        ),
      )
  expression_calm t names p a W s (Cast ws ps bs o) ts rs is f h =
      let d = asked_deeper t p a in
      λ b. (
        token_reported t W p opening in_expression refl a,
        type_calm t (Inside (deeper p)) (λ V k. token_reported t V (deeper p) k in_expression refl d) (λ y. W (opening ∷ y)) (Inside p ∷ s) ws ps
            (bounds_text bs (closing ∷ text o ts)) (roles_of_bounds bs (closes_type ∷ roles o rs))
            (bounds_calm t names (deeper p) d (λ y. W (opening ∷ words_text ws (pointers_text ps y))) (Inside p ∷ s) bs (closing ∷ text o ts)
            (closes_type ∷ roles o rs) is.2
            (λ c. (
              token_reported t (λ y. W (opening ∷ words_text ws (pointers_text ps (bounds_text bs y)))) (deeper p) closing closes_type refl d,
              expression_calm t names p a (λ y. W (opening ∷ words_text ws (pointers_text ps (bounds_text bs (closing ∷ y))))) s o ts rs is.4
                  (fits_at p (Cast ws ps bs o) o 13 (omega arith) is.3) h tagging.Nothing,
            ))) tagging.Nothing,
      )
  expression_calm t names p a W s (Infix op l r) ts rs is f h =
      let some = infix_some op in
      let high = is.2 in
      expression_calm t names p a W s l (token.Punctuator (infix_punctuator op) ∷ text r ts) (in_expression ∷ roles r rs) is.1
      (fits_at p (Infix op l r) l (infix_level op) some is.0)
      (λ b. (
        token_reported t (λ y. W (text l y)) p (token.Punctuator (infix_punctuator op)) in_expression refl a,
        plain_punctuator t (λ y. W (text l (token.Punctuator (infix_punctuator op) ∷ y))) p s (infix_punctuator op) (plain_infix op) (text r ts) (roles r rs)
            b
            (expression_calm t names p a (λ y. W (text l (token.Punctuator (infix_punctuator op) ∷ y))) s r ts rs is.3 (inr (omega (arith, some, high))) h
            tagging.Nothing),
      ))
  expression_calm t names p a W s (Choice e o z) ts rs is f h =
      let d = asked_chosen t p a in
      expression_calm t names p a W s e (token.Punctuator punctuator.Question ∷ text o (token.Punctuator punctuator.Colon ∷ text z ts))
      (in_expression ∷ roles o (in_expression ∷ roles z rs)) is.1 (fits_at p (Choice e o z) e 3 (omega arith) is.0)
      (λ b. (
        token_reported t (λ y. W (text e y)) p (token.Punctuator punctuator.Question) in_expression refl a,
        expression_calm t names (chosen p) d (λ y. W (text e (token.Punctuator punctuator.Question ∷ y))) (Inside p ∷ s) o
            (token.Punctuator punctuator.Colon ∷ text z ts) (in_expression ∷ roles z rs) is.2 (inl (chosen_keeps p))
            (λ c. (
              token_reported t (λ y. W (text e (token.Punctuator punctuator.Question ∷ text o y))) (chosen p) (token.Punctuator punctuator.Colon)
                  in_expression refl d,
              colon_step t (λ y. W (text e (token.Punctuator punctuator.Question ∷ text o (token.Punctuator punctuator.Colon ∷ y)))) p s (text z ts)
                  (roles z rs) c
                  (expression_calm t names p a (λ y. W (text e (token.Punctuator punctuator.Question ∷ text o (token.Punctuator punctuator.Colon ∷ y)))) s
                  z ts rs is.4 (fits_at p (Choice e o z) z 2 (omega arith) is.3) h tagging.Nothing),
            )) tagging.Nothing,
      ))
  expression_calm t names p a W s (Assign op l r) ts rs is f h =
      expression_calm t names p a W s l (token.Punctuator (assign_punctuator op) ∷ text r ts) (in_expression ∷ roles r rs) is.1
      (fits_at p (Assign op l r) l 14 (omega arith) is.0)
      (λ b. (
        token_reported t (λ y. W (text l y)) p (token.Punctuator (assign_punctuator op)) in_expression refl a,
        plain_punctuator t (λ y. W (text l (token.Punctuator (assign_punctuator op) ∷ y))) p s (assign_punctuator op) (plain_assign op) (text r ts)
            (roles r rs) b
            (expression_calm t names p a (λ y. W (text l (token.Punctuator (assign_punctuator op) ∷ y))) s r ts rs is.3
            (fits_at p (Assign op l r) r 1 (omega arith) is.2) h tagging.Nothing),
      ))
  expression_calm t names p a W s (Comma l r) ts rs is f h =
      let keeps : keeps_commas p ≡ true = elim f [ inl k ↦ k | inr low ↦ absurd (omega (arith, low)) ] in
      expression_calm t names p a W s l (token.Punctuator punctuator.Comma ∷ text r ts) (in_expression ∷ roles r rs) is.0 (inl keeps)
      (λ b. (
        token_reported t (λ y. W (text l y)) p (token.Punctuator punctuator.Comma) in_expression refl a,
        comma_step t (λ y. W (text l (token.Punctuator punctuator.Comma ∷ y))) p keeps s (text r ts) (roles r rs) b
            (expression_calm t names p a (λ y. W (text l (token.Punctuator punctuator.Comma ∷ y))) s r ts rs is.2 (inl keeps) h tagging.Nothing),
      ))

  listed_calm : (t : Telling) (names : Names) (p : Part) → keeps_commas p ≡ true → Asked t p
      → (W : Kinds → Type 0) (s : List Where) (level : ℕ) (es : WrittenList) (ts : Kinds) (rs : Roles) → ArePhrases names level es
      → Calm t (λ y. W (listed es y)) (Inside p) s ts rs → Calm t W (Inside p) s (listed es ts) (roles_listed es rs)
  listed_calm t names p k a W s level End ts rs are h = h
  listed_calm t names p k a W s level (More e es) ts rs are h =
      expression_calm t names p a W s e (after_commas es ts) (roles_after_commas es rs) are.1 (inl k)
      (commas_calm t names p k a (λ y. W (text e y)) s level es ts rs are.2 h)

  commas_calm : (t : Telling) (names : Names) (p : Part) → keeps_commas p ≡ true → Asked t p
      → (W : Kinds → Type 0) (s : List Where) (level : ℕ) (es : WrittenList) (ts : Kinds) (rs : Roles) → ArePhrases names level es
      → Calm t (λ y. W (after_commas es y)) (Inside p) s ts rs → Calm t W (Inside p) s (after_commas es ts) (roles_after_commas es rs)
  commas_calm t names p k a W s level End ts rs are h = h
  commas_calm t names p k a W s level (More e es) ts rs are h =
      λ b. (
        token_reported t W p (token.Punctuator punctuator.Comma) in_expression refl a,
        comma_step t (λ y. W (token.Punctuator punctuator.Comma ∷ y)) p k s (text e (after_commas es ts)) (roles e (roles_after_commas es rs)) b
            (expression_calm t names p a (λ y. W (token.Punctuator punctuator.Comma ∷ y)) s e (after_commas es ts) (roles_after_commas es rs) are.1 (inl k)
            (commas_calm t names p k a (λ y. W (token.Punctuator punctuator.Comma ∷ text e y)) s level es ts rs are.2 h) tagging.Nothing),
      )

  bounds_calm : (t : Telling) (names : Names) (p : Part) → Asked t p
      → (W : Kinds → Type 0) (s : List Where) (es : WrittenList) (ts : Kinds) (rs : Roles) → ArePhrases names CHOICE es
      → Calm t (λ y. W (bounds_text es y)) (Inside p) s ts rs → Calm t W (Inside p) s (bounds_text es ts) (roles_of_bounds es rs)
  bounds_calm t names p a W s End ts rs are h = h
  bounds_calm t names p a W s (More e es) ts rs are h =
      let d = asked_deeper t p a in
      λ b. (
        token_reported t W p bracket in_expression refl a,
        expression_calm t names (deeper p) d (λ y. W (bracket ∷ y)) (Inside p ∷ s) e (bracketed ∷ bounds_text es ts)
            (in_expression ∷ roles_of_bounds es rs) are.1 (fits_deeper p e)
            (λ c. (
              token_reported t (λ y. W (bracket ∷ text e y)) (deeper p) bracketed in_expression refl d,
              bounds_calm t names p a (λ y. W (bracket ∷ text e (bracketed ∷ y))) s es ts rs are.2 h tagging.Nothing,
            )) tagging.Nothing,
      )

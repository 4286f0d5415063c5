-- The tokens of declarations with their roles: where a declarator's name is, pointers and another name might be. For the contract
-- of `token_for_name`.
use Rattle.std.proofs.Common.{◌≡◌, ◌≢◌, ℕ, ◌⊎◌, inl, inr, Bool, true, false, IsTrue, List, [], ◌∷◌, Option, Some, None, MatchOption}
use Rattle.std.proofs.Common.{refl, sym, ap, subst}
use Rattle.std.proofs.lemmas.Bool.{false≢true}
use Rattle.cs_ast.specs.declared.token.TokenKind.{TokenKind}
use Rattle.cs_ast.specs.declared.token.TokenKind.TheVariants as token
use Rattle.cs_ast.specs.declared.token.Keyword.TheVariants as keyword
use Rattle.cs_ast.specs.declared.token.Punctuator.TheVariants as punctuator
use Rattle.cs_ast.specs.declared.raw.written_type.TypeWord.TheVariants as word
use Rattle.cs_ast.specs.declared.raw.written_type.PointerWord.{PointerWord}
use Rattle.cs_ast.specs.declared.raw.written_type.PointerWord.TheVariants as pointer
use Rattle.cs_ast.specs.RawTree.{Written}
use Rattle.cs_ast.specs.RawDeclarations.{Constant, Spec, Static, Plain, StructBody, EnumBody, Specs, NoSpec, MoreSpecs, Members, NoMember, MoreMembers, Initial}
use Rattle.cs_ast.specs.RawDeclarations.{Single, Listed as ListedItems, Initials, NoItem as NoInitial, MoreItems as MoreInitials, Parameter, Parameters}
use Rattle.cs_ast.specs.RawDeclarations.{NoParameter, VoidAlone, ParameterList, Head}
use Rattle.cs_grammar.specs.TypeWords.{Names, is_type, is_pointer}
use Rattle.cs_grammar.specs.Text.{Kinds, text, pointers_text}
use Rattle.cs_grammar.specs.Phrases.{IsPhrase}
use Rattle.cs_grammar.specs.FileText.{comma_text, each_after_comma, with_commas, name_text, brackets_text, declarator_text, value_text, constant_text}
use Rattle.cs_grammar.specs.FileText.{spec_text, specs_text, members_text, initial_text, further_initials_text, first_value_text, declared_text, parameter_text}
use Rattle.cs_grammar.specs.FileText.{parameters_text, head_text}
use Rattle.cs_grammar.specs.FilePhrases.{AreAll, IsSomeList, words_of, IsFree, IsBound, IsFullBound, IsDeclaratorOf, IsConstant, HaveBodies, HasBody}
use Rattle.cs_grammar.specs.FilePhrases.{AreMembers, IsInitial, AreInitials, IsDeclared, IsParameter, lone_void, AreParameters, IsHead}
use Rattle.cs_grammar.specs.Roles.{Role, another, declared_name, after_member, opens_list, Roles, each, roles, comma_roles, each_after, between, brackets_roles}
use Rattle.cs_grammar.specs.Roles.{declarator_roles, value_roles, constant_roles, spec_roles, specs_roles, members_roles, initial_roles, further_initials_roles}
use Rattle.cs_grammar.specs.Roles.{first_value_roles, declared_roles, name_roles, parameter_roles, parameters_roles, head_roles}
use Rattle.cs_unsupported.specs.declared.declarators.Joint.{Joint}
use Rattle.cs_unsupported.specs.declared.declarators.Joint.TheVariants.{Barred, Listed, Open}
use Rattle.cs_unsupported.proofs.NameTraces.{star, opening, World, Declares, is_barred, is_open, is_name, NextReported, Trace, NewName, unnamed, IsKnown}
use Rattle.cs_unsupported.proofs.NameTraces.{AreKnown, words_known, word_trace, pointers_trace, expression_trace}

abbrev closing : TokenKind
closing = token.Punctuator punctuator.CloseParenthesis

abbrev bracket : TokenKind
bracket = token.Punctuator punctuator.OpenBracket

abbrev bracketed : TokenKind
bracketed = token.Punctuator punctuator.CloseBracket

abbrev opened : TokenKind
opened = token.Punctuator punctuator.OpenBrace

abbrev closed : TokenKind
closed = token.Punctuator punctuator.CloseBrace

abbrev comma : TokenKind
comma = token.Punctuator punctuator.Comma

abbrev semicolon : TokenKind
semicolon = token.Punctuator punctuator.Semicolon

abbrev equal : TokenKind
equal = token.Punctuator punctuator.Equal

-- a kind of declarators: which names they have, and which bounds
pub record Kind (x : NewName) : Type 1 where
  pub IsName : List ℕ → Type 0
  pub IsBoundHere : Option Written → Type 0
  pub new : IsName x.name
  pub made : (e : Written) → IsPhrase x.names 2 e → IsBoundHere (Some e)
  pub phrase : (e : Written) → IsBoundHere (Some e) → IsPhrase x.names 2 e

-- the declarators of objects, and those of members
abbrev pub object : (x : NewName) → Kind x
object x = record { IsName = IsFree x.names; IsBoundHere = IsBound x.names; new = x.free; made = λ e p. p; phrase = λ e p. p }

abbrev pub member : (x : NewName) → Kind x
member x = record { IsName = λ name. Unit {0}; IsBoundHere = IsFullBound x.names; new = tt; made = λ e p. p; phrase = λ e p. p }

-- bounds between brackets
brackets_trace : (x : NewName) (k : Kind x) (W : World) (us : Kinds) (qs : Roles) (bs : List (Option Written)) (ts : Kinds) (rs : Roles)
    → AreAll k.IsBoundHere bs → ((others : List (Option Written)) → IsSomeList others → AreAll k.IsBoundHere others
    → W (brackets_text others us) (brackets_roles others qs)) → Trace x.name (λ y q. W (brackets_text bs y) (brackets_roles bs q)) Open ts rs
    → Trace x.name W Open (brackets_text bs ts) (brackets_roles bs rs)
brackets_trace x k W us qs [] ts rs are g h = h
brackets_trace x k W us qs (None ∷ bs) ts rs are g h = (
  (tt, tt),
  (
    (tt, tt),
    brackets_trace x k (λ y q. W (bracket ∷ bracketed ∷ y) (another ∷ another ∷ q)) us qs bs ts rs are.1
        (λ bs' some all. g (None ∷ bs') tt (are.0, all)) h,
  ),
)
brackets_trace x k W us qs (Some e ∷ bs) ts rs are g h =
    let p = k.phrase e are.0 in (
      (tt, tt),
      expression_trace x (λ y q. W (bracket ∷ y) (another ∷ q)) (bracketed ∷ brackets_text bs us) (another ∷ brackets_roles bs qs) 2 Open e
          (bracketed ∷ brackets_text bs ts) (another ∷ brackets_roles bs rs) p.0 p.1
          (λ e' b w. g (Some e' ∷ bs) tt (k.made e' (b, w), are.1)) (
            (tt, tt),
            brackets_trace x k (λ y q. W (bracket ∷ text e (bracketed ∷ y)) (another ∷ roles e (another ∷ q))) us qs bs ts rs are.1
                (λ bs' some all. g (Some e ∷ bs') tt (are.0, all)) h,
          ),
    )

-- pointers and such a name may come before these tokens
abbrev Pointed : World → (List PointerWord → Type 0) → (List ℕ → Type 0) → Kinds → Roles → Type 0
Pointed W ArePointers IsName us qs =
    (ps : List PointerWord) (m : List ℕ) → ArePointers ps → IsName m
    → W (pointers_text ps (token.Name m ∷ us)) (each another (pointers_text ps []) (declared_name ∷ qs))

abbrev AnyPointers : List PointerWord → Type 0
AnyPointers ps = Unit {0}

abbrev RightPointers : List PointerWord → Type 0
RightPointers ps = IsTrue (is_pointer ps)

name_next : (new : List ℕ) (W : World) (m : List ℕ) (j : Joint) → NextReported new W (token.Name m) j declared_name
name_next new W m Open = λ e. inl refl
name_next new W m Barred = tt
name_next new W m Listed = tt

star_next : (new : List ℕ) (W : World) (j : Joint) (r : Role) → Declares W → NextReported new W star j r
star_next new W Listed r d = inr d
star_next new W Open r d = tt
star_next new W Barred r d = tt

-- more pointers and the name
further_pointed : (new : List ℕ) (W : World) (IsName : List ℕ
    → Type 0) (us : Kinds) (qs : Roles) (ps : List PointerWord) (m : List ℕ) (ts : Kinds) (rs : Roles) → IsName m → IsName new
    → Pointed W AnyPointers IsName us qs
    → Trace new (λ y q. W (pointers_text ps (token.Name m ∷ y)) (each another (pointers_text ps []) (declared_name ∷ q))) Open ts rs
    → Trace new W Open (pointers_text ps (token.Name m ∷ ts)) (each another (pointers_text ps []) (declared_name ∷ rs))
further_pointed new W IsName us qs [] m ts rs is free g h = (
  (
    (refl, (token.Name m ∷ us, another ∷ declared_name ∷ qs, g (pointer.Star ∷ []) m tt is), (us, declared_name ∷ qs, g [] new tt free)),
    name_next new W m Open,
  ),
  h,
)
further_pointed new W IsName us qs (pointer.Star ∷ ps) m ts rs is free g h = (
  (tt, tt),
  further_pointed new (λ y q. W (star ∷ y) (another ∷ q)) IsName us qs ps m ts rs is free (λ ps' m' any is'. g (pointer.Star ∷ ps') m' tt is') h,
)
further_pointed new W IsName us qs (pointer.Const ∷ ps) m ts rs is free g h = (
  (tt, tt),
  further_pointed new (λ y q. W (token.Keyword keyword.Const ∷ y) (another ∷ q)) IsName us qs ps m ts rs is free
      (λ ps' m' any is'. g (pointer.Const ∷ ps') m' tt is') h,
)

-- a declarator's pointers and name
pointed_trace : (new : List ℕ) (W : World) (IsName : List ℕ
    → Type 0) (us : Kinds) (qs : Roles) (j : Joint) (ps : List PointerWord) (m : List ℕ) (ts : Kinds) (rs : Roles) → is_barred j ≡ false
    → IsTrue (is_pointer ps) → IsName m → IsName new → Pointed W RightPointers IsName us qs
    → Trace new (λ y q. W (pointers_text ps (token.Name m ∷ y)) (each another (pointers_text ps []) (declared_name ∷ q))) Open ts rs
    → Trace new W j (pointers_text ps (token.Name m ∷ ts)) (each another (pointers_text ps []) (declared_name ∷ rs))
pointed_trace new W IsName us qs j [] m ts rs clear right is free g h = (
  (
    (clear, (token.Name m ∷ us, another ∷ declared_name ∷ qs, g (pointer.Star ∷ []) m refl is), (us, declared_name ∷ qs, g [] new refl free)),
    name_next new W m j,
  ),
  h,
)
pointed_trace new W IsName us qs j (pointer.Star ∷ ps) m ts rs clear right is free g h = (
  (tt, star_next new W j another (m, us, qs, g [] m refl is)),
  further_pointed new (λ y q. W (star ∷ y) (another ∷ q)) IsName us qs ps m ts rs is free (λ ps' m' any is'. g (pointer.Star ∷ ps') m' refl is') h,
)
pointed_trace new W IsName us qs j (pointer.Const ∷ ps) m ts rs clear right is free g h = absurd (false≢true right)

-- what holds for each phrase of a kind, after these joints, if others of this kind are allowed in its place
abbrev pub Each : {A : Type 0} → List ℕ → (Joint → Type 0) → (A → Kinds → Kinds) → (A → Roles → Roles) → (A → Type 0) → (A → Type 0)
    → Type 1
Each {A} new Before of roles_of Is Other =
    (W : World) (us : Kinds) (qs : Roles) (j : Joint) (a : A) (ts : Kinds) (rs : Roles) → Before j → Is a
    → ((other : A) → Is other → Other other → W (of other us) (roles_of other qs)) → Trace new (λ y q. W (of a y) (roles_of a q)) Open ts rs
    → Trace new W j (of a ts) (roles_of a rs)

-- it holds for one of the list
abbrev pub OneIs : {A : Type 0} → (A → Type 0) → List A → Type 0
OneIs Is [] = ⊥
OneIs Is (a ∷ all) = Is a ⊎ OneIs Is all

-- each of a list after a comma, which has this role
commas_each : {A : Type 0} (new : List ℕ) (Before : Joint → Type 0) (of : A → Kinds → Kinds) (roles_of : A → Roles → Roles) (Is Other : A
    → Type 0) → Each new Before of roles_of Is Other → Before Listed → (r : Role) → is_name r ≡ false
    → (W : World) (us : Kinds) (qs : Roles) (all : List A) (ts : Kinds) (rs : Roles) → AreAll Is all
    → ((others : List A) → AreAll Is others → OneIs Other others → W (each_after_comma of others us) (each_after r roles_of others qs))
    → Trace new (λ y q. W (each_after_comma of all y) (each_after r roles_of all q)) Open ts rs
    → Trace new W Open (each_after_comma of all ts) (each_after r roles_of all rs)
commas_each new Before of roles_of Is Other one listed r e W us qs [] ts rs are g h = h
commas_each new Before of roles_of Is Other one listed r e W us qs (a ∷ all) ts rs are g h = (
  (unnamed new W Open r e, tt),
  one (λ y q. W (comma ∷ y) (r ∷ q)) (each_after_comma of all us) (each_after r roles_of all qs) Listed a (each_after_comma of all ts)
      (each_after r roles_of all rs) listed are.0 (λ a' is other. g (a' ∷ all) (is, are.1) (inl other))
      (commas_each new Before of roles_of Is Other one listed r e (λ y q. W (comma ∷ of a y) (r ∷ roles_of a q)) us qs all ts rs are.1
      (λ all' is other. g (a ∷ all') (are.0, is) (inr other)) h),
)

-- a list of at least one of them
pub list_each : {A : Type 0} (new : List ℕ) (Before : Joint → Type 0) (of : A → Kinds → Kinds) (roles_of : A → Roles → Roles) (Is Other : A
    → Type 0) → Each new Before of roles_of Is Other → Before Listed → (r : Role) → is_name r ≡ false
    → (W : World) (us : Kinds) (qs : Roles) (j : Joint) (all : List A) (ts : Kinds) (rs : Roles) → Before j → IsSomeList all → AreAll Is all
    → ((others : List A) → IsSomeList others → AreAll Is others → OneIs Other others → W (with_commas of others us) (between r roles_of others qs))
    → Trace new (λ y q. W (with_commas of all y) (between r roles_of all q)) Open ts rs → Trace new W j (with_commas of all ts) (between r roles_of all rs)
list_each new Before of roles_of Is Other one listed r e W us qs j [] ts rs before some are g h = absurd some
list_each new Before of roles_of Is Other one listed r e W us qs j (a ∷ all) ts rs before some are g h =
    one W (each_after_comma of all us) (each_after r roles_of all qs) j a (each_after_comma of all ts) (each_after r roles_of all rs) before are.0
    (λ a' is other. g (a' ∷ all) tt (is, are.1) (inl other))
    (commas_each new Before of roles_of Is Other one listed r e (λ y q. W (of a y) (roles_of a q)) us qs all ts rs are.1
    (λ all' is other. g (a ∷ all') tt (are.0, is) (inr other)) h)

abbrev pub IsClear : Joint → Type 0
IsClear j = is_barred j ≡ false

abbrev pub Anything : {A : Type 0} → A → Type 0
Anything a = Unit {0}

pub declarator_trace : (x : NewName) (k : Kind x) → Each x.name IsClear declarator_text declarator_roles (IsDeclaratorOf k.IsName k.IsBoundHere) Anything
declarator_trace x k W us qs j d ts rs clear is g h =
    pointed_trace x.name W k.IsName (brackets_text d.bounds us) (brackets_roles d.bounds qs) j d.pointers d.name (brackets_text d.bounds ts)
    (brackets_roles d.bounds rs) clear is.pointers is.named k.new
    (λ ps m right named. g (record { pointers = ps; name = m; bounds = d.bounds }) (record { pointers = right; named = named; bounds = is.bounds }) tt)
    (brackets_trace x k (λ y q. W (pointers_text d.pointers (token.Name d.name ∷ y)) (each another (pointers_text d.pointers []) (declared_name ∷ q))) us
    qs d.bounds ts rs is.bounds
    (λ bs some all. g (record { pointers = d.pointers; name = d.name; bounds = bs }) (record { pointers = is.pointers; named = is.named; bounds = all }) tt) h)

-- a constant of an enumeration is after a brace or a comma
abbrev IsShut : Joint → Type 0
IsShut j = is_open j ≡ false

shut_name : (new : List ℕ) (W : World) (m : List ℕ) (j : Joint) (r : Role) → is_open j ≡ false → NextReported new W (token.Name m) j r
shut_name new W m Open r e = absurd (false≢true (sym e))
shut_name new W m Barred r e = tt
shut_name new W m Listed r e = tt

value_trace : (x : NewName) (W : World) (us : Kinds) (qs : Roles) (v : Option Written) (ts : Kinds) (rs : Roles)
    → MatchOption v (Unit {0}) (IsPhrase x.names 2)
    → ((other : Option Written) → MatchOption other (Unit {0}) (IsPhrase x.names 2) → W (value_text other us) (value_roles other qs))
    → Trace x.name (λ y q. W (value_text v y) (value_roles v q)) Open ts rs → Trace x.name W Open (value_text v ts) (value_roles v rs)
value_trace x W us qs None ts rs is g h = h
value_trace x W us qs (Some e) ts rs is g h =
    ((tt, tt), expression_trace x (λ y q. W (equal ∷ y) (another ∷ q)) us qs 2 Open e ts rs is.0 is.1 (λ e' b w. g (Some e') (b, w)) h)

constant_trace : (x : NewName) → Each x.name IsShut constant_text constant_roles (IsConstant x.names) Anything
constant_trace x W us qs j c ts rs shut is g h = (
  (tt, shut_name x.name W c.name j another shut),
  value_trace x (λ y q. W (token.Name c.name ∷ y) (another ∷ q)) us qs c.value ts rs is.value
      (λ v p. g (record { name = c.name; value = v }) (record { free = is.free; value = p }) tt) h,
)

comma_trace : (new : List ℕ) (W : World) (b : Bool) (ts : Kinds) (rs : Roles)
    → ((j : Joint) → Trace new (λ y q. W (comma_text b y) (comma_roles b q)) j ts rs) → Trace new W Open (comma_text b ts) (comma_roles b rs)
comma_trace new W false ts rs h = h Open
comma_trace new W true ts rs h = ((tt, tt), h Listed)

-- the constants of an enumeration, and the brace after them
constants_trace : (x : NewName) (W : World) (us : Kinds) (qs : Roles) (cs : List Constant) (b : Bool) (ts : Kinds) (rs : Roles) → IsSomeList cs
    → AreAll (IsConstant x.names) cs
    → ((others : List Constant) → IsSomeList others → AreAll (IsConstant x.names) others
    → W (with_commas constant_text others (comma_text b (closed ∷ us))) (between another constant_roles others (comma_roles b (another ∷ qs))))
    → Trace x.name (λ y q.
    W (with_commas constant_text cs (comma_text b (closed ∷ y))) (between another constant_roles cs (comma_roles b (another ∷ q)))) Open ts rs
    → Trace x.name W Barred (with_commas constant_text cs (comma_text b (closed ∷ ts))) (between another constant_roles cs (comma_roles b (another ∷ rs)))
constants_trace x W us qs cs b ts rs some are g h =
    list_each x.name IsShut constant_text constant_roles (IsConstant x.names) Anything (constant_trace x) refl another refl W (comma_text b (closed ∷ us))
    (comma_roles b (another ∷ qs)) Barred cs (comma_text b (closed ∷ ts)) (comma_roles b (another ∷ rs)) refl some are
    (λ cs' some' all other. g cs' some' all)
    (comma_trace x.name (λ y q. W (with_commas constant_text cs y) (between another constant_roles cs q)) b (closed ∷ ts) (another ∷ rs)
    (λ j. ((tt, tt), h)))

-- the words among these are known names
abbrev IsKnownSpec : Names → Spec → Type 0
IsKnownSpec names (Plain w) = IsKnown names w
IsKnownSpec names other = Unit {0}

abbrev pub AreKnownSpecs : Names → Specs → Type 0
AreKnownSpecs names NoSpec = Unit {0}
AreKnownSpecs names (MoreSpecs first others) = IsKnownSpec names first × AreKnownSpecs names others

pub specs_known : (names : Names) (specs : Specs) → AreKnown names (words_of specs) → AreKnownSpecs names specs
specs_known names NoSpec k = tt
specs_known names (MoreSpecs Static others) k = (tt, specs_known names others k)
specs_known names (MoreSpecs (Plain w) others) k = (k.0, specs_known names others k.1)
specs_known names (MoreSpecs (StructBody tag members) others) k = (tt, specs_known names others k.1)
specs_known names (MoreSpecs (EnumBody tag constants b) others) k = (tt, specs_known names others k.1)

-- the specifier has a body
abbrev IsBody : Spec → Type 0
IsBody (StructBody tag members) = Unit {0}
IsBody (EnumBody tag constants b) = Unit {0}
IsBody other = ⊥

abbrev HasSomeBody : Specs → Type 0
HasSomeBody NoSpec = ⊥
HasSomeBody (MoreSpecs first others) = IsBody first ⊎ HasSomeBody others

-- another body is allowed in place of one
abbrev TakesBodies : World → Names → Spec → Kinds → Roles → Type 0
TakesBodies W names first us qs =
    (other : Spec) → IsBody other → ((rest : Specs) → words_of (MoreSpecs other rest) ≡ words_of (MoreSpecs first rest)) → HasBody names other
    → W (spec_text other us) (spec_roles other qs)

abbrev TakesSpecs : World → Names → Specs → Kinds → Roles → Type 0
TakesSpecs W names specs us qs = (other : Specs) → HasSomeBody other → words_of other ≡ words_of specs → HaveBodies names other
    → W (specs_text other us) (specs_roles other qs)

same_after : (first : Spec) (a b : Specs) → words_of a ≡ words_of b → words_of (MoreSpecs first a) ≡ words_of (MoreSpecs first b)
same_after Static a b e = e
same_after (Plain w) a b e = ap (λ ws. w ∷ ws) e
same_after (StructBody tag members) a b e = ap (λ ws. word.Struct [] ∷ ws) e
same_after (EnumBody tag constants last) a b e = ap (λ ws. word.Enum [] ∷ ws) e

mutual
  -- the members of a structure, whatever comes before
  members_trace : (x : NewName) (W : World) (us : Kinds) (qs : Roles) (j : Joint) (m : Members) (ts : Kinds) (rs : Roles) → AreMembers x.names m
      → ((others : Members) → AreMembers x.names others → W (members_text others us) (members_roles others qs))
      → ((i : Joint) → Trace x.name (λ y q. W (members_text m y) (members_roles m q)) i ts rs)
      → Trace x.name W j (members_text m ts) (members_roles m rs)
  members_trace x W us qs j NoMember ts rs is g h = h j
  members_trace x W us qs j (MoreMembers specs ds m) ts rs is g h =
      specs_trace x W (with_commas declarator_text ds (semicolon ∷ members_text m us))
      (between after_member declarator_roles ds (after_member ∷ members_roles m qs)) j specs
      (with_commas declarator_text ds (semicolon ∷ members_text m ts)) (between after_member declarator_roles ds (after_member ∷ members_roles m rs))
      is.0 is.1
      (λ specs' some same have. g (MoreMembers specs' ds m) (subst (λ ws. IsTrue (is_type x.names ws)) (sym same) is.0, have, is.2, is.3, is.4))
      (list_each x.name IsClear declarator_text declarator_roles (IsDeclaratorOf (λ name. Unit {0}) (IsFullBound x.names)) Anything
      (declarator_trace x (member x)) refl after_member refl (λ y q. W (specs_text specs y) (specs_roles specs q)) (semicolon ∷ members_text m us)
      (after_member ∷ members_roles m qs) Open ds (semicolon ∷ members_text m ts) (after_member ∷ members_roles m rs) refl is.2 is.3
      (λ ds' some all other. g (MoreMembers specs ds' m) (is.0, is.1, some, all, is.4)) (
        (tt, tt),
        members_trace x (λ y q.
            W (specs_text specs (with_commas declarator_text ds (semicolon ∷ y)))
            (specs_roles specs (between after_member declarator_roles ds (after_member ∷ q)))) us qs Open m ts rs is.4
            (λ m' all. g (MoreMembers specs ds m') (is.0, is.1, is.2, is.3, all)) h,
      ))

  spec_trace : (x : NewName) (W : World) (us : Kinds) (qs : Roles) (j : Joint) (first : Spec) (ts : Kinds) (rs : Roles) → IsKnownSpec x.names first
      → HasBody x.names first → TakesBodies W x.names first us qs → Trace x.name (λ y q. W (spec_text first y) (spec_roles first q)) Open ts rs
      → Trace x.name W j (spec_text first ts) (spec_roles first rs)
  spec_trace x W us qs j Static ts rs k have g h = ((tt, tt), h)
  spec_trace x W us qs j (Plain w) ts rs k have g h = word_trace x another refl W j w ts rs k h
  spec_trace x W us qs j (StructBody None m) ts rs k have g h = (
    (tt, tt),
    (
      (tt, tt),
      members_trace x (λ y q. W (token.Keyword keyword.Struct ∷ opened ∷ y) (another ∷ another ∷ q)) (closed ∷ us) (another ∷ qs) Barred m
          (closed ∷ ts) (another ∷ rs) have
          (λ m' all. g (StructBody None m') tt (λ rest. refl) all) (λ i. ((tt, tt), h)),
    ),
  )
  spec_trace x W us qs j (StructBody (Some n) m) ts rs k have g h = (
    (tt, tt),
    (
      (tt, tt),
      (
        (tt, tt),
        members_trace x (λ y q. W (token.Keyword keyword.Struct ∷ token.Name n ∷ opened ∷ y) (another ∷ another ∷ another ∷ q)) (closed ∷ us)
            (another ∷ qs) Barred m (closed ∷ ts) (another ∷ rs) have
            (λ m' all. g (StructBody (Some n) m') tt (λ rest. refl) all) (λ i. ((tt, tt), h)),
      ),
    ),
  )
  spec_trace x W us qs j (EnumBody None cs b) ts rs k have g h = (
    (tt, tt),
    (
      (tt, tt),
      constants_trace x (λ y q. W (token.Keyword keyword.Enum ∷ opened ∷ y) (another ∷ another ∷ q)) us qs cs b ts rs have.0 have.1
          (λ cs' some all. g (EnumBody None cs' b) tt (λ rest. refl) (some, all)) h,
    ),
  )
  spec_trace x W us qs j (EnumBody (Some n) cs b) ts rs k have g h = (
    (tt, tt),
    (
      (tt, tt),
      (
        (tt, tt),
        constants_trace x (λ y q. W (token.Keyword keyword.Enum ∷ token.Name n ∷ opened ∷ y) (another ∷ another ∷ another ∷ q)) us qs cs b ts rs
            have.0 have.1 (λ cs' some all. g (EnumBody (Some n) cs' b) tt (λ rest. refl) (some, all)) h,
      ),
    ),
  )

  -- more specifiers
  further_specs : (x : NewName) (W : World) (us : Kinds) (qs : Roles) (specs : Specs) (ts : Kinds) (rs : Roles) → AreKnownSpecs x.names specs
      → HaveBodies x.names specs → TakesSpecs W x.names specs us qs → Trace x.name (λ y q. W (specs_text specs y) (specs_roles specs q)) Open ts rs
      → Trace x.name W Open (specs_text specs ts) (specs_roles specs rs)
  further_specs x W us qs NoSpec ts rs k have g h = h
  further_specs x W us qs (MoreSpecs first others) ts rs k have g h =
      spec_trace x W (specs_text others us) (specs_roles others qs) Open first (specs_text others ts) (specs_roles others rs) k.0 have.0
      (λ first' body same is. g (MoreSpecs first' others) (inl body) (same others) (is, have.1))
      (further_specs x (λ y q. W (spec_text first y) (spec_roles first q)) us qs others ts rs k.1 have.1
      (λ others' some same all. g (MoreSpecs first others') (inr some) (same_after first others' others same) (have.0, all)) h)

  -- specifiers, whatever precedes them
  pub specs_trace : (x : NewName) (W : World) (us : Kinds) (qs : Roles) (j : Joint) (specs : Specs) (ts : Kinds) (rs : Roles)
      → IsTrue (is_type x.names (words_of specs)) → HaveBodies x.names specs → TakesSpecs W x.names specs us qs
      → Trace x.name (λ y q. W (specs_text specs y) (specs_roles specs q)) Open ts rs → Trace x.name W j (specs_text specs ts) (specs_roles specs rs)
  specs_trace x W us qs j NoSpec ts rs is have g h = absurd (false≢true is)
  specs_trace x W us qs j (MoreSpecs first others) ts rs is have g h =
      let k = specs_known x.names (MoreSpecs first others) (words_known x.names (words_of (MoreSpecs first others)) is) in
      spec_trace x W (specs_text others us) (specs_roles others qs) j first (specs_text others ts) (specs_roles others rs) k.0 have.0
      (λ first' body same all. g (MoreSpecs first' others) (inl body) (same others) (all, have.1))
      (further_specs x (λ y q. W (spec_text first y) (spec_roles first q)) us qs others ts rs k.1 have.1
      (λ others' some same all. g (MoreSpecs first others') (inr some) (same_after first others' others same) (have.0, all)) h)

mutual
  initial_trace : (x : NewName) (W : World) (us : Kinds) (qs : Roles) (j : Joint) (i : Initial) (ts : Kinds) (rs : Roles) → IsInitial x.names i
      → ((other : Initial) → IsInitial x.names other → W (initial_text other us) (initial_roles other qs))
      → Trace x.name (λ y q. W (initial_text i y) (initial_roles i q)) Open ts rs → Trace x.name W j (initial_text i ts) (initial_roles i rs)
  initial_trace x W us qs j (Single e) ts rs is g h = expression_trace x W us qs 1 j e ts rs is.0 is.1 (λ e' b w. g (Single e') (b, w)) h
  initial_trace x W us qs j (ListedItems NoInitial b) ts rs is g h = absurd is
  initial_trace x W us qs j (ListedItems (MoreInitials first others) b) ts rs is g h = (
    (tt, tt),
    initial_trace x (λ y q. W (opened ∷ y) (opens_list ∷ q)) (further_initials_text others (comma_text b (closed ∷ us)))
        (further_initials_roles others (comma_roles b (another ∷ qs))) Barred first (further_initials_text others (comma_text b (closed ∷ ts)))
        (further_initials_roles others (comma_roles b (another ∷ rs))) is.0
        (λ i' all. g (ListedItems (MoreInitials i' others) b) (all, is.1))
        (further_initials x (λ y q. W (opened ∷ initial_text first y) (opens_list ∷ initial_roles first q)) (comma_text b (closed ∷ us))
        (comma_roles b (another ∷ qs)) others (comma_text b (closed ∷ ts)) (comma_roles b (another ∷ rs)) is.1
        (λ others' all. g (ListedItems (MoreInitials first others') b) (is.0, all))
        (comma_trace x.name (λ y q.
        W (opened ∷ initial_text first (further_initials_text others y)) (opens_list ∷ initial_roles first (further_initials_roles others q))) b
        (closed ∷ ts) (another ∷ rs) (λ i. ((tt, tt), h)))),
  )

  further_initials : (x : NewName) (W : World) (us : Kinds) (qs : Roles) (i : Initials) (ts : Kinds) (rs : Roles) → AreInitials x.names i
      → ((others : Initials) → AreInitials x.names others → W (further_initials_text others us) (further_initials_roles others qs))
      → Trace x.name (λ y q. W (further_initials_text i y) (further_initials_roles i q)) Open ts rs
      → Trace x.name W Open (further_initials_text i ts) (further_initials_roles i rs)
  further_initials x W us qs NoInitial ts rs are g h = h
  further_initials x W us qs (MoreInitials first others) ts rs are g h = (
    (tt, tt),
    initial_trace x (λ y q. W (comma ∷ y) (another ∷ q)) (further_initials_text others us) (further_initials_roles others qs) Listed first
        (further_initials_text others ts) (further_initials_roles others rs) are.0 (λ i' all. g (MoreInitials i' others) (all, are.1))
        (further_initials x (λ y q. W (comma ∷ initial_text first y) (another ∷ initial_roles first q)) us qs others ts rs are.1
        (λ others' all. g (MoreInitials first others') (are.0, all)) h),
  )

first_value_trace : (x : NewName) (W : World) (us : Kinds) (qs : Roles) (v : Option Initial) (ts : Kinds) (rs : Roles)
    → MatchOption v (Unit {0}) (IsInitial x.names)
    → ((other : Option Initial) → MatchOption other (Unit {0}) (IsInitial x.names) → W (first_value_text other us) (first_value_roles other qs))
    → Trace x.name (λ y q. W (first_value_text v y) (first_value_roles v q)) Open ts rs
    → Trace x.name W Open (first_value_text v ts) (first_value_roles v rs)
first_value_trace x W us qs None ts rs is g h = h
first_value_trace x W us qs (Some i) ts rs is g h =
    ((tt, tt), initial_trace x (λ y q. W (equal ∷ y) (another ∷ q)) us qs Open i ts rs is (λ i' all. g (Some i') all) h)

-- a declared object
pub declared_trace : (x : NewName) → Each x.name IsClear declared_text declared_roles (IsDeclared x.names) Anything
declared_trace x W us qs j d ts rs clear is g h =
    declarator_trace x (object x) W (first_value_text d.initial us) (first_value_roles d.initial qs) j d.declarator (first_value_text d.initial ts)
    (first_value_roles d.initial rs) clear is.declarator
    (λ d' all any. g (record { declarator = d'; initial = d.initial }) (record { declarator = all; initial = is.initial }) tt)
    (first_value_trace x (λ y q. W (declarator_text d.declarator y) (declarator_roles d.declarator q)) us qs d.initial ts rs is.initial
    (λ i all. g (record { declarator = d.declarator; initial = i }) (record { declarator = is.declarator; initial = all }) tt) h)

-- a parameter that isn't only `void`
abbrev IsTelling : Parameter → Type 0
IsTelling p = p ≡ lone_void → ⊥

named_yields : (specs : Specs) (ps : List PointerWord) (m : List ℕ) (bs : List (Option Written))
    → IsTelling (record { specs = specs; pointers = ps; name = Some m; bounds = bs })
named_yields specs ps m bs e =
    let n : Some m ≡ None = ap (λ (p : Parameter). p.name) e in
    cc

body_yields : (specs : Specs) (ps : List PointerWord) (m : Option (List ℕ)) (bs : List (Option Written)) → HasSomeBody specs
    → IsTelling (record { specs = specs; pointers = ps; name = m; bounds = bs })
body_yields specs ps m bs some e = elim (subst HasSomeBody (ap (λ (p : Parameter). p.specs) e) some) [ inl n ↦ n | inr n ↦ n ]

bounds_tell : (specs : Specs) (ps : List PointerWord) (m : Option (List ℕ)) (bs : List (Option Written)) → IsSomeList bs
    → IsTelling (record { specs = specs; pointers = ps; name = m; bounds = bs })
bounds_tell specs ps m bs some e = subst IsSomeList (ap (λ (p : Parameter). p.bounds) e) some

-- what follows the specifiers of a parameter
parameter_after : (x : NewName) (W : World) (us : Kinds) (qs : Roles) (specs : Specs) (ps : List PointerWord) (name : Option (List ℕ))
    (bs : List (Option Written)) (ts : Kinds) (rs : Roles) → IsParameter x.names (record { specs = specs; pointers = ps; name = name; bounds = bs })
    → ((other : Parameter) → IsParameter x.names other → IsTelling other → W (parameter_text other us) (parameter_roles other qs))
    → Trace x.name (λ y q.
    W (parameter_text (record { specs = specs; pointers = ps; name = name; bounds = bs }) y)
    (parameter_roles (record { specs = specs; pointers = ps; name = name; bounds = bs }) q)) Open ts rs
    → Trace x.name (λ y q. W (specs_text specs y) (specs_roles specs q)) Open (pointers_text ps (name_text name (brackets_text bs ts)))
    (each another (pointers_text ps []) (name_roles name (brackets_roles bs rs)))
parameter_after x W us qs specs ps None bs ts rs is g h =
    pointers_trace x.name another refl (λ y q. W (specs_text specs y) (specs_roles specs q)) ps (brackets_text bs ts) (brackets_roles bs rs)
    (brackets_trace x (object x) (λ y q. W (specs_text specs (pointers_text ps y)) (specs_roles specs (each another (pointers_text ps []) q))) us qs bs ts rs
    is.bounds
    (λ bs' some all.
    g (record { specs = specs; pointers = ps; name = None; bounds = bs' }) (record { specs = is.specs; pointers = is.pointers; free = tt; bounds = all })
    (bounds_tell specs ps None bs' some)) h)
parameter_after x W us qs specs ps (Some m) bs ts rs is g h =
    pointed_trace x.name (λ y q. W (specs_text specs y) (specs_roles specs q)) (IsFree x.names) (brackets_text bs us) (brackets_roles bs qs) Open ps m
    (brackets_text bs ts) (brackets_roles bs rs) refl is.pointers is.free x.free
    (λ ps' m' right free.
    g (record { specs = specs; pointers = ps'; name = Some m'; bounds = bs })
    (record { specs = is.specs; pointers = right; free = free; bounds = is.bounds }) (named_yields specs ps' m' bs))
    (brackets_trace x (object x) (λ y q.
    W (specs_text specs (pointers_text ps (token.Name m ∷ y))) (specs_roles specs (each another (pointers_text ps []) (declared_name ∷ q)))) us qs bs ts
    rs is.bounds
    (λ bs' some all.
    g (record { specs = specs; pointers = ps; name = Some m; bounds = bs' })
    (record { specs = is.specs; pointers = is.pointers; free = is.free; bounds = all }) (named_yields specs ps m bs')) h)

parameter_trace : (x : NewName) → Each x.name Anything parameter_text parameter_roles (IsParameter x.names) IsTelling
parameter_trace x W us qs j p ts rs any is g h =
    specs_trace x W (pointers_text p.pointers (name_text p.name (brackets_text p.bounds us)))
    (each another (pointers_text p.pointers []) (name_roles p.name (brackets_roles p.bounds qs))) j p.specs
    (pointers_text p.pointers (name_text p.name (brackets_text p.bounds ts)))
    (each another (pointers_text p.pointers []) (name_roles p.name (brackets_roles p.bounds rs))) is.specs.0 is.specs.1
    (λ specs some same have.
    g (record { specs = specs; pointers = p.pointers; name = p.name; bounds = p.bounds })
    (record {
      specs = (subst (λ ws. IsTrue (is_type x.names ws)) (sym same) is.specs.0, have);
      pointers = is.pointers;
      free = is.free;
      bounds = is.bounds;
    })
    (body_yields specs p.pointers p.name p.bounds some))
    (parameter_after x W us qs p.specs p.pointers p.name p.bounds ts rs is g h)

-- a list with such a parameter isn't only `void`
telling_list : (ps : List Parameter) → OneIs IsTelling ps → ps ≢ lone_void ∷ []
telling_list ps some e = elim (subst (OneIs IsTelling) e some) [ inl t ↦ t refl | inr n ↦ n ]

parameters_trace : (x : NewName) (W : World) (us : Kinds) (qs : Roles) (p : Parameters) (ts : Kinds) (rs : Roles) → AreParameters x.names p
    → ((other : Parameters) → AreParameters x.names other → W (parameters_text other us) (parameters_roles other qs))
    → Trace x.name (λ y q. W (parameters_text p y) (parameters_roles p q)) Open ts rs → Trace x.name W Open (parameters_text p ts) (parameters_roles p rs)
parameters_trace x W us qs NoParameter ts rs are g h = h
parameters_trace x W us qs VoidAlone ts rs are g h = ((tt, tt), h)
parameters_trace x W us qs (ParameterList ps) ts rs are g h =
    list_each x.name Anything parameter_text parameter_roles (IsParameter x.names) IsTelling (parameter_trace x) tt another refl W us qs Open ps ts rs tt are.0
    are.2 (λ ps' some all yields. g (ParameterList ps') (some, telling_list ps' yields, all)) h

-- a function's name and parameters
pub head_trace : (x : NewName) (W : World) (us : Kinds) (qs : Roles) (j : Joint) (d : Head) (ts : Kinds) (rs : Roles) → is_barred j ≡ false
    → IsHead x.names d → ((other : Head) → IsHead x.names other → W (head_text other us) (head_roles other qs))
    → Trace x.name (λ y q. W (head_text d y) (head_roles d q)) Open ts rs → Trace x.name W j (head_text d ts) (head_roles d rs)
head_trace x W us qs j d ts rs clear is g h =
    pointed_trace x.name W (IsFree x.names) (opening ∷ parameters_text d.parameters (closing ∷ us))
    (another ∷ parameters_roles d.parameters (another ∷ qs)) j d.pointers d.name (opening ∷ parameters_text d.parameters (closing ∷ ts))
    (another ∷ parameters_roles d.parameters (another ∷ rs)) clear is.pointers is.free x.free
    (λ ps m right free.
    g (record { pointers = ps; name = m; parameters = d.parameters }) (record { pointers = right; free = free; parameters = is.parameters })) (
      (tt, tt),
      parameters_trace x (λ y q.
          W (pointers_text d.pointers (token.Name d.name ∷ opening ∷ y)) (each another (pointers_text d.pointers []) (declared_name ∷ another ∷ q)))
          (closing ∷ us) (another ∷ qs) d.parameters (closing ∷ ts) (another ∷ rs) is.parameters
          (λ p all. g (record { pointers = d.pointers; name = d.name; parameters = p }) (record { pointers = is.pointers; free = is.free; parameters = all }))
          ((tt, tt), h),
    )

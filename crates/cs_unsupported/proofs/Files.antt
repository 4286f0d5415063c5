-- The tokens of parameters and files with their roles. For the contract of `is_after_member`.
use Rattle.std.proofs.Common.{◌≡◌, ◌≢◌, ℕ, true, IsTrue, IsSome, List, [], ◌∷◌, ◌++◌, Option, Some, None, length, slice_get, refl, sym}
use Rattle.std.proofs.Common.{ap, ◌∙◌, subst}
use Rattle.std.proofs.lemmas.Bool.{false≢true}
use Rattle.cs_ast.specs.declared.token.TokenKind.{TokenKind}
use Rattle.cs_ast.specs.declared.token.TokenKind.TheVariants as token
use Rattle.cs_ast.specs.declared.token.Keyword.TheVariants as keyword
use Rattle.cs_ast.specs.declared.token.Punctuator.TheVariants as punctuator
use Rattle.cs_ast.specs.RawDeclarations.{Specs, NoSpec, Parameter, Parameters, NoParameter, VoidAlone, ParameterList, Head}
use Rattle.cs_ast.specs.RawStatements.{External, TypeAlone, Typedef, Objects, Function, Definition}
use Rattle.cs_grammar.specs.TypeWords.{Names, is_type}
use Rattle.cs_grammar.specs.Text.{Kinds, pointers_text}
use Rattle.cs_grammar.specs.FileText.{name_text, each_after_comma, with_commas, brackets_text, declarator_text, declared_text, specs_text, parameter_text}
use Rattle.cs_grammar.specs.FileText.{parameters_text, head_text, items_text, external_text, file_text}
use Rattle.cs_grammar.specs.FilePhrases.{AreAll, IsSomeList, words_of, HaveBodies, AreSpecs, IsParameter, lone_void, AreParameters, IsHead, AreNamed}
use Rattle.cs_grammar.specs.FilePhrases.{IsExternal, names_after, IsFile, BeginsFile}
use Rattle.cs_grammar.specs.Roles.{Role, another, after_member, declared_name, Roles, each, each_after, between, brackets_roles, declarator_roles}
use Rattle.cs_grammar.specs.Roles.{declared_roles, name_roles, parameter_roles, parameters_roles, head_roles, items_roles, external_roles, file_roles}
use Rattle.cs_grammar.specs.FileRefusals.{MayHave}
use Rattle.cs_unsupported.specs.declared.members.Phase.{Phase}
use Rattle.cs_unsupported.specs.declared.members.Phase.TheVariants.{Outside, Typing, Typed, Declared}
use Rattle.cs_unsupported.specs.declared.members.Last.TheVariants as last
use Rattle.cs_unsupported.specs.Spots.{Spot, the_start, name_after, step, run, is_declared}
use Rattle.cs_unsupported.proofs.Traces.{Reported, Trace, is_member, Calm, pointers_calm, brackets_calm, declarator_calm, list_calm}
use Rattle.cs_unsupported.proofs.Statements.{Quiet, objects_calm, items_quiet}
use Rattle.cs_unsupported.proofs.MemberTraces.{HasMembers, specs_calm}

name_calm : (W : Kinds → Type 0) (s : List Phase) (n : Option (List ℕ)) (ts : Kinds) (rs : Roles) → Calm (λ y. W (name_text n y)) s ts rs
    → Calm W s (name_text n ts) (name_roles n rs)
name_calm W s None ts rs h = h
name_calm W s (Some n) ts rs h = λ b. (refl, h (name_after b))

-- the parameter with other specifiers
abbrev with_specs : Parameter → Specs → Parameter
with_specs p specs = record { specs = specs; pointers = p.pointers; name = p.name; bounds = p.bounds }

parameter_calm : (names : Names) (W : Kinds → Type 0) (s : List Phase) (p : Parameter) (ts : Kinds) (rs : Roles) → IsParameter names p
    → ((other : Parameter) → IsParameter names other → other.name ≡ p.name → HasMembers other.specs → W (parameter_text other ts))
    → Calm (λ y. W (parameter_text p y)) s ts rs → Calm W s (parameter_text p ts) (parameter_roles p rs)
parameter_calm names W s p ts rs is other h =
    let following = name_text p.name (brackets_text p.bounds ts) in
    specs_calm names W s p.specs (pointers_text p.pointers following)
    (each another (pointers_text p.pointers []) (name_roles p.name (brackets_roles p.bounds rs))) is.specs.1
    (λ specs same bodies some.
    other (with_specs p specs) (record {
      specs = (subst (λ ws. IsTrue (is_type names ws)) (sym same) is.specs.0, bodies);
      pointers = is.pointers;
      free = is.free;
      bounds = is.bounds;
    }) refl some)
    (pointers_calm another refl (λ y. W (specs_text p.specs y)) s p.pointers following (name_roles p.name (brackets_roles p.bounds rs))
    (name_calm (λ y. W (specs_text p.specs (pointers_text p.pointers y))) s p.name (brackets_text p.bounds ts) (brackets_roles p.bounds rs)
    (brackets_calm (λ y. W (specs_text p.specs (pointers_text p.pointers (name_text p.name y)))) s p.bounds ts rs h)))

-- a property that every parameter with the same name has too
abbrev Keeps : (Parameter → Type 0) → Type 0
Keeps Also = (p other : Parameter) → other.name ≡ p.name → Also p → Also other

further_parameters : (names : Names) (Also : Parameter → Type 0) → Keeps Also
    → (W : Kinds → Type 0) (s : List Phase) (ps : List Parameter) (ts : Kinds) (rs : Roles) → AreAll (IsParameter names) ps → AreAll Also ps
    → ((others : List Parameter) → IsSomeList others → AreAll (IsParameter names) others → AreAll Also others
    → W (each_after_comma parameter_text others ts)) → Calm (λ y. W (each_after_comma parameter_text ps y)) s ts rs
    → Calm W s (each_after_comma parameter_text ps ts) (each_after another parameter_roles ps rs)
further_parameters names Also keeps W s [] ts rs are also other h = h
further_parameters names Also keeps W s (p ∷ ps) ts rs are also other h =
    λ b. (
      refl,
      parameter_calm names (λ y. W (token.Punctuator punctuator.Comma ∷ y)) s p (each_after_comma parameter_text ps ts)
          (each_after another parameter_roles ps rs) are.0
          (λ q is same some. other (q ∷ ps) tt (is, are.1) (keeps p q same also.0, also.1))
          (further_parameters names Also keeps (λ y. W (token.Punctuator punctuator.Comma ∷ parameter_text p y)) s ps ts rs are.1 also.1
          (λ qs some all too. other (p ∷ qs) tt (are.0, all) (also.0, too)) h) last.Other,
    )

abbrev first_specs : List Parameter → Specs
first_specs [] = NoSpec
first_specs (p ∷ ps) = p.specs

not_void : (p : Parameter) (ps : List Parameter) → HasMembers p.specs → p ∷ ps ≢ lone_void ∷ []
not_void p ps some same = subst HasMembers (ap first_specs same) some

not_alone : (p : Parameter) (ps : List Parameter) → IsSomeList ps → p ∷ ps ≢ lone_void ∷ []
not_alone p [] some same = some
not_alone p (q ∷ ps) some same = cc

parameter_list : (names : Names) (Also : Parameter → Type 0) → Keeps Also
    → (W : Kinds → Type 0) (s : List Phase) (ps : List Parameter) (ts : Kinds) (rs : Roles) → AreAll (IsParameter names) ps → AreAll Also ps
    → ((others : List Parameter) → IsSomeList others → others ≢ lone_void ∷ [] → AreAll (IsParameter names) others → AreAll Also others
    → W (with_commas parameter_text others ts)) → Calm (λ y. W (with_commas parameter_text ps y)) s ts rs
    → Calm W s (with_commas parameter_text ps ts) (between another parameter_roles ps rs)
parameter_list names Also keeps W s [] ts rs are also other h = h
parameter_list names Also keeps W s (p ∷ ps) ts rs are also other h =
    parameter_calm names W s p (each_after_comma parameter_text ps ts) (each_after another parameter_roles ps rs) are.0
    (λ q is same some. other (q ∷ ps) tt (not_void q ps some) (is, are.1) (keeps p q same also.0, also.1))
    (further_parameters names Also keeps (λ y. W (parameter_text p y)) s ps ts rs are.1 also.1
    (λ qs some all too. other (p ∷ qs) tt (not_alone p qs some) (are.0, all) (also.0, too)) h)

-- every parameter of a list has the property too
abbrev AllAlso : (Parameter → Type 0) → Parameters → Type 0
AllAlso Also (ParameterList ps) = AreAll Also ps
AllAlso Also other = Unit {0}

parameters_calm : (names : Names) (Also : Parameter → Type 0) → Keeps Also
    → (W : Kinds → Type 0) (s : List Phase) (ps : Parameters) (ts : Kinds) (rs : Roles) → AreParameters names ps → AllAlso Also ps
    → ((others : List Parameter) → AreParameters names (ParameterList others) → AreAll Also others → W (parameters_text (ParameterList others) ts))
    → Calm (λ y. W (parameters_text ps y)) s ts rs → Calm W s (parameters_text ps ts) (parameters_roles ps rs)
parameters_calm names Also keeps W s NoParameter ts rs are also other h = h
parameters_calm names Also keeps W s VoidAlone ts rs are also other h = λ b. (refl, h last.Other)
parameters_calm names Also keeps W s (ParameterList ps) ts rs are also other h =
    parameter_list names Also keeps W s ps ts rs are.2 also (λ others some more all too. other others (some, more, all) too) h

-- the head with other parameters
abbrev with_parameters : Head → List Parameter → Head
with_parameters head ps = record { pointers = head.pointers; name = head.name; parameters = ParameterList ps }

head_calm : (names : Names) (Also : Parameter → Type 0) → Keeps Also
    → (W : Kinds → Type 0) (s : List Phase) (head : Head) (ts : Kinds) (rs : Roles) → IsHead names head → AllAlso Also head.parameters
    → ((others : List Parameter) → IsHead names (with_parameters head others) → AreAll Also others → W (head_text (with_parameters head others) ts))
    → Quiet (λ y. W (head_text head y)) s ts rs → Calm W s (head_text head ts) (head_roles head rs)
head_calm names Also keeps W s head ts rs is also other h =
    pointers_calm another refl W s head.pointers
    (token.Name head.name ∷ token.Punctuator punctuator.OpenParenthesis
    ∷ parameters_text head.parameters (token.Punctuator punctuator.CloseParenthesis ∷ ts))
    (declared_name ∷ another ∷ parameters_roles head.parameters (another ∷ rs))
    (λ b. (
      refl,
      (
        refl,
        parameters_calm names Also keeps (λ y. W (pointers_text head.pointers (token.Name head.name ∷ token.Punctuator punctuator.OpenParenthesis ∷ y)))
            (Outside ∷ s) head.parameters (token.Punctuator punctuator.CloseParenthesis ∷ ts) (another ∷ rs) is.parameters also
            (λ others are too. other others (record { pointers = is.pointers; free = is.free; parameters = are }) too)
            (λ c. (refl, h)) last.Other,
      ),
    ))

-- other specifiers with the same words
exchanged : (names : Names) (specs others : Specs) → AreSpecs names specs → words_of others ≡ words_of specs → HaveBodies names others
    → AreSpecs names others
exchanged names specs others are same bodies = (subst (λ ws. IsTrue (is_type names ws)) (sym same) are.0, bodies)

named_also : (ps : Parameters) → AreNamed ps → AllAlso (λ p. IsSome p.name) ps
named_also NoParameter are = tt
named_also VoidAlone are = tt
named_also (ParameterList ps) are = are

unnamed_also : (ps : List Parameter) → AreAll (λ (p : Parameter). Unit {0}) ps
unnamed_also [] = tt
unnamed_also (p ∷ ps) = (tt, unnamed_also ps)

any_also : (ps : Parameters) → AllAlso (λ (p : Parameter). Unit {0}) ps
any_also NoParameter = tt
any_also VoidAlone = tt
any_also (ParameterList ps) = unnamed_also ps

external_quiet : (names : Names) (W : Kinds → Type 0) (e : External) (ts : Kinds) (rs : Roles) → IsExternal names e
    → ((other : External) → IsExternal names other → names_after names other ≡ names_after names e → W (external_text other ts))
    → Quiet (λ y. W (external_text e y)) [] ts rs → Quiet W [] (external_text e ts) (external_roles e rs)
external_quiet names W (TypeAlone specs) ts rs is other h =
    specs_calm names W [] specs (token.Punctuator punctuator.Semicolon ∷ ts) (another ∷ rs) is.1
    (λ specs' same bodies some. other (TypeAlone specs') (exchanged names specs specs' is same bodies) refl) (λ b. (refl, h)) last.Other
external_quiet names W (Typedef specs ds) ts rs is other h = (
  refl,
  specs_calm names (λ y. W (token.Keyword keyword.Typedef ∷ y)) [] specs (with_commas declarator_text ds (token.Punctuator punctuator.Semicolon ∷ ts))
      (between another declarator_roles ds (another ∷ rs)) is.0.1
      (λ specs' same bodies some. other (Typedef specs' ds) (exchanged names specs specs' is.0 same bodies, is.1, is.2) refl)
      (list_calm declarator_text declarator_roles declarator_calm (λ y. W (token.Keyword keyword.Typedef ∷ specs_text specs y)) [] ds
      (token.Punctuator punctuator.Semicolon ∷ ts) (another ∷ rs) (λ b. (refl, h))) last.Other,
)
external_quiet names W (Objects specs objects) ts rs is other h =
    specs_calm names W [] specs (with_commas declared_text objects (token.Punctuator punctuator.Semicolon ∷ ts))
    (between another declared_roles objects (another ∷ rs)) is.0.1
    (λ specs' same bodies some. other (Objects specs' objects) (exchanged names specs specs' is.0 same bodies, is.1) refl)
    (objects_calm (λ y. W (specs_text specs y)) [] objects ts rs h) last.Other
external_quiet names W (Function specs head) ts rs is other h =
    specs_calm names W [] specs (head_text head (token.Punctuator punctuator.Semicolon ∷ ts)) (head_roles head (another ∷ rs)) is.0.1
    (λ specs' same bodies some. other (Function specs' head) (exchanged names specs specs' is.0 same bodies, is.1) refl)
    (head_calm names (λ p. Unit {0}) (λ p q same also. tt) (λ y. W (specs_text specs y)) [] head (token.Punctuator punctuator.Semicolon ∷ ts)
    (another ∷ rs) is.1 (any_also head.parameters)
    (λ others are too. other (Function specs (with_parameters head others)) (is.0, are) refl) (refl, h)) last.Other
external_quiet names W (Definition specs head body) ts rs is other h =
    specs_calm names W [] specs (head_text head (token.Punctuator punctuator.OpenBrace ∷ items_text body (token.Punctuator punctuator.CloseBrace ∷ ts)))
    (head_roles head (another ∷ items_roles body (another ∷ rs))) is.0.1
    (λ specs' same bodies some. other (Definition specs' head body) (exchanged names specs specs' is.0 same bodies, is.1, is.2, is.3) refl)
    (head_calm names (λ p. IsSome p.name) (λ p q same also. subst IsSome (sym same) also) (λ y. W (specs_text specs y)) [] head
    (token.Punctuator punctuator.OpenBrace ∷ items_text body (token.Punctuator punctuator.CloseBrace ∷ ts))
    (another ∷ items_roles body (another ∷ rs)) is.1 (named_also head.parameters is.2)
    (λ others are too. other (Definition specs (with_parameters head others) body) (is.0, are, too, is.3) refl) (
      refl,
      items_quiet names (λ y. W (specs_text specs (head_text head (token.Punctuator punctuator.OpenBrace ∷ y)))) (Outside ∷ []) body
          (token.Punctuator punctuator.CloseBrace ∷ ts) (another ∷ rs) is.3 (refl, h),
    )) last.Other

file_trace : (names : Names) (W : Kinds → Type 0) (f : List External) → IsFile names f
    → ((other : List External) → IsFile names other → W (file_text other)) → Trace W the_start (file_text f) (file_roles f)
file_trace names W [] is other = refl
file_trace names W (e ∷ es) is other =
    external_quiet names W e (file_text es) (file_roles es) is.0
    (λ e' is' same. other (e' ∷ es) (is', subst (λ (ns : Names). IsFile ns es) (sym same) is.1))
    (file_trace (names_after names e) (λ y. W (external_text e y)) es is.1 (λ es' are. other (e ∷ es') (is.0, are)))

-- some file has these tokens
abbrev IsText : Kinds → Type 0
IsText kinds = (f : List External) × IsFile [] f × (file_text f ≡ kinds)

text_trace : (f : List External) → IsFile [] f → Trace IsText the_start (file_text f) (file_roles f)
text_trace f is = file_trace [] IsText f is (λ other are. (other, are, refl))

declared_reported : (W : Kinds → Type 0) (p : Phase) (next : TokenKind) (role : Role) → Reported W p next role → role ≡ after_member
    → is_declared p ≡ true
declared_reported W Declared next role t e = refl
declared_reported W Outside next role t e = absurd (false≢true (sym t ∙ ap is_member e))
declared_reported W Typing next role t e = absurd (false≢true (sym t ∙ ap is_member e))
declared_reported W Typed next role t e = absurd (false≢true (sym t ∙ ap is_member e))

-- at the position after a member's declarator, the spot is of this kind
spot_of_role : (W : Kinds → Type 0) (s : Spot) (front more : Kinds) (rs : Roles) → Trace W s (front ++ more) rs
    → slice_get rs (length front) ≡ Some after_member → is_declared (run front s).phase ≡ true
spot_of_role W s [] [] [] t e = cc
spot_of_role W s [] [] (r ∷ rs) t e = absurd t
spot_of_role W s [] (k ∷ more) [] t e = absurd t
spot_of_role W s [] (k ∷ more) (r ∷ rs) t e = declared_reported W s.phase k r t.0 (let z : Some r ≡ Some after_member = e in cc)
spot_of_role W s (k ∷ front) more [] t e = absurd t
spot_of_role W s (k ∷ front) more (r ∷ rs) t e = spot_of_role (λ y. W (k ∷ y)) (step k s) front more rs t.1 e

reported_declared : (W : Kinds → Type 0) (p : Phase) (next : TokenKind) (role : Role) → is_declared p ≡ true → Reported W p next role
    → Reported W Declared next role
reported_declared W Declared next role e t = t
reported_declared W Outside next role e t = absurd (false≢true e)
reported_declared W Typing next role e t = absurd (false≢true e)
reported_declared W Typed next role e t = absurd (false≢true e)

-- at such a spot a semicolon may follow
semicolon_goes_on : (W : Kinds → Type 0) (s : Spot) (front more : Kinds) (rs : Roles) → Trace W s (front ++ more) rs
    → is_declared (run front s).phase ≡ true → (rest : Kinds) × W (front ++ token.Punctuator punctuator.Semicolon ∷ rest)
semicolon_goes_on W s [] [] [] t e = absurd (false≢true (sym t ∙ e))
semicolon_goes_on W s [] [] (r ∷ rs) t e = absurd t
semicolon_goes_on W s [] (k ∷ more) [] t e = absurd t
semicolon_goes_on W s [] (k ∷ more) (r ∷ rs) t e = (reported_declared W s.phase k r e t.0).0
semicolon_goes_on W s (k ∷ front) more [] t e = absurd t
semicolon_goes_on W s (k ∷ front) more (r ∷ rs) t e = semicolon_goes_on (λ y. W (k ∷ y)) (step k s) front more rs t.1 e

member_role : (r : Role) → is_member r ≡ true → r ≡ after_member
member_role after_member e = refl
member_role _ e = absurd (false≢true e)

-- and it has that role
role_of_semicolon : (W : Kinds → Type 0) (s : Spot) (front rest : Kinds) (rs : Roles)
    → Trace W s (front ++ token.Punctuator punctuator.Semicolon ∷ rest) rs → is_declared (run front s).phase ≡ true
    → slice_get rs (length front) ≡ Some after_member
role_of_semicolon W s [] rest [] t e = absurd t
role_of_semicolon W s [] rest (r ∷ rs) t e = ap Some (member_role r ((reported_declared W s.phase (token.Punctuator punctuator.Semicolon) r e t.0).1 refl))
role_of_semicolon W s (k ∷ front) rest [] t e = absurd t
role_of_semicolon W s (k ∷ front) rest (r ∷ rs) t e = role_of_semicolon (λ y. W (k ∷ y)) (step k s) front rest rs t.1 e

pub may_have : (front : Kinds) → BeginsFile front → is_declared (run front the_start).phase ≡ true → MayHave front after_member
may_have front b e =
    let g = semicolon_goes_on IsText the_start front b.more (file_roles b.file)
    (subst (λ (x : Kinds). Trace IsText the_start x (file_roles b.file)) b.spelled (text_trace b.file b.is_file)) e in
    let f = g.1 in
    record {
      file = f.0;
      more = token.Punctuator punctuator.Semicolon ∷ g.0;
      is_file = f.1;
      spelled = f.2;
      there = role_of_semicolon IsText the_start front g.0 (file_roles f.0)
          (subst (λ (x : Kinds). Trace IsText the_start x (file_roles f.0)) f.2 (text_trace f.0 f.1)) e;
    }

pub has_spot : (front : Kinds) → MayHave front after_member → is_declared (run front the_start).phase ≡ true
has_spot front m = spot_of_role IsText the_start front m.more (file_roles m.file)
    (subst (λ (x : Kinds). Trace IsText the_start x (file_roles m.file)) m.spelled (text_trace m.file m.is_file)) m.there

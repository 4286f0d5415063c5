-- The tokens of files with their roles, and which are inside a block or an expression. For the contract of `is_inside`.
use Rattle.std.proofs.Common.{◌≡◌, ◌⊎◌, inl, inr, Bool, true, false, List, [], ◌∷◌, ◌++◌, Some, length, slice_get, arith, refl, sym, ap}
use Rattle.std.proofs.Common.{◌∙◌, subst, append-nil}
use Rattle.std.proofs.lemmas.Bool.{false≢true}
use Rattle.std.proofs.lemmas.Option.{slice_get_within}
use Rattle.cs_grammar.proofs.RoleLengths.{file_beside}
use Rattle.cs_ast.specs.declared.token.TokenKind.{TokenKind}
use Rattle.cs_ast.specs.declared.token.TokenKind.TheVariants as token
use Rattle.cs_ast.specs.declared.token.Punctuator.TheVariants as punctuator
use Rattle.cs_ast.specs.RawDeclarations.{Specs, Head}
use Rattle.cs_ast.specs.RawStatements.{Items, External, TypeAlone, Typedef, Objects, Function, Definition}
use Rattle.cs_grammar.specs.TypeWords.{Names}
use Rattle.cs_grammar.specs.Text.{Kinds}
use Rattle.cs_grammar.specs.FileText.{specs_text, head_text, items_text, external_text, externals_text, file_text}
use Rattle.cs_grammar.specs.FilePhrases.{AreSpecs, IsHead, AreItems, IsExternal, names_after, IsFile, BeginsFile}
use Rattle.cs_grammar.specs.Roles.{Role, closes_type, in_expression, another, Roles, specs_roles, head_roles, items_roles, external_roles, file_roles}
use Rattle.cs_grammar.specs.FileRefusals.{MayHave, IsInBlock, IsInside}
use Rattle.cs_grammar.proofs.FileTexts.{specs_append, head_append, items_append, external_append, externals_append}
use Rattle.cs_unsupported.specs.declared.inside.Part.{Part}
use Rattle.cs_unsupported.specs.declared.inside.Part.TheVariants as part
use Rattle.cs_unsupported.specs.declared.inside.Where.{Where}
use Rattle.cs_unsupported.specs.declared.inside.Where.TheVariants.{Declaration, ListedValue, Constants, ListedItem, Inside}
use Rattle.cs_unsupported.specs.declared.inside.Tagging.TheVariants as tagging
use Rattle.cs_unsupported.specs.Sites.{Site, the_first, step, run, is_inside, is_in_body}
use Rattle.cs_unsupported.proofs.InsideTraces.{Telling, Reported, Trace, site, Goes, is_inner, plus}
use Rattle.cs_unsupported.proofs.InsideBodies.{items_still}
use Rattle.cs_unsupported.proofs.InsideDeclarations.{headed, bodiless_trace}

abbrev opened : TokenKind
opened = token.Punctuator punctuator.OpenBrace

abbrev closed : TokenKind
closed = token.Punctuator punctuator.CloseBrace

-- a function's specifiers and head, and its body
definition_trace : (t : Telling) (k : t.blk) (o : t.out) (names : Names) (W : Kinds
    → Type 0) (specs : Specs) (head : Head) (body : Items) (ts : Kinds) (rs : Roles) → IsExternal names (Definition specs head body)
    → ((e : External) → IsExternal names e → (more : Kinds) × W (external_text e more))
    → Trace t (λ y. W (external_text (Definition specs head body) y)) the_first ts rs
    → Trace t W the_first (external_text (Definition specs head body) ts) (external_roles (Definition specs head body) rs)
definition_trace t k o names W specs head body ts rs is g h =
    headed t o names W specs head (opened ∷ items_text body (closed ∷ ts)) (another ∷ items_roles body (another ∷ rs)) is.0 is.1
    (λ x y a b. let w = g (Function x y) (a, b) in (token.Punctuator punctuator.Semicolon ∷ w.0, w.1)) (
      (o, refl),
      items_still t k names (λ y. W (specs_text specs (head_text head (opened ∷ y)))) (Declaration ∷ []) body (closed ∷ ts) (another ∷ rs) is.3
          (λ b. (k, h)) tagging.Nothing,
    )

external_trace : (t : Telling) (k : t.blk) (o : t.out) (names : Names) (W : Kinds → Type 0) (e : External) (ts : Kinds) (rs : Roles) → IsExternal names e
    → ((e : External) → IsExternal names e → (more : Kinds) × W (external_text e more)) → Trace t (λ y. W (external_text e y)) the_first ts rs
    → Trace t W the_first (external_text e ts) (external_roles e rs)
external_trace t k o names W (TypeAlone specs) ts rs is g h = bodiless_trace t o names W (TypeAlone specs) ts rs tt is g h
external_trace t k o names W (Typedef specs ds) ts rs is g h = bodiless_trace t o names W (Typedef specs ds) ts rs tt is g h
external_trace t k o names W (Objects specs objects) ts rs is g h = bodiless_trace t o names W (Objects specs objects) ts rs tt is g h
external_trace t k o names W (Function specs head) ts rs is g h = bodiless_trace t o names W (Function specs head) ts rs tt is g h
external_trace t k o names W (Definition specs head body) ts rs is g h = definition_trace t k o names W specs head body ts rs is g h

file_trace : (t : Telling) (k : t.blk) (o : t.out) → t.ends the_first → (names : Names) (W : Kinds → Type 0) (f : List External) → IsFile names f
    → ((other : List External) → IsFile names other → W (file_text other)) → Trace t W the_first (file_text f) (file_roles f)
file_trace t k o ends names W [] is g = ends
file_trace t k o ends names W (e ∷ es) is g =
    external_trace t k o names W e (file_text es) (file_roles es) is.0 (λ e' is'. ([], g (e' ∷ []) (is', tt)))
    (file_trace t k o ends (names_after names e) (λ y. W (external_text e y)) es is.1 (λ es' are. g (e ∷ es') (is.0, are)))

-- some file has these tokens
abbrev IsText : Kinds → Type 0
IsText kinds = (f : List External) × IsFile [] f × (file_text f ≡ kinds)

-- nothing is required, except that the file ends outside of blocks and expressions
abbrev asked_nothing : Telling
asked_nothing = record { blk = Unit {0}; out = Unit {0}; ends = λ s. is_inside s.within ≡ false }

text_trace : (f : List External) → IsFile [] f → Trace asked_nothing IsText the_first (file_text f) (file_roles f)
text_trace f is = file_trace asked_nothing tt tt refl [] IsText f is (λ other are. (other, are, refl))

-- what is known about the next token
record Here (t : Telling) (W : Kinds → Type 0) (s : Site) (front more : Kinds) (rs : Roles) : Type 0 where
  next : TokenKind
  rest : Kinds
  role : Role
  more_is : more ≡ next ∷ rest
  role_is : slice_get rs (length front) ≡ Some role
  reported : Reported t (λ y. W (front ++ y)) (run front s).within next role

here : (t : Telling) (W : Kinds → Type 0) (s : Site) (front more : Kinds) (rs : Roles) → Trace t W s (front ++ more) rs
    → (t.ends (run front s) × (more ≡ [])) ⊎ Here t W s front more rs
here t W s [] [] rs x = inl (x, refl)
here t W s [] (k ∷ more) [] x = absurd x
here t W s [] (k ∷ more) (r ∷ rs) x = inr (record { next = k; rest = more; role = r; more_is = refl; role_is = refl; reported = x.0 })
here t W s (k ∷ front) more [] x = absurd x
here t W s (k ∷ front) more (r ∷ rs) x =
    elim (here t (λ y. W (k ∷ y)) (step k s) front more rs x.1) [
      | inl e ↦ inl e
      | inr h ↦ inr (record { next = h.next; rest = h.rest; role = h.role; more_is = h.more_is; role_is = h.role_is; reported = h.reported })
    ]

-- a token of an expression is inside
inner_inside : (t : Telling) (W : Kinds → Type 0) (w : Where) (k : TokenKind) (r : Role) → Reported t W w k r → is_inner r ≡ true
    → is_inside w ≡ true
inner_inside t W (Inside p) k r x e = refl
inner_inside t W Declaration k r x e = absurd (false≢true (sym x.1 ∙ e))
inner_inside t W ListedValue k r x e = absurd (false≢true (sym x.1 ∙ e))
inner_inside t W Constants k r x e = absurd (false≢true (sym x.1 ∙ e))
inner_inside t W ListedItem k r x e = absurd (false≢true (sym x.1 ∙ e))

role_inside : (front : Kinds) (role : Role) → is_inner role ≡ true → MayHave front role → is_inside (run front the_first).within ≡ true
role_inside front role e m =
    let x = subst (λ (y : Kinds). Trace asked_nothing IsText the_first y (file_roles m.file)) m.spelled (text_trace m.file m.is_file) in
    elim (here asked_nothing IsText the_first front m.more (file_roles m.file) x) [
      | inl ends ↦
          let text : file_text m.file ≡ front = m.spelled ∙ ap (λ y. front ++ y) ends.1 ∙ append-nil front in
          let within = slice_get_within (file_roles m.file) (length front) role m.there in
          let beside = file_beside m.file in
          let l = ap length text in
          absurd (omega (arith, within, beside, l))
      | inr h ↦
          let same : Some h.role ≡ Some role = sym h.role_is ∙ m.there in
          let r : h.role ≡ role = cc in
          inner_inside asked_nothing (λ y. IsText (front ++ y)) (run front the_first).within h.next h.role h.reported (ap is_inner r ∙ e)
    ]

-- what is required of an expression's token
reported_inside : (t : Telling) (W : Kinds → Type 0) (p : Part) (k : TokenKind) (r : Role) → is_in_body (Inside p) ≡ false → Reported t W (Inside p) k r
    → ((is_inner r ≡ true) ⊎ Goes W) × (k ≡ plus → is_inner r ≡ true)
reported_inside t W part.Body k r e x = absurd (false≢true (sym e))
reported_inside t W part.BodyChoice k r e x = absurd (false≢true (sym e))
reported_inside t W part.Value k r e x = x.1
reported_inside t W part.Constant k r e x = x.1
reported_inside t W part.Item k r e x = x.1
reported_inside t W part.Nested k r e x = x.1
reported_inside t W part.Choice k r e x = x.1

by_role : (front : Kinds) (role : Role) → is_inner role ≡ true → MayHave front role → IsInside front
by_role front in_expression e m = inr (inl m)
by_role front closes_type e m = inr (inr m)
by_role front _ e m = absurd (false≢true e)

-- after the last token
end_of : (t : Telling) (W : Kinds → Type 0) (s : Site) (ks : Kinds) (rs : Roles) → Trace t W s ks rs → t.ends (run ks s)
end_of t W s [] rs x = x
end_of t W s (k ∷ ks) [] x = absurd x
end_of t W s (k ∷ ks) (r ∷ rs) x = end_of t (λ y. W (k ∷ y)) (step k s) ks rs x.1

run_more : (a b : Kinds) (s : Site) → run (a ++ b) s ≡ run b (run a s)
run_more [] b s = refl
run_more (k ∷ a) b s = run_more a b (step k s)

-- no token is in a body, and the site after the tokens is the first one
abbrev outside : Telling
outside = record { blk = ⊥; out = Unit {0}; ends = λ s. s ≡ the_first }

-- the site after the tokens is the first one
abbrev anywhere : Telling
anywhere = record { blk = Unit {0}; out = Unit {0}; ends = λ s. s ≡ the_first }

-- each token is in a body
abbrev bodily : Telling
bodily = record { blk = Unit {0}; out = ⊥; ends = λ s. is_in_body s.within ≡ true }

abbrev Any : Kinds → Type 0
Any kinds = Unit {0}

reported_bodily : (W : Kinds → Type 0) (w : Where) (k : TokenKind) (r : Role) → Reported bodily W w k r → is_in_body w ≡ true
reported_bodily W (Inside part.Body) k r x = refl
reported_bodily W (Inside part.BodyChoice) k r x = refl
reported_bodily W (Inside part.Value) k r x = absurd x.0
reported_bodily W (Inside part.Constant) k r x = absurd x.0
reported_bodily W (Inside part.Item) k r x = absurd x.0
reported_bodily W (Inside part.Nested) k r x = absurd x.0
reported_bodily W (Inside part.Choice) k r x = absurd x.0
reported_bodily W Declaration k r x = absurd x.0
reported_bodily W ListedValue k r x = absurd x.0
reported_bodily W Constants k r x = absurd x.0
reported_bodily W ListedItem k r x = absurd x.0

reported_outside : (W : Kinds → Type 0) (w : Where) (k : TokenKind) (r : Role) → Reported outside W w k r → is_in_body w ≡ true → ⊥
reported_outside W (Inside part.Body) k r x e = x
reported_outside W (Inside part.BodyChoice) k r x e = x
reported_outside W (Inside part.Value) k r x e = false≢true e
reported_outside W (Inside part.Constant) k r x e = false≢true e
reported_outside W (Inside part.Item) k r x e = false≢true e
reported_outside W (Inside part.Nested) k r x e = false≢true e
reported_outside W (Inside part.Choice) k r x e = false≢true e
reported_outside W Declaration k r x e = false≢true e
reported_outside W ListedValue k r x e = false≢true e
reported_outside W Constants k r x e = false≢true e
reported_outside W ListedItem k r x e = false≢true e

-- the tokens of a function's specifiers and head
abbrev headed_text : Specs → Head → Kinds
headed_text specs head = specs_text specs (head_text head [])

headed_outside : (names : Names) (specs : Specs) (head : Head) → AreSpecs names specs → IsHead names head
    → Trace outside Any the_first (headed_text specs head) (specs_roles specs (head_roles head []))
headed_outside names specs head are is = headed outside tt names Any specs head [] [] are is (λ x y a b. ([], tt)) refl

headed_more : (specs : Specs) (head : Head) (x : Kinds) → specs_text specs (head_text head x) ≡ headed_text specs head ++ x
headed_more specs head x = sym (specs_append specs (head_text head []) x ∙ ap (specs_text specs) (head_append head [] x))

externals_end : (names : Names) (f : List External) → IsFile names f → run (file_text f) the_first ≡ the_first
externals_end names f is = end_of anywhere Any the_first (file_text f) (file_roles f) (file_trace anywhere tt tt refl names Any f is (λ other are. tt))

-- the first external declarations of a file are a file
first_parts : (names : Names) (before after : List External) → IsFile names (before ++ after) → IsFile names before
first_parts names [] after is = tt
first_parts names (e ∷ before) after is = (is.0, first_parts (names_after names e) before after is.1)

last_part : (names : Names) (before : List External) (e : External) → IsFile names (before ++ e ∷ []) → (later : Names) × IsExternal later e
last_part names [] e is = (names, is.0)
last_part names (d ∷ before) e is = last_part (names_after names d) before e is.1

in_body_inside : (w : Where) → is_in_body w ≡ true → is_inside w ≡ true
in_body_inside (Inside p) e = refl
in_body_inside Declaration e = absurd (false≢true e)
in_body_inside ListedValue e = absurd (false≢true e)
in_body_inside Constants e = absurd (false≢true e)
in_body_inside ListedItem e = absurd (false≢true e)

abbrev in_the_body : Site
in_the_body = site (Inside part.Body) tagging.Nothing (Declaration ∷ [])

body_stays : (names : Names) (body : Items) (inside more : Kinds) → AreItems names body → items_text body [] ≡ inside ++ more
    → is_in_body (run inside in_the_body).within ≡ true
body_stays names body inside more are e =
    elim (here bodily Any in_the_body inside more (items_roles body [])
    (subst (λ (x : Kinds). Trace bodily Any in_the_body x (items_roles body [])) e
    (items_still bodily tt names Any (Declaration ∷ []) body [] [] are (λ b. refl) tagging.Nothing))) [
      | inl x ↦ x.0
      | inr h ↦ reported_bodily (λ y. Any (inside ++ y)) (run inside in_the_body).within h.next h.role h.reported
    ]

block_inside : (front : Kinds) → IsInBlock front → is_inside (run front the_first).within ≡ true
block_inside front b =
    let e = last_part [] b.before (Definition b.specs b.head b.body) b.is_file in
    let d = e.1 in
    let begun = file_text b.before in
    let headed' = headed_text b.specs b.head in
    let text : front ≡ begun ++ (headed' ++ opened ∷ b.inside) =
    b.spelled ∙ ap (externals_text b.before) (headed_more b.specs b.head (opened ∷ b.inside))
    ∙ sym (externals_append b.before [] (headed' ++ opened ∷ b.inside)) in
    let first : run begun the_first ≡ the_first = externals_end [] b.before (first_parts [] b.before (Definition b.specs b.head b.body ∷ []) b.is_file) in
    let second : run headed' the_first ≡ the_first =
    end_of outside Any the_first headed' (specs_roles b.specs (head_roles b.head [])) (headed_outside e.0 b.specs b.head d.0 d.1) in
    let all : run front the_first ≡ run b.inside in_the_body =
    ap (λ (x : Kinds). run x the_first) text ∙ run_more begun (headed' ++ opened ∷ b.inside) the_first ∙ ap (run (headed' ++ opened ∷ b.inside)) first
    ∙ run_more headed' (opened ∷ b.inside) the_first ∙ ap (run (opened ∷ b.inside)) second in
    ap (λ (s : Site). is_inside s.within) all ∙ in_body_inside (run b.inside in_the_body).within (body_stays e.0 b.body b.inside b.more d.3 b.within)

-- two lists with the same concatenation, one split further than the other
pub split : (a b f m : Kinds) → a ++ b ≡ f ++ m → ((d : Kinds) × (f ≡ a ++ d) × (b ≡ d ++ m))
    ⊎ ((c : TokenKind) × (d : Kinds) × (a ≡ f ++ c ∷ d))
split [] b f m e = inl (f, refl, e)
split (x ∷ a) b [] m e = inr (x, a, refl)
split (x ∷ a) b (y ∷ f) m e =
    let k : x ≡ y = cc in
    elim (split a b f m cc) [
      | inl s ↦ inl (s.0, ap (λ z. y ∷ z) s.1 ∙ ap (λ z. z ∷ (a ++ s.0)) (sym k), s.2)
      | inr s ↦ inr (s.0, s.1, ap (λ z. x ∷ z) s.2 ∙ ap (λ z. z ∷ (f ++ s.0 ∷ s.1)) k)
    ]

-- the tokens before the last one
but_last : (i inside : Kinds) (z c : TokenKind) (d : Kinds) → i ++ z ∷ [] ≡ inside ++ c ∷ d → (more : Kinds) × (i ≡ inside ++ more)
but_last i [] z c d e = (i, refl)
but_last [] (x ∷ []) z c d e = absurd cc
but_last [] (x ∷ y ∷ inside) z c d e = absurd cc
but_last (w ∷ i) (x ∷ inside) z c d e =
    let k : w ≡ x = cc in
    let r = but_last i inside z c d cc in
    (r.0, ap (λ y. w ∷ y) r.1 ∙ ap (λ y. y ∷ (inside ++ r.0)) k)

-- the position is inside the body of a function of the file
record Found (names : Names) (front : Kinds) : Type 0 where
  before : List External
  specs : Specs
  head : Head
  body : Items
  inside : Kinds
  more : Kinds
  is_file : IsFile names (before ++ Definition specs head body ∷ [])
  within : items_text body [] ≡ inside ++ more
  spelled : front ≡ externals_text before (specs_text specs (head_text head (opened ∷ inside)))

-- none of these tokens is in a body
not_there : (front more : Kinds) (c : TokenKind) (ks : Kinds) (rs : Roles) → ks ≡ front ++ c ∷ more → Trace outside Any the_first ks rs
    → is_in_body (run front the_first).within ≡ true → ⊥
not_there front more c ks rs e x b =
    elim (here outside Any the_first front (c ∷ more) rs (subst (λ (y : Kinds). Trace outside Any the_first y rs) e x)) [
      | inl z ↦ let n = z.1 in cc
      | inr h ↦ reported_outside (λ y. Any (front ++ y)) (run front the_first).within h.next h.role h.reported b
    ]

first_not : is_in_body the_first.within ≡ true → ⊥
first_not e = false≢true e

found_after : (names : Names) (specs : Specs) (head : Head) (body : Items) (front : Kinds) (c : TokenKind) (d : Kinds)
    → IsExternal names (Definition specs head body) → is_in_body (run front the_first).within ≡ true
    → run (headed_text specs head) the_first ≡ the_first → (x : Kinds) → front ≡ headed_text specs head ++ x
    → opened ∷ (items_text body [] ++ closed ∷ []) ≡ x ++ c ∷ d → Found names front
found_after names specs head body front c d is b second [] f e =
    absurd (first_not
    (sym (ap (λ (s : Site). is_in_body s.within) (ap (λ (y : Kinds). run y the_first) (f ∙ append-nil (headed_text specs head)) ∙ second)) ∙ b))
found_after names specs head body front c d is b second (x ∷ inside) f e =
    let k : opened ≡ x = cc in
    let l = but_last (items_text body []) inside closed c d cc in
    record {
      before = [];
      specs = specs;
      head = head;
      body = body;
      inside = inside;
      more = l.0;
      is_file = (is, tt);
      within = l.1;
      spelled = f ∙ ap (λ z. headed_text specs head ++ z ∷ inside) (sym k) ∙ sym (headed_more specs head (opened ∷ inside));
    }

found_here : (names : Names) (specs : Specs) (head : Head) (body : Items) (front : Kinds) (c : TokenKind) (d : Kinds)
    → IsExternal names (Definition specs head body) → external_text (Definition specs head body) [] ≡ front ++ c ∷ d
    → is_in_body (run front the_first).within ≡ true → Found names front
found_here names specs head body front c d is e b =
    let p = headed_text specs head in
    let i = items_text body [] in
    let text : p ++ opened ∷ (i ++ closed ∷ []) ≡ front ++ c ∷ d =
    ap (λ (x : Kinds). p ++ opened ∷ x) (items_append body [] (closed ∷ [])) ∙ sym (headed_more specs head (opened ∷ items_text body (closed ∷ [])))
    ∙ e in
    let second : run p the_first ≡ the_first =
    end_of outside Any the_first p (specs_roles specs (head_roles head [])) (headed_outside names specs head is.0 is.1) in
    elim (split p (opened ∷ (i ++ closed ∷ [])) front (c ∷ d) text) [
      | inl s ↦ found_after names specs head body front c d is b second s.0 s.1 s.2
      | inr s ↦ absurd (not_there front s.1 s.0 p (specs_roles specs (head_roles head [])) s.2 (headed_outside names specs head is.0 is.1) b)
    ]

found_later : (names : Names) (e : External) (front rest : Kinds) → IsExternal names e → front ≡ external_text e [] ++ rest
    → Found (names_after names e) rest → Found names front
found_later names e front rest is f r = record {
  before = e ∷ r.before;
  specs = r.specs;
  head = r.head;
  body = r.body;
  inside = r.inside;
  more = r.more;
  is_file = (is, r.is_file);
  within = r.within;
  spelled = f ∙ external_append e [] rest ∙ ap (external_text e) r.spelled;
}

external_end : (names : Names) (e : External) → IsExternal names e → run (external_text e []) the_first ≡ the_first
external_end names e is = end_of anywhere Any the_first (external_text e []) (external_roles e [])
    (external_trace anywhere tt tt names Any e [] [] is (λ e' is'. ([], tt)) refl)

-- the tokens end within an external declaration
found_in : (names : Names) (e : External) (front : Kinds) (c : TokenKind) (d : Kinds) → IsExternal names e → external_text e [] ≡ front ++ c ∷ d
    → is_in_body (run front the_first).within ≡ true → Found names front
found_in names (Definition specs head body) front c d is e b = found_here names specs head body front c d is e b
found_in names (TypeAlone specs) front c d is e b =
    absurd (not_there front d c (external_text (TypeAlone specs) []) (external_roles (TypeAlone specs) []) e
    (bodiless_trace outside tt names Any (TypeAlone specs) [] [] tt is (λ x y. ([], tt)) refl) b)
found_in names (Typedef specs ds) front c d is e b =
    absurd (not_there front d c (external_text (Typedef specs ds) []) (external_roles (Typedef specs ds) []) e
    (bodiless_trace outside tt names Any (Typedef specs ds) [] [] tt is (λ x y. ([], tt)) refl) b)
found_in names (Objects specs ds) front c d is e b =
    absurd (not_there front d c (external_text (Objects specs ds) []) (external_roles (Objects specs ds) []) e
    (bodiless_trace outside tt names Any (Objects specs ds) [] [] tt is (λ x y. ([], tt)) refl) b)
found_in names (Function specs head) front c d is e b =
    absurd (not_there front d c (external_text (Function specs head) []) (external_roles (Function specs head) []) e
    (bodiless_trace outside tt names Any (Function specs head) [] [] tt is (λ x y. ([], tt)) refl) b)

find : (names : Names) (f : List External) (front more : Kinds) → IsFile names f → file_text f ≡ front ++ more
    → is_in_body (run front the_first).within ≡ true → Found names front
find names [] [] more is e b = absurd (first_not b)
find names [] (x ∷ front) more is e b = absurd cc
find names (x ∷ xs) front more is e b =
    elim (split (external_text x []) (file_text xs) front more (external_append x [] (file_text xs) ∙ e)) [
      | inl s ↦
          let same : run front the_first ≡ run s.0 the_first = ap (λ (y : Kinds). run y the_first) s.1 ∙ run_more (external_text x []) s.0 the_first
          ∙ ap (run s.0) (external_end names x is.0) in
          found_later names x front s.0 is.0 s.1 (find (names_after names x) xs s.0 more is.1 s.2 (sym (ap (λ (z : Site). is_in_body z.within) same) ∙ b))
      | inr s ↦ found_in names x front s.0 s.1 is.0 s.2 b
    ]

in_block : (front : Kinds) → BeginsFile front → is_in_body (run front the_first).within ≡ true → IsInBlock front
in_block front f b =
    let r = find [] f.file front f.more f.is_file f.spelled b in
    record {
      before = r.before;
      specs = r.specs;
      head = r.head;
      body = r.body;
      inside = r.inside;
      more = r.more;
      is_file = r.is_file;
      within = r.within;
      spelled = r.spelled;
    }

-- an operator might continue
operator_inside : (front : Kinds) (p : Part) → (run front the_first).within ≡ Inside p → is_in_body (Inside p) ≡ false
    → Goes (λ y. IsText (front ++ y)) → IsInside front
operator_inside front p w n g =
    let f = g.1 in
    let x = subst (λ (y : Kinds). Trace asked_nothing IsText the_first y (file_roles f.0)) f.2 (text_trace f.0 f.1) in
    elim (here asked_nothing IsText the_first front (plus ∷ g.0) (file_roles f.0) x) [
      | inl z ↦ let n = z.1 in absurd cc
      | inr h ↦
          let next : h.next ≡ plus = let m = h.more_is in cc in
          let reported =
          (reported_inside asked_nothing (λ y. IsText (front ++ y)) p h.next h.role n
          (subst (λ (v : Where). Reported asked_nothing (λ y. IsText (front ++ y)) v h.next h.role) w h.reported)).1 in
          by_role front h.role (reported next) (record { file = f.0; more = plus ∷ g.0; is_file = f.1; spelled = f.2; there = h.role_is })
    ]

inside_by : (front : Kinds) → BeginsFile front → (w : Where) → (run front the_first).within ≡ w → is_inside w ≡ true
    → (b : Bool) → is_in_body w ≡ b → IsInside front
inside_by front f w same e true b = inl (in_block front f (ap is_in_body same ∙ b))
inside_by front f (Inside p) same e false b =
    let x = subst (λ (y : Kinds). Trace asked_nothing IsText the_first y (file_roles f.file)) f.spelled (text_trace f.file f.is_file) in
    elim (here asked_nothing IsText the_first front f.more (file_roles f.file) x) [
      | inl z ↦ absurd (false≢true (sym z.0 ∙ ap is_inside same))
      | inr h ↦
          let reported =
          (reported_inside asked_nothing (λ y. IsText (front ++ y)) p h.next h.role b
          (subst (λ (v : Where). Reported asked_nothing (λ y. IsText (front ++ y)) v h.next h.role) same h.reported)).0 in
          elim reported [
            | inl i ↦ by_role front h.role i (record { file = f.file; more = f.more; is_file = f.is_file; spelled = f.spelled; there = h.role_is })
            | inr g ↦ operator_inside front p same b g
          ]
    ]
inside_by front f Declaration same e false b = absurd (false≢true e)
inside_by front f ListedValue same e false b = absurd (false≢true e)
inside_by front f Constants same e false b = absurd (false≢true e)
inside_by front f ListedItem same e false b = absurd (false≢true e)

pub stands_inside : (front : Kinds) → BeginsFile front → is_inside (run front the_first).within ≡ true → IsInside front
stands_inside front f e = inside_by front f (run front the_first).within refl e (is_in_body (run front the_first).within) refl

pub has_site : (front : Kinds) → IsInside front → is_inside (run front the_first).within ≡ true
has_site front i = elim i [
  | inl b ↦ block_inside front b
  | inr m ↦ elim m [ inl e ↦ role_inside front in_expression refl e | inr c ↦ role_inside front closes_type refl c ]
]

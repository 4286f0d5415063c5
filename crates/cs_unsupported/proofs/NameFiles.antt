-- The tokens of files with their roles: where a declarator's name may follow some of them. For the contract of `token_for_name`.
use Rattle.std.proofs.Common.{◌≡◌, ℕ, ◌+◌, ◌⊎◌, inl, inr, Bool, true, false, if◌then◌else◌, nat_eq, IsTrue, List, [], ◌∷◌}
use Rattle.std.proofs.Common.{◌++◌, Option, Some, None, length, drop, slice_get, refl, sym, ap, ◌∙◌, subst, arith, append_assoc, append-nil}
use Rattle.std.proofs.Common.{length-append}
use Rattle.std.specs.Cmp.Lexicographic.{pointwise}
use Rattle.std.proofs.lemmas.Bool.{false≢true, false_from_ne_true, or_cases, or_left, or_right}
use Rattle.std.proofs.lemmas.List.{append_cancel_left, drop-drop}
use Rattle.std.proofs.lemmas.Option.{slice_get_within}
use Rattle.cs_names.proofs.Comparisons.{same_bytes}
use Rattle.cs_ast.specs.declared.token.TokenKind.{TokenKind}
use Rattle.cs_ast.specs.declared.token.TokenKind.TheVariants as token
use Rattle.cs_ast.specs.declared.token.Keyword.TheVariants as keyword
use Rattle.cs_ast.specs.declared.token.Punctuator.TheVariants as punctuator
use Rattle.cs_ast.specs.declared.raw.written_type.PointerWord.{PointerWord}
use Rattle.cs_ast.specs.declared.raw.written_type.PointerWord.TheVariants as pointer
use Rattle.cs_ast.specs.RawTree.{Written}
use Rattle.cs_ast.specs.RawDeclarations.{Declarator}
use Rattle.cs_ast.specs.RawStatements.{External, TypeAlone, Typedef, Objects, Function, Definition}
use Rattle.cs_grammar.specs.TypeWords.{Names, is_among, is_type}
use Rattle.cs_grammar.specs.Text.{Kinds, pointers_text}
use Rattle.cs_grammar.specs.FileText.{brackets_text, declarator_text, declared_text, with_commas, each_after_comma, specs_text, head_text, items_text}
use Rattle.cs_grammar.specs.FileText.{external_text, file_text}
use Rattle.cs_grammar.specs.FilePhrases.{IsFree, IsBound, IsDeclaratorOf, IsExternal, with_name, with_names, names_after, IsFile, BeginsFile}
use Rattle.cs_grammar.specs.Roles.{Role, another, declared_name, Roles, between, declarator_roles, declared_roles, specs_roles, head_roles, items_roles}
use Rattle.cs_grammar.specs.Roles.{external_roles, file_roles}
use Rattle.cs_grammar.specs.FileRefusals.{MayHave}
use Rattle.cs_grammar.proofs.FileTexts.{brackets_append, specs_append, external_append}
use Rattle.cs_grammar.proofs.RoleLengths.{file_beside}
use Rattle.cs_unsupported.specs.declared.declarators.Joint.{Joint}
use Rattle.cs_unsupported.specs.declared.declarators.Joint.TheVariants.{Barred, Listed, Open}
use Rattle.cs_unsupported.specs.Declarators.{joint_after, ending, IsNew, IsAskedFor}
use Rattle.cs_unsupported.proofs.InsideFiles.{split}
use Rattle.cs_unsupported.proofs.TypeFiles.{roles_after}
use Rattle.cs_unsupported.proofs.LastParts.{get_after}
use Rattle.cs_unsupported.proofs.NewNames.{some_new}
use Rattle.cs_unsupported.proofs.NameTraces.{opening, star, World, Goes, Declares, is_barred, NameReported, NextReported, Reported, Trace, NewName}
use Rattle.cs_unsupported.proofs.NameDeclarations.{IsClear, Anything, object, list_each, declarator_trace, specs_trace, head_trace}
use Rattle.cs_unsupported.proofs.NameStatements.{objects_trace, items_trace}

abbrev semicolon : TokenKind
semicolon = token.Punctuator punctuator.Semicolon

abbrev opened : TokenKind
opened = token.Punctuator punctuator.OpenBrace

abbrev closed : TokenKind
closed = token.Punctuator punctuator.CloseBrace

-- an external declaration
external_trace : (x : NewName) (W : World) (us : Kinds) (qs : Roles) (j : Joint) (e : External) (ts : Kinds) (rs : Roles) → IsExternal x.names e
    → ((other : External) → IsExternal x.names other → W (external_text other us) (external_roles other qs))
    → Trace x.name (λ y q. W (external_text e y) (external_roles e q)) Open ts rs → Trace x.name W j (external_text e ts) (external_roles e rs)
external_trace x W us qs j (TypeAlone specs) ts rs is g h =
    specs_trace x W (semicolon ∷ us) (another ∷ qs) j specs (semicolon ∷ ts) (another ∷ rs) is.0 is.1
    (λ specs' some same have. g (TypeAlone specs') (subst (λ ws. IsTrue (is_type x.names ws)) (sym same) is.0, have)) ((tt, tt), h)
external_trace x W us qs j (Typedef specs ds) ts rs is g h = (
  (tt, tt),
  specs_trace x (λ y q. W (token.Keyword keyword.Typedef ∷ y) (another ∷ q)) (with_commas declarator_text ds (semicolon ∷ us))
      (between another declarator_roles ds (another ∷ qs)) Open specs (with_commas declarator_text ds (semicolon ∷ ts))
      (between another declarator_roles ds (another ∷ rs)) is.0.0 is.0.1
      (λ specs' some same have. g (Typedef specs' ds) ((subst (λ ws. IsTrue (is_type x.names ws)) (sym same) is.0.0, have), is.1, is.2))
      (list_each x.name IsClear declarator_text declarator_roles (IsDeclaratorOf (IsFree x.names) (IsBound x.names)) Anything (declarator_trace x (object x))
      refl another refl (λ y q. W (token.Keyword keyword.Typedef ∷ specs_text specs y) (another ∷ specs_roles specs q)) (semicolon ∷ us)
      (another ∷ qs) Open ds (semicolon ∷ ts) (another ∷ rs) refl is.1 is.2
      (λ ds' some all other. g (Typedef specs ds') (is.0, some, all)) ((tt, tt), h)),
)
external_trace x W us qs j (Objects specs objects) ts rs is g h =
    specs_trace x W (with_commas declared_text objects (semicolon ∷ us)) (between another declared_roles objects (another ∷ qs)) j specs
    (with_commas declared_text objects (semicolon ∷ ts)) (between another declared_roles objects (another ∷ rs)) is.0.0 is.0.1
    (λ specs' some same have. g (Objects specs' objects) ((subst (λ ws. IsTrue (is_type x.names ws)) (sym same) is.0.0, have), is.1))
    (objects_trace x (λ y q. W (specs_text specs y) (specs_roles specs q)) us qs objects ts rs is.1 (λ ds all. g (Objects specs ds) (is.0, all)) h)
external_trace x W us qs j (Function specs head) ts rs is g h =
    specs_trace x W (head_text head (semicolon ∷ us)) (head_roles head (another ∷ qs)) j specs (head_text head (semicolon ∷ ts))
    (head_roles head (another ∷ rs)) is.0.0 is.0.1
    (λ specs' some same have. g (Function specs' head) ((subst (λ ws. IsTrue (is_type x.names ws)) (sym same) is.0.0, have), is.1))
    (head_trace x (λ y q. W (specs_text specs y) (specs_roles specs q)) (semicolon ∷ us) (another ∷ qs) Open head (semicolon ∷ ts) (another ∷ rs) refl
    is.1 (λ other all. g (Function specs other) (is.0, all)) ((tt, tt), h))
external_trace x W us qs j (Definition specs head body) ts rs is g h =
    specs_trace x W (head_text head (opened ∷ items_text body (closed ∷ us))) (head_roles head (another ∷ items_roles body (another ∷ qs))) j specs
    (head_text head (opened ∷ items_text body (closed ∷ ts))) (head_roles head (another ∷ items_roles body (another ∷ rs))) is.0.0 is.0.1
    (λ specs' some same have. g (Definition specs' head body) ((subst (λ ws. IsTrue (is_type x.names ws)) (sym same) is.0.0, have), is.1, is.2, is.3))
    (head_trace x (λ y q. W (specs_text specs y) (specs_roles specs q)) (semicolon ∷ us) (another ∷ qs) Open head
    (opened ∷ items_text body (closed ∷ ts)) (another ∷ items_roles body (another ∷ rs)) refl is.1
    (λ other all. g (Function specs other) (is.0, all)) (
      (tt, tt),
      items_trace x (λ y q. W (specs_text specs (head_text head (opened ∷ y))) (specs_roles specs (head_roles head (another ∷ q)))) (closed ∷ us)
          (another ∷ qs) Barred body (closed ∷ ts) (another ∷ rs) is.3 (λ body' all. g (Definition specs head body') (is.0, is.1, is.2, all))
          (λ i. ((tt, tt), h)),
    ))

-- what is known about the token after some others: if other tokens are allowed there, they are allowed in the file
record Here (new : List ℕ) (W : World) (j : Joint) (front : Kinds) (next : TokenKind) (rs : Roles) : Type 1 where
  V : World
  role : Role
  there : slice_get rs (length front) ≡ Some role
  reported : Reported new V (ending front j) next role
  following : (y : Kinds) (q : Roles) → V y q → (all : Roles) × W (front ++ y) all × (drop (length front) all ≡ q)

here : (new : List ℕ) (W : World) (j : Joint) (front : Kinds) (next : TokenKind) (rest : Kinds) (rs : Roles) → Trace new W j (front ++ next ∷ rest) rs
    → Here new W j front next rs
here new W j [] next rest [] x = absurd x
here new W j [] next rest (r ∷ rs) x = record { V = W; role = r; there = refl; reported = x.0; following = λ y q v. (q, v, refl) }
here new W j (k ∷ front) next rest [] x = absurd x
here new W j (k ∷ front) next rest (r ∷ rs) x =
    let h = here new (λ y q. W (k ∷ y) (r ∷ q)) (joint_after k) front next rest rs x.1 in
    record { V = h.V; role = h.role; there = h.there; reported = h.reported; following = λ y q v. let b = h.following y q v in (r ∷ b.0, b.1, b.2) }

ending_more : (a b : Kinds) (j : Joint) → ending (a ++ b) j ≡ ending b (ending a j)
ending_more [] b j = refl
ending_more (k ∷ a) b j = ending_more a b (joint_after k)

new_first : (new : List ℕ) (a b : Kinds) → IsNew new (a ++ b) → IsNew new a
new_first new [] b n = tt
new_first new (k ∷ a) b n = (n.0, new_first new a b n.1)

new_second : (new : List ℕ) (a b : Kinds) → IsNew new (a ++ b) → IsNew new b
new_second new [] b n = n
new_second new (k ∷ a) b n = new_second new a b n.1

new_pointers : (new : List ℕ) (ps : List PointerWord) (y : Kinds) → IsNew new (pointers_text ps y) → IsNew new y
new_pointers new [] y n = n
new_pointers new (pointer.Star ∷ ps) y n = new_pointers new ps y n.1
new_pointers new (pointer.Const ∷ ps) y n = new_pointers new ps y n.1

new_brackets : (new : List ℕ) (bs : List (Option Written)) (y : Kinds) → IsNew new (brackets_text bs y) → IsNew new y
new_brackets new bs y n = new_second new (brackets_text bs []) y (subst (IsNew new) (sym (brackets_append bs [] y)) n)

-- a name among these and one more
among_more : (names : Names) (m new : List ℕ) → is_among (names ++ m ∷ []) new ≡ true → (is_among names new ≡ true) ⊎ (m ≡ new)
among_more [] m new e =
    elim (or_cases (pointwise nat_eq new m) false e) [
      | inl p ↦ inr (sym (same_bytes new m p))
      | inr f ↦ absurd (false≢true f)
    ]
among_more (n ∷ names) m new e =
    elim (or_cases (pointwise nat_eq new n) (is_among (names ++ m ∷ []) new) e) [
      | inl p ↦ inl (or_left (pointwise nat_eq new n) (is_among names new) p)
      | inr r ↦ elim (among_more names m new r) [ inl a ↦ inl (or_right (pointwise nat_eq new n) (is_among names new) a) | inr s ↦ inr s ]
    ]

free_if : (names : Names) (m new : List ℕ) (b : Bool) → is_among names new ≡ false → (m ≡ new → ⊥)
    → is_among (if b then names else names ++ m ∷ []) new ≡ false
free_if names m new true free other = free
free_if names m new false free other =
    false_from_ne_true (is_among (names ++ m ∷ []) new) (λ e.
    elim (among_more names m new e) [ inl a ↦ false≢true (sym free ∙ a) | inr s ↦ other s ])

-- a name that is that of no declarator
free_each : (names : Names) (new : List ℕ) (ds : List Declarator) (y : Kinds) → is_among names new ≡ false
    → IsNew new (each_after_comma declarator_text ds y) → is_among (with_names names ds) new ≡ false
free_each names new [] y free n = free
free_each names new (d ∷ ds) y free n =
    let z : Kinds = each_after_comma declarator_text ds y in
    let named = new_pointers new d.pointers (token.Name d.name ∷ brackets_text d.bounds z) n.1 in
    free_each (with_name names d.name) new ds y (free_if names d.name new (is_among names d.name) free (λ e. named.0 (ap token.Name e)))
    (new_brackets new d.bounds z named.1)

free_list : (names : Names) (new : List ℕ) (ds : List Declarator) (y : Kinds) → is_among names new ≡ false
    → IsNew new (with_commas declarator_text ds y) → is_among (with_names names ds) new ≡ false
free_list names new [] y free n = free
free_list names new (d ∷ ds) y free n = free_each names new (d ∷ ds) y free ((λ e. cc), n)

-- a name stays free after an external declaration in which it is new
free_after : (names : Names) (new : List ℕ) (e : External) → is_among names new ≡ false → IsNew new (external_text e [])
    → is_among (names_after names e) new ≡ false
free_after names new (Typedef specs ds) free n =
    let list : Kinds = with_commas declarator_text ds (semicolon ∷ []) in
    free_list names new ds (semicolon ∷ []) free (new_second new (specs_text specs []) list (subst (IsNew new) (sym (specs_append specs [] list)) n.1))
free_after names new (TypeAlone specs) free n = free
free_after names new (Objects specs objects) free n = free
free_after names new (Function specs head) free n = free
free_after names new (Definition specs head body) free n = free

no_first : (front : Kinds) (next : TokenKind) (rest : Kinds) → [] ≡ front ++ next ∷ rest → ⊥
no_first [] next rest e = cc
no_first (k ∷ front) next rest e = cc

-- the token is in a later external declaration
later : (names : Names) (new : List ℕ) (W : World) (j : Joint) (e : External) (es : List External) (front d : Kinds) (next : TokenKind) → IsExternal names e
    → front ≡ external_text e [] ++ d
    → Here new (λ y q. W (external_text e y) (external_roles e q)) (ending (external_text e []) j) d next (file_roles es)
    → Here new W j front next (file_roles (e ∷ es))
later names new W j e es front d next is f h =
    let count : length front ≡ length (external_text e []) + length d = ap length f ∙ length-append (external_text e []) d in
    let cut = λ (rs : Roles). ap (λ (n : ℕ). drop n (external_roles e rs)) count
    ∙ sym (drop-drop (length d) (length (external_text e [])) (external_roles e rs)) ∙ ap (drop (length d)) (roles_after names e rs is) in
    record {
      V = h.V;
      role = h.role;
      there =
          ap (slice_get (external_roles e (file_roles es))) count ∙ get_after (length (external_text e [])) (length d) (external_roles e (file_roles es))
          ∙ ap (λ (rs : Roles). slice_get rs (length d)) (roles_after names e (file_roles es) is) ∙ h.there;
      reported = subst (λ (i : Joint). Reported new h.V i next h.role) (sym (ap (λ (x : Kinds). ending x j) f ∙ ending_more (external_text e []) d j))
          h.reported;
      following = λ y q v.
          let b = h.following y q v in
          let text : external_text e (d ++ y) ≡ front ++ y = sym (external_append e [] (d ++ y)) ∙ sym (append_assoc (external_text e []) d y)
          ∙ ap (λ (x : Kinds). x ++ y) (sym f) in
          (external_roles e b.0, subst (λ (x : Kinds). W x (external_roles e b.0)) text b.1, cut b.0 ∙ b.2);
    }

found : (names : Names) (new : List ℕ) (W : World) (j : Joint) (f : List External) (front : Kinds) (next : TokenKind) (rest : Kinds) → IsFile names f
    → is_among names new ≡ false → IsNew new front → ((other : List External) → IsFile names other → W (file_text other) (file_roles other))
    → file_text f ≡ front ++ next ∷ rest → Here new W j front next (file_roles f)
found names new W j [] front next rest is free n g spelled = absurd (no_first front next rest spelled)
found names new W j (e ∷ es) front next rest is free n g spelled =
    let x : NewName = record { names = names; name = new; free = free } in
    let all : external_text e [] ++ file_text es ≡ front ++ next ∷ rest = external_append e [] (file_text es) ∙ spelled in
    elim (split (external_text e []) (file_text es) front (next ∷ rest) all) [
      | inl s ↦
          let n' = subst (IsNew new) s.1 n in
          later names new W j e es front s.0 next is.0 s.1
          (found (names_after names e) new (λ y q. W (external_text e y) (external_roles e q)) (ending (external_text e []) j) es s.0 next rest is.1
          (free_after names new e free (new_first new (external_text e []) s.0 n'))
          (new_second new (external_text e []) s.0 n') (λ es' are. g (e ∷ es') (is.0, are)) s.2)
      | inr s ↦
          let t = external_trace x W [] [] j e [] (file_roles es) is.0 (λ e' is'. g (e' ∷ []) (is', tt)) tt in
          let both : s.0 ∷ (s.1 ++ file_text es) ≡ next ∷ rest =
          append_cancel_left front (s.0 ∷ (s.1 ++ file_text es)) (next ∷ rest) (sym (append_assoc front (s.0 ∷ s.1) (file_text es))
          ∙ ap (λ (y : Kinds). y ++ file_text es) (sym s.2) ∙ all) in
          let same : s.0 ≡ next = cc in
          subst (λ (k : TokenKind). Here new W j front k (file_roles (e ∷ es))) same
          (here new W j front s.0 s.1 (external_roles e (file_roles es)) (subst (λ (y : Kinds). Trace new W j y (external_roles e (file_roles es))) s.2 t))
    ]

-- some file has these tokens and roles
abbrev IsFileOf : World
IsFileOf y q = (f : List External) × IsFile [] f × (file_text f ≡ y) × (file_roles f ≡ q)

at : (new : List ℕ) (f : List External) (front : Kinds) (next : TokenKind) (rest : Kinds) → IsFile [] f → IsNew new front
    → file_text f ≡ front ++ next ∷ rest → Here new IsFileOf Open front next (file_roles f)
at new f front next rest is n spelled = found [] new IsFileOf Open f front next rest is refl n (λ other are. (other, are, refl, refl)) spelled

-- a file continues with the token
goes_on : (new : List ℕ) (front : Kinds) (next : TokenKind) (rs : Roles) (h : Here new IsFileOf Open front next rs) (k : TokenKind) → Goes h.V k
    → BeginsFile (front ++ k ∷ [])
goes_on new front next rs h k v =
    let f = (h.following (k ∷ v.0) v.1 v.2).1 in
    record { file = f.0; more = v.0; is_file = f.1; spelled = f.2 ∙ sym (append_assoc front (k ∷ []) v.0) }

-- a declarator's name is next in some file
declares : (new : List ℕ) (front : Kinds) (next : TokenKind) (rs : Roles) (h : Here new IsFileOf Open front next rs) → Declares h.V
    → MayHave front declared_name
declares new front next rs h v =
    let b = h.following (token.Name v.0 ∷ v.1) (declared_name ∷ v.2) v.3 in
    let f = b.1 in
    let none : length front ≡ length front + 0 = omega arith in
    record {
      file = f.0;
      more = token.Name v.0 ∷ v.1;
      is_file = f.1;
      spelled = f.2;
      there =
          ap (λ (rs : Roles). slice_get rs (length front)) f.3 ∙ ap (slice_get b.0) none ∙ get_after (length front) 0 b.0
          ∙ ap (λ (rs : Roles). slice_get rs 0) b.2;
    }

-- what is known if some file has a declarator's name next
record Named (front : Kinds) (new : List ℕ) : Type 0 where
  clear : is_barred (ending front Open) ≡ false
  pointed : BeginsFile (front ++ star ∷ [])
  named : BeginsFile (front ++ token.Name new ∷ [])

named_by_role : (new : List ℕ) (front more : Kinds) (f : List External) → IsFile [] f → IsNew new front → file_text f ≡ front ++ more
    → slice_get (file_roles f) (length front) ≡ Some declared_name → Named front new
named_by_role new front [] f is n spelled there =
    let text : file_text f ≡ front = spelled ∙ append-nil front in
    let within = slice_get_within (file_roles f) (length front) declared_name there in
    let beside = file_beside f in
    let l = ap length text in
    absurd (omega (arith, within, beside, l))
named_by_role new front (next ∷ rest) f is n spelled there =
    let h = at new f front next rest is n spelled in
    let same : Some h.role ≡ Some declared_name = sym h.there ∙ there in
    let role : h.role ≡ declared_name = cc in
    let reported = subst (NameReported new h.V (ending front Open)) role h.reported.0 in
    record {
      clear = reported.0;
      pointed = goes_on new front next (file_roles f) h star reported.1;
      named = goes_on new front next (file_roles f) h (token.Name new) reported.2;
    }

is_named : (new : List ℕ) (front : Kinds) → IsNew new front → MayHave front declared_name → Named front new
is_named new front n m = named_by_role new front m.more m.file m.is_file n m.spelled m.there

-- the new name continues, and then it is a declarator's
by_name : (new : List ℕ) (front : Kinds) → IsNew new front → (BeginsFile (front ++ opening ∷ []) → ⊥) → ending front Open ≡ Open
    → BeginsFile (front ++ token.Name new ∷ []) → MayHave front declared_name
by_name new front n none last b =
    let spelled : file_text b.file ≡ front ++ token.Name new ∷ b.more = b.spelled ∙ append_assoc front (token.Name new ∷ []) b.more in
    let h = at new b.file front (token.Name new) b.more b.is_file n spelled in
    elim (subst (λ (j : Joint). NextReported new h.V (token.Name new) j h.role) last h.reported.1 refl) [
      | inl role ↦ record { file = b.file; more = token.Name new ∷ b.more; is_file = b.is_file; spelled = spelled; there = h.there ∙ ap Some role }
      | inr opens ↦ absurd (none (goes_on new front (token.Name new) (file_roles b.file) h opening opens))
    ]

-- a star continues after a comma
by_star : (new : List ℕ) (front : Kinds) → IsNew new front → (BeginsFile (front ++ opening ∷ []) → ⊥) → ending front Open ≡ Listed
    → BeginsFile (front ++ star ∷ []) → MayHave front declared_name
by_star new front n none last b =
    let spelled : file_text b.file ≡ front ++ star ∷ b.more = b.spelled ∙ append_assoc front (star ∷ []) b.more in
    let h = at new b.file front star b.more b.is_file n spelled in
    elim (subst (λ (j : Joint). NextReported new h.V star j h.role) last h.reported.1) [
      | inl opens ↦ absurd (none (goes_on new front star (file_roles b.file) h opening opens))
      | inr name ↦ declares new front star (file_roles b.file) h name
    ]

-- if no parenthesis continues, this token decides
pub asked_new : (new : List ℕ) (front : Kinds) → IsNew new front → ending front Open ≡ Open → (BeginsFile (front ++ opening ∷ []) → ⊥)
    → IsAskedFor front (Some (token.Name new))
asked_new new front n last none = (λ m. (is_named new front n m).named, by_name new front n none last)

pub asked_star : (front : Kinds) → ending front Open ≡ Listed → (BeginsFile (front ++ opening ∷ []) → ⊥) → IsAskedFor front (Some star)
asked_star front last none =
    let n = some_new front in
    (λ m. (is_named n.0 front n.1 m).pointed, by_star n.0 front n.1 none last)

pub asked_none : (front : Kinds) → ending front Open ≡ Barred → IsAskedFor front None
asked_none front last m =
    let n = some_new front in
    false≢true (sym (is_named n.0 front n.1 m).clear ∙ ap is_barred last)

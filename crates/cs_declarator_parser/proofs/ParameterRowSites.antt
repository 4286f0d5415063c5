-- Parameters with commas between them, and a function's parameter list: the result of each return. For the contracts of
-- `parameter_list` and `parameters`.
use Rattle.std.proofs.Common.{◌≡◌, ℕ, ◌+◌, ◌<◌, ◌≤◌, max, ◌⊎◌, inl, inr, Bool, true, false, ◌&&◌, map, List, [], ◌∷◌}
use Rattle.std.proofs.Common.{◌++◌, Option, Some, None, length, drop, refl, sym, ap, ◌∙◌, subst, arith, append_assoc, append-nil}
use Rattle.std.proofs.lemmas.Bool.{false≢true}
use Rattle.std.specs.List.{list_all}
use Rattle.std.specs.Option.{is_some, option_map}
use Rattle.cs_ast.specs.declared.token.Token.{Token}
use Rattle.cs_ast.specs.declared.token.TokenKind.{TokenKind}
use Rattle.cs_ast.specs.declared.token.TokenKind.TheVariants as token
use Rattle.cs_ast.specs.declared.token.Keyword.TheVariants as keyword
use Rattle.cs_ast.specs.declared.token.Punctuator.TheVariants as punctuator
use Rattle.cs_ast.specs.declared.raw.declaration.RawParameter.{RawParameter}
use Rattle.cs_ast.specs.declared.raw.declaration.RawParameters.{RawParameters}
use Rattle.cs_ast.specs.declared.raw.name.RawName.{RawName}
use Rattle.cs_ast.specs.RawDeclarations.{Parameter, Parameters, NoParameter, VoidAlone, ParameterList}
use Rattle.cs_ast.specs.RawDeclarationView.{parameter, parameters}
use Rattle.cs_ast.specs.RawFileHeight.{highest_by, parameter_height, parameters_height}
use Rattle.cs_grammar.specs.declared.refusal.Reason.{Reason}
use Rattle.cs_grammar.specs.TypeWords.{Names}
use Rattle.cs_grammar.specs.Text.{Kinds}
use Rattle.cs_grammar.specs.FileText.{parameter_text, with_commas}
use Rattle.cs_grammar.specs.FilePhrases.{IsParameter, lone_void, AreNamed}
use Rattle.cs_grammar.specs.Parsing.{Class, Near, Begins, BeginsLow, Refused, Exactly}
use Rattle.cs_grammar.specs.Composed.{Separated}
use Rattle.cs_grammar.specs.DeclarationClasses.{ends_parameter, ParameterClass, ParameterRows, ParameterLists}
use Rattle.cs_grammar.proofs.Holes.{splits}
use Rattle.cs_grammar.proofs.Pairs.{single_refused}
use Rattle.cs_grammar.proofs.Rows.{comma_token}
use Rattle.cs_grammar.proofs.Statements.{close_parenthesis}
use Rattle.cs_grammar.proofs.ParameterRules.{parameters_class_law, int_parameter, int_is, parameter_row}
use Rattle.cs_grammar.proofs.HeadRules.{rows_no_punctuator, lists_none, lists_void, IsRow, list_invert, list_single, rows_refused}
use Rattle.cs_expr_parser.specs.Positions.{kinds, kind_or_end}
use Rattle.cs_expr_parser.specs.Parts.{Spells, is_deep}
use Rattle.cs_expr_parser.specs.declared.stop.Stop.{Stop}
use Rattle.cs_expr_parser.specs.declared.stop.Stop.TheVariants as stop
use Rattle.cs_declarator_parser.specs.declared.stop.Taken.{Taken}
use Rattle.cs_declarator_parser.specs.Answers.{Stops, IsExactly}
use Rattle.cs_declarator_parser.specs.DeclarationAnswers.{IsVoidAlone}
use Rattle.cs_declarator_parser.specs.ParameterAnswers.{ParameterStops, has_name}
use Rattle.cs_expr_parser.proofs.Standing.{stands, kinds_first, spells_one, spells_more}
use Rattle.cs_expr_parser.proofs.Stopping.{refused_number}
use Rattle.cs_declarator_parser.proofs.PartStops.{stops_pass, near_start}
use Rattle.cs_declarator_parser.proofs.RowSites.{RowSoFar, row_first, row_next, row_first_stops, row_next_stops, row_wrong}

-- parameters with commas between them; a list of only `void` is allowed too
abbrev pub AnyRows : Names → Class
AnyRows names = Separated (ParameterClass names) close_parenthesis

-- if some tokens and one more begin with the front, it is a beginning of these tokens, or all of them
front_within : (xs : Kinds) (last : TokenKind) (front more : Kinds) → xs ++ last ∷ [] ≡ front ++ more
    → (more ≡ []) ⊎ ((others : Kinds) × (xs ≡ front ++ others))
front_within xs last [] more same = inr (xs, refl)
front_within [] last (f ∷ []) more same = inl cc
front_within [] last (f ∷ g ∷ fs) more same = absurd cc
front_within (x ∷ xs) last (f ∷ fs) more same =
    elim (front_within xs last fs more cc) [ inl e ↦ inl e | inr o ↦ inr (o.0, let e = o.1 in cc) ]

two_differ : (p q : Parameter) (ps : List Parameter) → p ∷ q ∷ ps ≡ lone_void ∷ [] → ⊥
two_differ p q ps e = cc

one_text : (p : Parameter) → with_commas parameter_text (p ∷ []) (close_parenthesis ∷ []) ≡ parameter_text p [] ++ close_parenthesis ∷ []
one_text p = splits (ParameterClass []) (parameters_class_law []) p (close_parenthesis ∷ [])

-- the tokens that begin one parameter also begin two
two_text : (p : Parameter) (front others : Kinds) → parameter_text p [] ≡ front ++ others
    → with_commas parameter_text (p ∷ int_parameter ∷ []) (close_parenthesis ∷ [])
    ≡ front ++ (others ++ comma_token ∷ parameter_text int_parameter (close_parenthesis ∷ []))
two_text p front others same =
    splits (ParameterClass []) (parameters_class_law []) p (comma_token ∷ parameter_text int_parameter (close_parenthesis ∷ []))
    ∙ ap (λ (x : Kinds). x ++ comma_token ∷ parameter_text int_parameter (close_parenthesis ∷ [])) same
    ∙ append_assoc front others (comma_token ∷ parameter_text int_parameter (close_parenthesis ∷ []))

row_low : (names : Names) (limit : ℕ) → 2 ≤ limit → (front : Kinds) (next : TokenKind) (deep : Bool) → Refused (AnyRows names) limit front next deep
    → (list : List Parameter) (more : Kinds) → (AnyRows names).Is list → highest_by parameter_height list ≤ limit
    → with_commas parameter_text list (close_parenthesis ∷ []) ≡ front ++ more → (front ≡ []) ⊎ BeginsLow (ParameterRows names) limit front
row_low names limit some front next deep r [] more is low same = absurd is.0
row_low names limit some front next deep r (p ∷ q ∷ ps) more is low same =
    inr (record { phrase = p ∷ q ∷ ps; more = more; is_phrase = (tt, (two_differ p q ps, is.1)); low = low; spelled = same })
row_low names limit some front next deep r (p ∷ []) more is low same =
    elim (front_within (parameter_text p []) close_parenthesis front more (sym (one_text p) ∙ same)) [
      | inl e ↦ absurd ((r.never (p ∷ []) [] [] is tt (inl refl) (same ∙ ap (λ (x : Kinds). front ++ x) e)).onward refl)
      | inr o ↦ inr (record {
        phrase = p ∷ int_parameter ∷ [];
        more = o.0 ++ comma_token ∷ parameter_text int_parameter (close_parenthesis ∷ []);
        is_phrase = (tt, (two_differ p int_parameter [], (is.1.0, (int_is names, tt))));
        low = omega (arith, low, some);
        spelled = two_text p front o.0 o.1;
      })
    ]

high_differs : (p : Parameter) (limit : ℕ) → 2 ≤ limit → limit < highest_by parameter_height (p ∷ []) → p ∷ [] ≡ lone_void ∷ [] → ⊥
high_differs p limit some high e =
    let h : highest_by parameter_height (p ∷ []) ≡ 2 = ap (highest_by parameter_height) e in
    absurd (omega (arith, some, high, h))

row_further : (names : Names) (limit : ℕ) → 2 ≤ limit → (front : Kinds) (next : TokenKind) (deep : Bool)
    → Refused (AnyRows names) limit front next deep → (list : List Parameter) (more : Kinds) → (AnyRows names).Is list
    → with_commas parameter_text list (close_parenthesis ∷ []) ≡ (front ++ next ∷ []) ++ more → Begins (ParameterRows names) (front ++ next ∷ [])
row_further names limit some front next deep r [] more is same = absurd is.0
row_further names limit some front next deep r (p ∷ q ∷ ps) more is same =
    record { phrase = p ∷ q ∷ ps; more = more; is_phrase = (tt, (two_differ p q ps, is.1)); spelled = same }
row_further names limit some front next deep r (p ∷ []) more is same =
    elim (front_within (parameter_text p []) close_parenthesis (front ++ next ∷ []) more (sym (one_text p) ∙ same)) [
      | inl e ↦
          let over = r.never (p ∷ []) [] (next ∷ []) is tt (inr ([], refl)) (same ∙ ap (λ (x : Kinds). (front ++ next ∷ []) ++ x) e
          ∙ append-nil (front ++ next ∷ [])) in
          record { phrase = p ∷ []; more = more; is_phrase = (tt, (high_differs p limit some over.high, is.1)); spelled = same }
      | inr o ↦ record {
        phrase = p ∷ int_parameter ∷ [];
        more = o.0 ++ comma_token ∷ parameter_text int_parameter (close_parenthesis ∷ []);
        is_phrase = (tt, (two_differ p int_parameter [], (is.1.0, (int_is names, tt))));
        spelled = two_text p (front ++ next ∷ []) o.0 o.1;
      }
    ]

-- where parameters are refused in such a list, they are refused in one that isn't only `void`
any_refused : (names : Names) (limit : ℕ) → 2 ≤ limit → (front : Kinds) (next : TokenKind) (deep : Bool)
    → Refused (AnyRows names) limit front next deep → Refused (ParameterRows names) limit front next deep
any_refused names limit some front next deep r =
    rows_refused names limit front next deep
    (elim r.begun [ inl e ↦ inl e | inr b ↦ row_low names limit some front next deep r b.phrase b.more b.is_phrase b.low b.spelled ])
    (λ reported. let b = r.further reported in row_further names limit some front next deep r b.phrase b.more b.is_phrase b.spelled) r

pub rows_stop : (names : Names) (limit : ℕ) → 2 ≤ limit → (tokens : List Token) (from : ℕ) (s : Stop) → Stops (AnyRows names) limit tokens from s
    → Stops (ParameterRows names) limit tokens from s
rows_stop names limit some tokens from s r =
    stops_pass (ParameterRows names) (AnyRows names) limit limit tokens from
    (λ front at deep here x. any_refused names limit some front (kind_or_end tokens at) deep x) s r

abbrev pub ParametersSoFar : Names → ℕ → List Token → ℕ → List Parameter → Parameter → ℕ → ℕ → Type 0
ParametersSoFar names limit tokens from done last next tall = RowSoFar (ParameterClass names) close_parenthesis limit tokens from done last next false tall

no_comma : (next : TokenKind) → ends_parameter next ≡ false → next ≡ comma_token → ⊥
no_comma next e k = false≢true (sym e ∙ ap ends_parameter k)

no_close : (next : TokenKind) → ends_parameter next ≡ false → next ≡ close_parenthesis → ⊥
no_close next e k = false≢true (sym e ∙ ap ends_parameter k)

-- the first parameter was refused
first_any : (names : Names) (limit : ℕ) → 2 ≤ limit → (tokens : List Token) (from : ℕ) → from ≤ length tokens
    → (s : Stop) → ParameterStops names limit tokens from s → Stops (AnyRows names) limit tokens from s
first_any names limit some tokens from within stop.Memory r = tt
first_any names limit some tokens from within (stop.Refused at reason) r =
    elim r [
      | inl x ↦ row_first_stops (ParameterClass names) close_parenthesis limit (parameter_row names) some tokens from (stop.Refused at reason) x
      | inr b ↦
          row_wrong (ParameterClass names) close_parenthesis limit (parameter_row names) tokens from [] b.whole at reason (parameter_height b.whole)
          (row_first (ParameterClass names) close_parenthesis limit (parameter_row names) some tokens from within b.whole at (is_deep reason)
          (parameter_height b.whole) b.spelled b.took refl)
          (no_comma (kind_or_end tokens at) b.unended) (no_close (kind_or_end tokens at) b.unended)
    ]

pub first_stops : (names : Names) (limit : ℕ) → 2 ≤ limit → (tokens : List Token) (from : ℕ) → from ≤ length tokens
    → (s : Stop) → ParameterStops names limit tokens from s → Stops (ParameterRows names) limit tokens from s
first_stops names limit some tokens from within s r = rows_stop names limit some tokens from s (first_any names limit some tokens from within s r)

-- a parameter after a comma was refused
next_any : (names : Names) (limit : ℕ) → 2 ≤ limit → (tokens : List Token) (from : ℕ) (done : List Parameter) (last : Parameter) (next tall : ℕ)
    → ParametersSoFar names limit tokens from done last next tall → kind_or_end tokens next ≡ comma_token
    → (s : Stop) → ParameterStops names limit tokens (next + 1) s → Stops (AnyRows names) limit tokens from s
next_any names limit some tokens from done last next tall f k stop.Memory r = tt
next_any names limit some tokens from done last next tall f k (stop.Refused at reason) r =
    elim r [
      | inl x ↦ row_next_stops (ParameterClass names) close_parenthesis limit (parameter_row names) some tokens from done last next false tall f k
          (stop.Refused at reason) x
      | inr b ↦
          row_wrong (ParameterClass names) close_parenthesis limit (parameter_row names) tokens from (done ++ last ∷ []) b.whole at reason
          (max tall (parameter_height b.whole))
          (row_next (ParameterClass names) close_parenthesis limit (parameter_row names) some tokens from done last next false tall f k b.whole at
          (is_deep reason) (parameter_height b.whole) b.spelled b.took refl)
          (no_comma (kind_or_end tokens at) b.unended) (no_close (kind_or_end tokens at) b.unended)
    ]

pub next_stops : (names : Names) (limit : ℕ) → 2 ≤ limit
    → (tokens : List Token) (from : ℕ) (done : List Parameter) (last : Parameter) (next tall : ℕ)
    → ParametersSoFar names limit tokens from done last next tall → kind_or_end tokens next ≡ comma_token
    → (s : Stop) → ParameterStops names limit tokens (next + 1) s → Stops (ParameterRows names) limit tokens from s
next_stops names limit some tokens from done last next tall f k s r =
    rows_stop names limit some tokens from s (next_any names limit some tokens from done last next tall f k s r)

-- neither a comma nor the closing parenthesis follows a parameter
pub unended_stops : (names : Names) (limit : ℕ) → 2 ≤ limit
    → (tokens : List Token) (from : ℕ) (done : List Parameter) (last : Parameter) (next tall : ℕ)
    → ParametersSoFar names limit tokens from done last next tall → (kind_or_end tokens next ≡ comma_token → ⊥)
    → (kind_or_end tokens next ≡ close_parenthesis → ⊥) → (reason : Reason) → is_deep reason ≡ false
    → Stops (ParameterRows names) limit tokens from (stop.Refused next reason)
unended_stops names limit some tokens from done last next tall f comma closed reason plain =
    rows_stop names limit some tokens from (stop.Refused next reason)
    (row_wrong (ParameterClass names) close_parenthesis limit (parameter_row names) tokens from done last next reason tall
    (subst (λ (d : Bool). RowSoFar (ParameterClass names) close_parenthesis limit tokens from done last next d tall) (sym plain) f) comma closed)

-- `void` and a closing parenthesis are the next tokens
void_stands : (tokens : List Token) (from : ℕ) (rest : Kinds) → kinds (drop from tokens) ≡ token.Keyword keyword.Void ∷ close_parenthesis ∷ rest
    → IsVoidAlone tokens from
void_stands tokens from rest same =
    let k : kind_or_end tokens from ≡ token.Keyword keyword.Void =
    kinds_first (drop from tokens) (token.Keyword keyword.Void) (close_parenthesis ∷ rest) same in
    let s = stands tokens from (token.Keyword keyword.Void) k (λ x. cc) in
    let e : token.Keyword keyword.Void ∷ kinds (drop (from + 1) tokens) ≡ token.Keyword keyword.Void ∷ close_parenthesis ∷ rest = sym s.1 ∙ same in
    (k, kinds_first (drop (from + 1) tokens) close_parenthesis rest cc)

-- the parameters were taken, and aren't only `void`
pub rows_taken : {A : Type 0} (view : A → List Parameter) (names : Names) (limit : ℕ) (tokens : List Token) (from : ℕ) (taken : Taken A)
    → (IsVoidAlone tokens from → ⊥) → IsExactly (AnyRows names) view limit tokens from taken
    → IsExactly (ParameterRows names) view limit tokens from taken
rows_taken view names limit tokens from taken other t =
    let differs : view taken.tree ≡ lone_void ∷ [] → ⊥ = λ e.
    other (void_stands tokens from (kinds (drop taken.next tokens))
    (subst (λ (x : List Parameter). Spells tokens from taken.next ((AnyRows names).spell x)) e t.spelled).spelled) in
    record {
      height_is = t.height_is;
      spelled = t.spelled;
      exactly = record {
        is_phrase = (t.exactly.is_phrase.0, (differs, t.exactly.is_phrase.1));
        low = t.exactly.low;
        exact = λ whole after following is same. t.exactly.exact whole after following (is.0, is.1.1) same;
      };
    }

lone_is : (names : Names) → IsParameter names lone_void
lone_is names = record { specs = (refl, (tt, tt)); pointers = refl; free = tt; bounds = tt }

first_near : (next kind : TokenKind) (following more : Kinds) → Near next following → following ≡ kind ∷ more → next ≡ kind
first_near next kind following more near same =
    elim near [ inl e ↦ let z = sym e ∙ same in absurd cc | inr m ↦ let z : next ∷ m.0 ≡ kind ∷ more = sym m.1 ∙ same in cc ]

-- `void` is refused as the first token only if the limit doesn't allow a parameter
void_refused : (names : Names) (limit : ℕ) → 2 ≤ limit → (next : TokenKind) (deep : Bool) → next ≡ token.Keyword keyword.Void
    → Refused (ParameterRows names) limit [] next deep → ⊥
void_refused names limit some next deep k r =
    let rest = comma_token ∷ parameter_text int_parameter (close_parenthesis ∷ []) in
    let over = r.never (lone_void ∷ int_parameter ∷ []) [] (token.Keyword keyword.Void ∷ rest) (
      tt,
      (two_differ lone_void int_parameter [], (lone_is names, (int_is names, tt))),
    ) tt (inr (rest, ap (λ (x : TokenKind). x ∷ rest) (sym k))) refl in
    let high = over.high in
    absurd (omega (arith, some, high))

no_void_front : (names : Names) (limit : ℕ) → 2 ≤ limit → (tokens : List Token) (from at : ℕ) (deep : Bool) → (IsVoidAlone tokens from → ⊥)
    → (front : Kinds) → Spells tokens from at (λ rest. front ++ rest) → Refused (ParameterRows names) limit front (kind_or_end tokens at) deep
    → (following more : Kinds) → Near (kind_or_end tokens at) following → front ++ following ≡ token.Keyword keyword.Void ∷ close_parenthesis ∷ more
    → ⊥
no_void_front names limit some tokens from at deep other [] here r following more near same =
    void_refused names limit some (kind_or_end tokens at) deep
    (first_near (kind_or_end tokens at) (token.Keyword keyword.Void) following (close_parenthesis ∷ more) near same) r
no_void_front names limit some tokens from at deep other (f ∷ []) here r following more near same =
    let e : f ≡ token.Keyword keyword.Void = cc in
    let b : following ≡ close_parenthesis ∷ more = cc in
    let k : kind_or_end tokens at ≡ close_parenthesis = first_near (kind_or_end tokens at) close_parenthesis following more near b in
    let n = refused_number tokens from at (f ∷ []) here in
    let m : at ≡ from + 1 = omega (arith, n) in
    other (kinds_first (drop from tokens) f (kinds (drop at tokens)) here.spelled ∙ e, sym (ap (kind_or_end tokens) m) ∙ k)
no_void_front names limit some tokens from at deep other (f ∷ g ∷ fs) here r following more near same =
    let e : f ≡ token.Keyword keyword.Void = cc in
    let d : g ≡ close_parenthesis = cc in
    other (void_stands tokens from (fs ++ kinds (drop at tokens)) (here.spelled ∙ ap (λ (x : TokenKind). x ∷ g ∷ (fs ++ kinds (drop at tokens))) e
    ∙ ap (λ (x : TokenKind). token.Keyword keyword.Void ∷ x ∷ (fs ++ kinds (drop at tokens))) d))

-- the parameters were refused
pub lists_stop : (names : Names) (limit inner : ℕ) → limit ≡ 1 + inner → 2 ≤ inner
    → (tokens : List Token) (from : ℕ) → (kind_or_end tokens from ≡ close_parenthesis → ⊥) → (IsVoidAlone tokens from → ⊥)
    → (s : Stop) → Stops (ParameterRows names) inner tokens from s → Stops (ParameterLists names) limit tokens from s
lists_stop names limit inner less some tokens from unclosed other s r =
    stops_pass (ParameterLists names) (ParameterRows names) limit inner tokens from
    (λ front at deep here x.
    single_refused (list_single names) limit inner (less, some) front (kind_or_end tokens at) deep
    (λ following near.
    record {
      unclosed =
          λ more same. unclosed
          (first_near (kind_or_end tokens from) close_parenthesis (front ++ following) more (near_start tokens from at front here following near) same);
      no_void = λ more same. no_void_front names inner some tokens from at deep other front here x following more near same;
    }) x) s r

row_is : (names : Names) (list : List Parameter) → (ParameterRows names).Is list
    → (after : Kinds) → IsRow (with_commas parameter_text list (close_parenthesis ∷ after))
row_is names list is after = record {
  unclosed = λ more same. rows_no_punctuator names list (close_parenthesis ∷ after) punctuator.CloseParenthesis more is.0 is.1.1 same;
  no_void = λ more same.
      let k = (lists_void names 1 (omega arith)).exact (ParameterList list) after more (is.0, is.1.0, is.1.1) same in
      let z = k.0 in cc;
}

lists_exactly : (names : Names) (limit inner : ℕ) → limit ≡ 1 + inner → (list : List Parameter) → Exactly (ParameterRows names) inner list
    → Exactly (ParameterLists names) limit (ParameterList list)
lists_exactly names limit inner less list x = record {
  is_phrase = (x.is_phrase.0, x.is_phrase.1.0, x.is_phrase.1.1);
  low = let l = x.low in omega (arith, l, less);
  exact = λ other after following is same.
      let k = list_invert names other after (with_commas parameter_text list (close_parenthesis ∷ following)) is (row_is names list x.is_phrase following)
      same in
      let e = x.exact k.0 after following k.2 (sym k.3) in
      (k.1 ∙ ap ParameterList e.0, e.1);
}

-- the parameters were taken
pub list_taken : {A : Type 0} (view : A → List Parameter) (names : Names) (limit inner : ℕ) → limit ≡ 1 + inner
    → (tokens : List Token) (from : ℕ) (list : Taken A) → IsExactly (ParameterRows names) view inner tokens from list
    → (whole : Taken RawParameters) → parameters whole.tree ≡ ParameterList (view list.tree) → whole.height ≡ list.height + 1
    → whole.next ≡ list.next → IsExactly (ParameterLists names) parameters limit tokens from whole
list_taken view names limit inner less tokens from list t whole is tall number = record {
  height_is =
      let h = t.height_is in
      let e : whole.height ≡ parameters_height (ParameterList (view list.tree)) = omega (arith, h, tall) in
      e ∙ ap parameters_height (sym is);
  spelled =
      subst (λ (n : ℕ). Spells tokens from n ((ParameterLists names).spell (parameters whole.tree))) (sym number)
      (subst (λ (x : Parameters). Spells tokens from list.next ((ParameterLists names).spell x)) (sym is) t.spelled);
  exactly = subst (λ (x : Parameters). Exactly (ParameterLists names) limit x) (sym is) (lists_exactly names limit inner less (view list.tree) t.exactly);
}

-- the next token is the closing parenthesis, or only `void` comes before it
pub none_taken : (names : Names) (limit : ℕ) → 1 ≤ limit
    → (tokens : List Token) (from : ℕ) (whole : Taken RawParameters) → kind_or_end tokens from ≡ close_parenthesis
    → parameters whole.tree ≡ NoParameter → whole.height ≡ 1 → whole.next ≡ from + 1
    → IsExactly (ParameterLists names) parameters limit tokens from whole
none_taken names limit some tokens from whole k is tall number = record {
  height_is = tall ∙ ap parameters_height (sym is);
  spelled =
      subst (λ (n : ℕ). Spells tokens from n ((ParameterLists names).spell (parameters whole.tree))) (sym number)
      (subst (λ (x : Parameters). Spells tokens from (from + 1) ((ParameterLists names).spell x)) (sym is)
      (spells_one tokens from close_parenthesis k (λ x. cc)));
  exactly = subst (λ (x : Parameters). Exactly (ParameterLists names) limit x) (sym is) (lists_none names limit some);
}

pub void_taken : (names : Names) (limit : ℕ) → 1 ≤ limit → (tokens : List Token) (from : ℕ) (whole : Taken RawParameters) → IsVoidAlone tokens from
    → parameters whole.tree ≡ VoidAlone → whole.height ≡ 1 → whole.next ≡ from + 1 + 1
    → IsExactly (ParameterLists names) parameters limit tokens from whole
void_taken names limit some tokens from whole k is tall number = record {
  height_is = tall ∙ ap parameters_height (sym is);
  spelled =
      subst (λ (n : ℕ). Spells tokens from n ((ParameterLists names).spell (parameters whole.tree))) (sym number)
      (subst (λ (x : Parameters). Spells tokens from (from + 1 + 1) ((ParameterLists names).spell x)) (sym is)
      (spells_more tokens from (from + 1) (from + 1 + 1) (λ rest. token.Keyword keyword.Void ∷ rest) (λ rest. close_parenthesis ∷ rest)
      (spells_one tokens from (token.Keyword keyword.Void) k.0 (λ x. cc)) (spells_one tokens (from + 1) close_parenthesis k.1 (λ x. cc))));
  exactly = subst (λ (x : Parameters). Exactly (ParameterLists names) limit x) (sym is) (lists_void names limit some);
}

-- every parameter has a name
both : (first second : Bool) → (first && second) ≡ true → (first ≡ true) × (second ≡ true)
both true true e = (refl, refl)
both true false e = absurd (false≢true e)
both false second e = absurd (false≢true e)

both_true : (first second : Bool) → first ≡ true → second ≡ true → (first && second) ≡ true
both_true true true e f = refl
both_true true false e f = absurd (false≢true f)
both_true false second e f = absurd (false≢true e)

name_there : (name : Option RawName) → is_some (option_map (λ (n : RawName). n.name) name) ≡ is_some name
name_there None = refl
name_there (Some n) = refl

pub all_named : (list : List RawParameter) → list_all has_name list ≡ true → AreNamed (ParameterList (map parameter list))
all_named [] e = tt
all_named (p ∷ ps) e =
    let b = both (has_name p) (list_all has_name ps) e in
    (name_there p.name ∙ b.0, all_named ps b.1)

pub named_all : (list : List RawParameter) → AreNamed (ParameterList (map parameter list)) → list_all has_name list ≡ true
named_all [] are = refl
named_all (p ∷ ps) are = both_true (has_name p) (list_all has_name ps) (sym (name_there p.name) ∙ are.0) (named_all ps are.1)

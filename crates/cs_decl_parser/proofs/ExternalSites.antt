-- Each return of the parts that parse external declarations, over indices of tokens.
use Rattle.std.proofs.Common.{◌≡◌, ℕ, Err, ◌+◌, ◌<◌, ◌≤◌, max, inl, inr, Bool, false, IsTrue, List, [], ◌∷◌, ◌++◌, map, None}
use Rattle.std.proofs.Common.{length, drop, refl, sym, ap, ◌∙◌, subst, arith, append_assoc, Vec, Global}
use Rattle.std.proofs.lemmas.Bool.{false≢true, cases_lt}
use Rattle.std.proofs.lemmas.List.{append_cancel_right}
use Rattle.cs_ast.specs.declared.token.Token.{Token}
use Rattle.cs_ast.specs.declared.token.TokenKind.{TokenKind}
use Rattle.cs_ast.specs.declared.token.TokenKind.TheVariants as token
use Rattle.cs_ast.specs.declared.token.Keyword.TheVariants as keyword
use Rattle.cs_ast.specs.declared.token.Punctuator.TheVariants as punctuator
use Rattle.cs_ast.specs.declared.raw.declaration.RawDeclarator.{RawDeclarator}
use Rattle.cs_ast.specs.declared.raw.declaration.RawInit.{RawInit}
use Rattle.cs_ast.specs.declared.raw.declaration.RawParameters.{RawParameters}
use Rattle.cs_ast.specs.declared.raw.declaration.RawSpecs.{RawSpecs}
use Rattle.cs_ast.specs.declared.raw.statement.RawItem.{RawItem}
use Rattle.cs_ast.specs.declared.raw.written_type.PointerWord.{PointerWord}
use Rattle.cs_ast.specs.declared.raw.written_type.PointerWord.TheVariants as pointer
use Rattle.cs_ast.specs.declared.raw.declaration.RawFunction.{RawFunction}
use Rattle.cs_ast.specs.declared.raw.external.RawExternal.{RawExternal}
use Rattle.cs_ast.specs.declared.raw.external.RawExternalKind.{RawExternalKind}
use Rattle.cs_ast.specs.RawDeclarations.{Specs, Declarator, Declared, Head}
use Rattle.cs_ast.specs.RawDeclarationView.{specs, declarator, declared, parameters, head as head_view}
use Rattle.cs_ast.specs.RawStatements.{Items, External, Typedef}
use Rattle.cs_ast.specs.RawStatementView.{external_of, external}
use Rattle.cs_ast.specs.RawFileHeight.{head_height, external_height}
use Rattle.cs_grammar.specs.TypeWords.{Names, is_pointer}
use Rattle.cs_grammar.specs.Text.{Kinds, pointers_text}
use Rattle.cs_grammar.specs.FileText.{declarator_text, declared_text, with_commas, specs_text, head_text, items_text, external_text}
use Rattle.cs_grammar.specs.FilePhrases.{AreAll, IsSomeList, IsFree, AreNamed, IsDeclarator}
use Rattle.cs_grammar.specs.FileClasses.{BlockRows}
use Rattle.cs_grammar.specs.FileParts.{ExternalRest, no_name, objects, function, definition, rest_text, ExternalRests, external_from, FunctionEnds}
use Rattle.cs_grammar.specs.DeclarationClasses.{Objects, FileSpecs, ObjectDeclarators, ParameterLists, Heads, Externals}
use Rattle.cs_grammar.specs.Parsing.{Class, Near, Took, Refused, Exactly}
use Rattle.cs_grammar.specs.Composed.{Sequence, Separated, Following}
use Rattle.cs_grammar.proofs.Texts.{pointers_append}
use Rattle.cs_grammar.proofs.Holes.{splits, tail_refused, exact_took}
use Rattle.cs_grammar.proofs.Tails.{first_or}
use Rattle.cs_grammar.proofs.Sequences.{sequence_law, sequence_least, first_refused, second_wrong, after_tail, then_refused, then_took, took_exact}
use Rattle.cs_grammar.proofs.Pairs.{Single, single_refused, single_took}
use Rattle.cs_grammar.proofs.Statements.{open_parenthesis, open_brace, close_brace, semicolon}
use Rattle.cs_grammar.proofs.BlockItems.{Starts, with_star, with_name, pointers_start, objects_start}
use Rattle.cs_grammar.proofs.DeclaredObjects.{object_row}
use Rattle.cs_grammar.proofs.Bodies.{file_specs_law}
use Rattle.cs_grammar.proofs.HeadRules.{head_of, head_single, heads_law, parameter_lists_law, parameter_lists_least}
use Rattle.cs_grammar.proofs.FileRules.{external_spelled, external_joins, rests_law, rests_least, typedef_pair, rest_no_name, heads_refused, end_wrong}
use Rattle.cs_grammar.proofs.DeclarationSites.{TypedParts, file_type_refused, file_rest_refused, file_part_took, function_refused, function_took, body_refused}
use Rattle.cs_grammar.proofs.DeclarationSites.{definition_took, external_exact}
use Rattle.cs_grammar.proofs.ExternalSites.{external_refused, external_took, NoFunction, no_function_pointers, no_function_name, objects_refused, objects_took}
use Rattle.cs_expr_parser.specs.Positions.{kinds, kind_or_end}
use Rattle.cs_expr_parser.specs.Parts.{Spells, is_deep}
use Rattle.cs_declarator_parser.specs.declared.source.Scope.TheVariants as scope
use Rattle.cs_expr_parser.specs.declared.stop.Stop.{Stop}
use Rattle.cs_expr_parser.specs.declared.stop.Stop.TheVariants as stop
use Rattle.cs_declarator_parser.specs.declared.stop.Taken.{Taken}
use Rattle.cs_declarator_parser.specs.declared.declarator.Declares.TheVariants as declaring
use Rattle.cs_declarator_parser.specs.declared.declarator.Pointed.{Pointed}
use Rattle.cs_declarator_parser.specs.Answers.{Stops, IsExactly, IsTaken, StopsOrBrace}
use Rattle.cs_decl_parser.specs.Blocks.{items_of, AreTaken}
use Rattle.cs_decl_parser.specs.FileAnswers.{IsTypeTaken}
use Rattle.cs_declarator_parser.specs.DeclarationAnswers.{DeclaratorsFor, ArePointers, IsPointed, PointedAnswers}
use Rattle.cs_declarator_parser.proofs.RowSites.{row_first_stops}
use Rattle.cs_declarator_parser.proofs.DeclaratorSites.{pointed_stops}
use Rattle.cs_declarator_parser.proofs.ObjectSites.{object_stops}
use Rattle.cs_expr_parser.proofs.Standing.{kinds_first, spells_none, spells_one, spells_more, spells_as}
use Rattle.cs_expr_parser.proofs.Stopping.{refused_number}
use Rattle.cs_declarator_parser.proofs.PartStops.{StandingExactly, IsPlainStop, stops_in, stops_pass, stops_plain, front_of, first_front, single_stops}
use Rattle.cs_declarator_parser.proofs.PartStops.{no_fits}

type_lift : (names : Names) (tokens : List Token) (from : ℕ) → (kind_or_end tokens from ≡ token.Keyword keyword.Typedef → ⊥)
    → (front : Kinds) (at : ℕ) (deep : Bool) → Spells tokens from at (λ rest. front ++ rest)
    → Refused (TypedParts names) 199 front (kind_or_end tokens at) deep → Refused (Externals names) 200 front (kind_or_end tokens at) deep
type_lift names tokens from other front at deep here x =
    external_refused names 200 199 refl (omega arith) front (kind_or_end tokens at) deep (λ k. other (sym (first_front tokens from at front here) ∙ k)) x

no_tokens : (tokens : Kinds) → Starts tokens → tokens ≡ [] → ⊥
no_tokens tokens (with_star more e) none = let z = sym e ∙ none in cc
no_tokens tokens (with_name name more e) none = let z = sym e ∙ none in cc

rest_some : (names : Names) (rest : ExternalRest) (after : Kinds) → (ExternalRests names).Is rest → rest_text rest after ≡ [] → ⊥
rest_some names no_name after is same = cc
rest_some names (objects list) after is same =
    no_tokens (with_commas declared_text list (semicolon ∷ after)) (objects_start names list (semicolon ∷ after) is.0 is.1) same
rest_some names (function head) after is same = no_tokens (head_text head (semicolon ∷ after)) (pointers_start head.pointers head.name _ is.pointers) same
rest_some names (definition head body) after is same = let h = is.0 in
    no_tokens (head_text head (open_brace ∷ items_text body (close_brace ∷ after))) (pointers_start head.pointers head.name _ h.pointers) same

rest_no_brace : (names : Names) (type : Specs) (rest : ExternalRest) (after more : Kinds) → (FileSpecs names).Is type → (ExternalRests names).Is rest
    → rest_text rest after ≡ open_brace ∷ more → ⊥
rest_no_brace names type rest after more t is same = false≢true (subst ((FileSpecs names).Shut type) same (external_joins names type rest after t is tt))

brace_refused : (names : Names) (phrase : Specs) (next : TokenKind) (deep : Bool) → next ≡ open_brace → Took (FileSpecs names) 199 phrase open_brace deep
    → Refused (TypedParts names) 199 (specs_text phrase []) next deep
brace_refused names phrase next deep brace t =
    second_wrong (FileSpecs names) (ExternalRests names) 199 (file_specs_law names) (external_joins names) (rests_least names) (omega arith) phrase next deep
    (subst (λ (x : TokenKind). Took (FileSpecs names) 199 phrase x deep) (sym brace) t)
    (λ d after is same. rest_some names d after is same)
    (λ d after more is same. rest_no_brace names phrase d after more t.is_phrase is (same ∙ ap (λ (x : TokenKind). x ∷ more) brace))

parts_stop : (names : Names) (tokens : List Token) (from : ℕ) → (kind_or_end tokens from ≡ token.Keyword keyword.Typedef → ⊥)
    → (s : Stop) → Stops (TypedParts names) 199 tokens from s → Stops (Externals names) 200 tokens from s
parts_stop names tokens from other s r = stops_pass (Externals names) (TypedParts names) 200 199 tokens from (type_lift names tokens from other) s r

specs_stop : (names : Names) (tokens : List Token) (from : ℕ) (s : Stop) → Stops (FileSpecs names) 199 tokens from s
    → Stops (TypedParts names) 199 tokens from s
specs_stop names tokens from s r =
    stops_pass (TypedParts names) (FileSpecs names) 199 199 tokens from
    (λ front at deep here x. file_type_refused names 199 front (kind_or_end tokens at) deep x) s r

type_stop : (names : Names) (tokens : List Token) (from : ℕ) (s : Stop) → StopsOrBrace (FileSpecs names) 199 tokens from s
    → Stops (TypedParts names) 199 tokens from s
type_stop names tokens from stop.Memory r = tt
type_stop names tokens from (stop.Refused at reason) r =
    elim r [
      | inl x ↦ specs_stop names tokens from (stop.Refused at reason) x
      | inr b ↦ record {
        front = specs_text b.phrase [];
        spelled = front_of (FileSpecs names) (file_specs_law names) tokens from at b.phrase b.spelled;
        refused = brace_refused names b.phrase (kind_or_end tokens at) (is_deep reason) b.brace b.took;
      }
    ]

-- the specifiers were refused
pub declared_type_stops : (names : Names) (tokens : List Token) (from : ℕ) → (kind_or_end tokens from ≡ token.Keyword keyword.Typedef → ⊥)
    → (s : Stop) → StopsOrBrace (FileSpecs names) 199 tokens from s → Stops (Externals names) 200 tokens from s
declared_type_stops names tokens from other s r = parts_stop names tokens from other s (type_stop names tokens from s r)

-- what follows the specifiers was refused
pub rest_stops : (names : Names) (tokens : List Token) (from : ℕ) (type : Taken RawSpecs) → IsTypeTaken names tokens from type
    → (s : Stop) → Stops (ExternalRests names) 199 tokens type.next s → Stops (Externals names) 200 tokens from s
rest_stops names tokens from type t s r =
    let k = t.taken in
    parts_stop names tokens from t.no_typedef s
    (stops_in (TypedParts names) (ExternalRests names) 199 199 tokens from type.next (specs_text (specs type.tree) [])
    (front_of (FileSpecs names) (file_specs_law names) tokens from type.next (specs type.tree) k.spelled)
    (λ front at deep here x.
    file_rest_refused names 199 (specs type.tree) (kind_or_end tokens type.next) k.took front (kind_or_end tokens at) deep
    (first_front tokens type.next at front here) x) s r)

first_any : (front : Kinds) (a b : TokenKind) → (front ≡ [] → ⊥) → first_or front a ≡ first_or front b
first_any [] a b some = absurd (some refl)
first_any (f ∷ fs) a b some = refl

pub rest_front : (names : Names) (tokens : List Token) (from next : ℕ) (rest : ExternalRest) (some : TokenKind) → (ExternalRests names).Is rest
    → Spells tokens from next (rest_text rest) → first_or (rest_text rest []) some ≡ kind_or_end tokens from
rest_front names tokens from next rest some is sp =
    first_any (rest_text rest []) some (kind_or_end tokens next) (λ none. rest_some names rest [] is none)
    ∙ first_front tokens from next (rest_text rest []) (front_of (ExternalRests names) (rests_law names) tokens from next rest sp)

-- an external declaration was taken
pub external_is : (names : Names) (tokens : List Token) (from : ℕ) (type : Taken RawSpecs) (rest : ExternalRest) (next tall : ℕ)
    (whole : Taken RawExternalKind) → IsTypeTaken names tokens from type → StandingExactly (ExternalRests names) 199 tokens type.next next rest
    → external_of whole.tree ≡ external_from (specs type.tree) rest → whole.height ≡ tall
    → tall ≡ external_height (external_from (specs type.tree) rest) → whole.next ≡ next
    → IsExactly (Externals names) external_of 200 tokens from whole
external_is names tokens from type rest next tall whole t r tree height h later =
    let k = t.taken in
    let x = r.exactly in
    let e = external_from (specs type.tree) rest in
    let took : (some : TokenKind) → Took (Externals names) 200 e some false =
    λ some. external_took names 200 199 refl (omega arith) (specs type.tree, rest) some false
    (file_part_took names 199 (specs type.tree) (kind_or_end tokens type.next) k.took rest some
    (rest_front names tokens type.next next rest some x.is_phrase r.spelled) (exact_took (ExternalRests names) 199 rest x some)) in
    record {
      height_is = height ∙ h ∙ ap external_height (sym tree);
      spelled =
          subst (λ (m : ℕ). Spells tokens from m (external_text (external_of whole.tree))) (sym later)
          (subst (λ (y : External). Spells tokens from next (external_text y)) (sym tree)
          (spells_as tokens from next (λ after. specs_text (specs type.tree) (rest_text rest after)) (external_text e)
          (spells_more tokens from type.next next (specs_text (specs type.tree)) (rest_text rest) k.spelled r.spelled)
          (λ after. sym (external_spelled (specs type.tree) rest after))));
      exactly = subst (λ (y : External). Exactly (Externals names) 200 y) (sym tree) (external_exact names 200 e took);
    }

-- a list is cut at a position inside the first of two
cut_before : (P Q F K : Kinds) → P ++ Q ≡ F ++ K → length F < length P
    → (x : TokenKind) × (xs : Kinds) × (P ≡ F ++ (x ∷ xs)) × (K ≡ x ∷ (xs ++ Q))
cut_before [] Q F K same less = absurd (omega (arith, less))
cut_before (p ∷ ps) Q [] K same less = (p, ps, refl, sym same)
cut_before (p ∷ ps) Q (f ∷ fs) K same less =
    let k : p ≡ f = cc in
    let r : ps ++ Q ≡ fs ++ K = cc in
    let c = cut_before ps Q fs K r (omega (arith, less)) in
    (c.0, c.1, ap (λ (y : Kinds). p ∷ y) c.2 ∙ ap (λ (y : TokenKind). y ∷ (fs ++ (c.0 ∷ c.1))) k, c.3)

cut_after : (P Q F K : Kinds) → P ++ Q ≡ F ++ K → length P ≤ length F → (fs : Kinds) × (F ≡ P ++ fs) × (Q ≡ fs ++ K)
cut_after [] Q F K same more = (F, refl, same)
cut_after (p ∷ ps) Q [] K same more = absurd (omega (arith, more))
cut_after (p ∷ ps) Q (f ∷ fs) K same more =
    let k : p ≡ f = cc in
    let r : ps ++ Q ≡ fs ++ K = cc in
    let c = cut_after ps Q fs K r (omega (arith, more)) in
    (c.0, ap (λ (y : TokenKind). y ∷ fs) (sym k) ∙ ap (λ (y : Kinds). p ∷ y) c.1, c.2)

abbrev plain_object : List PointerWord → List ℕ → Declared
plain_object ps n = record { declarator = record { pointers = ps; name = n; bounds = [] }; initial = None }

-- objects aren't refused before the end of the name
early : (names : Names) (limit : ℕ) (ps : List PointerWord) (n : List ℕ) (front xs : Kinds) (x : TokenKind) (deep : Bool) → 1 ≤ limit
    → IsTrue (is_pointer ps) → IsFree names n → pointers_text ps (token.Name n ∷ []) ≡ front ++ (x ∷ xs)
    → Refused (Separated (Objects names) semicolon) limit front x deep → ⊥
early names limit ps n front xs x deep some p free same r =
    let text : pointers_text ps (token.Name n ∷ semicolon ∷ []) ≡ front ++ (x ∷ (xs ++ semicolon ∷ [])) =
    sym (pointers_append ps (token.Name n ∷ []) (semicolon ∷ [])) ∙ ap (λ (y : Kinds). y ++ semicolon ∷ []) same
    ∙ append_assoc front (x ∷ xs) (semicolon ∷ []) in
    let v = r.never (plain_object ps n ∷ []) [] (x ∷ (xs ++ semicolon ∷ [])) (
      tt,
      (record { declarator = record { pointers = p; named = free; bounds = tt }; initial = tt }, tt),
    ) tt (inr (xs ++ semicolon ∷ [], refl)) text in
    let h = v.high in
    omega (arith, h, some)

named_length : (tokens : List Token) (from next : ℕ) (ps : List PointerWord) (n : List ℕ)
    → Spells tokens from next (λ rest. pointers_text ps (token.Name n ∷ rest))
    → Spells tokens from next (λ rest. pointers_text ps (token.Name n ∷ []) ++ rest)
named_length tokens from next ps n sp =
    spells_as tokens from next (λ rest. pointers_text ps (token.Name n ∷ rest)) (λ rest. pointers_text ps (token.Name n ∷ []) ++ rest) sp
    (λ rest. sym (pointers_append ps (token.Name n ∷ []) rest))

-- after a name without a parenthesis there is no function
named_no_function : (names : Names) (tokens : List Token) (from : ℕ) (pointed : Taken Pointed) → IsPointed declaring.Names names tokens from pointed
    → (kind_or_end tokens pointed.next ≡ open_parenthesis → ⊥)
    → (front : Kinds) (at : ℕ) (deep : Bool) → Spells tokens from at (λ rest. front ++ rest)
    → Refused (Separated (Objects names) semicolon) 199 front (kind_or_end tokens at) deep → NoFunction names front (kind_or_end tokens at)
named_no_function names tokens from pointed p other front at deep here r =
    let ps = pointed.tree.pointers.items in
    let n = pointed.tree.name.name in
    let l = named_length tokens from pointed.next ps n p.spelled in
    let P = pointers_text ps (token.Name n ∷ []) in
    let same : P ++ kinds (drop pointed.next tokens) ≡ front ++ kinds (drop at tokens) = sym l.spelled ∙ here.spelled in
    elim (cases_lt (length front) (length P)) [
      | inl less ↦
          let c = cut_before P (kinds (drop pointed.next tokens)) front (kinds (drop at tokens)) same less in
          let k : kind_or_end tokens at ≡ c.0 = kinds_first (drop at tokens) c.0 (c.1 ++ kinds (drop pointed.next tokens)) c.3 in
          absurd (early names 199 ps n front c.1 c.0 deep (omega arith) p.pointers p.named c.2
          (subst (λ (x : TokenKind). Refused (Separated (Objects names) semicolon) 199 front x deep) k r))
      | inr more ↦
          let c = cut_after P (kinds (drop pointed.next tokens)) front (kinds (drop at tokens)) same more in
          let m = refused_number tokens from at front here in
          let m' = refused_number tokens from pointed.next P l in
          let sp : Spells tokens pointed.next at (λ rest. c.0 ++ rest) = record { onward = omega (arith, m, m', more); within = here.within; spelled = c.2 } in
          let e : front ≡ pointers_text ps (token.Name n ∷ c.0) = c.1 ∙ pointers_append ps (token.Name n ∷ []) c.0 in
          subst (λ (y : Kinds). NoFunction names y (kind_or_end tokens at)) (sym e)
          (no_function_name names ps n c.0 (kind_or_end tokens at) (λ k. other (sym (first_front tokens pointed.next at c.0 sp) ∙ k)))
    ]

-- the next tokens are those of objects, which were refused
pub objects_stop : (names : Names) (tokens : List Token) (from : ℕ) (pointed : Taken Pointed) → IsPointed declaring.Names names tokens from pointed
    → (kind_or_end tokens from ≡ semicolon → ⊥) → (kind_or_end tokens pointed.next ≡ open_parenthesis → ⊥)
    → (s : Stop) → Stops (Separated (Objects names) semicolon) 199 tokens from s → Stops (ExternalRests names) 199 tokens from s
objects_stop names tokens from pointed p named other s r =
    stops_pass (ExternalRests names) (Separated (Objects names) semicolon) 199 199 tokens from
    (λ front at deep here x.
    objects_refused names 199 (omega arith) front (kind_or_end tokens at) deep (λ k. named (sym (first_front tokens from at front here) ∙ k))
    (named_no_function names tokens from pointed p other front at deep here x) x) s r

-- they were taken
pub objects_exactly : (names : Names) (tokens : List Token) (from next : ℕ) (list : List Declared)
    → StandingExactly (Separated (Objects names) semicolon) 199 tokens from next list
    → StandingExactly (ExternalRests names) 199 tokens from next (objects list)
objects_exactly names tokens from next list t = record {
  spelled = t.spelled;
  exactly = took_exact (ExternalRests names) 199 (objects list)
      (λ some. objects_took names 199 (omega arith) list some false (exact_took (Separated (Objects names) semicolon) 199 list t.exactly some))
      (λ other after. tt) semicolon;
}

none_function : (names : Names) (next : TokenKind) → (next ≡ token.Punctuator punctuator.Star → ⊥)
    → ((n : List ℕ) → next ≡ token.Name n → IsFree names n → ⊥) → (following : Kinds) → Near next following
    → (ps : List PointerWord) (n : List ℕ) (more : Kinds) → IsTrue (is_pointer ps) → IsFree names n
    → following ≡ pointers_text ps (token.Name n ∷ open_parenthesis ∷ more) → ⊥
none_function names next no_star unnamed following near [] n more p free same =
    elim near [
      | inl e ↦ let z = sym same ∙ e in cc
      | inr m ↦ let z : token.Name n ∷ open_parenthesis ∷ more ≡ next ∷ m.0 = sym same ∙ m.1 in let k : next ≡ token.Name n = cc in
          unnamed n k free
    ]
none_function names next no_star unnamed following near (pointer.Star ∷ ps) n more p free same =
    elim near [
      | inl e ↦ let z = sym same ∙ e in cc
      | inr m ↦ let z : token.Punctuator punctuator.Star ∷ pointers_text ps (token.Name n ∷ open_parenthesis ∷ more) ≡ next ∷ m.0 = sym same
          ∙ m.1 in no_star cc
    ]
none_function names next no_star unnamed following near (pointer.Const ∷ ps) n more p free same = false≢true p

missing_function : (names : Names) (tokens : List Token) (from at : ℕ) (words : List PointerWord) → ArePointers tokens from at words
    → ((n : List ℕ) → kind_or_end tokens at ≡ token.Name n → IsFree names n → ⊥)
    → NoFunction names (pointers_text words []) (kind_or_end tokens at)
missing_function names tokens from at [] p unnamed following near ps n more q free same =
    none_function names (kind_or_end tokens at) p.no_star unnamed following near ps n more q free same
missing_function names tokens from at (w ∷ ws) p unnamed following near ps n more q free same =
    no_function_pointers names (w ∷ ws) (kind_or_end tokens at) p.no_star (λ k. let z = p.no_const k in cc) unnamed following near ps n more q free same

-- no name follows the specifiers
pub name_stops : (names : Names) (tokens : List Token) (from : ℕ) → (kind_or_end tokens from ≡ semicolon → ⊥)
    → (s : Stop) → PointedAnswers declaring.Names names tokens from (Err s) → Stops (Separated (Objects names) semicolon) 199 tokens from s
    → Stops (ExternalRests names) 199 tokens from s
name_stops names tokens from named stop.Memory m r = tt
name_stops names tokens from named (stop.Refused at reason) m r =
    let ps = m.pointers in
    let here : Spells tokens from at (λ rest. pointers_text m.words [] ++ rest) =
    spells_as tokens from at (pointers_text m.words) (λ rest. pointers_text m.words [] ++ rest) ps.spelled
    (λ rest. sym (pointers_append m.words [] rest)) in
    let e : r.front ≡ pointers_text m.words [] =
    append_cancel_right r.front (pointers_text m.words []) (kinds (drop at tokens)) (sym r.spelled.spelled ∙ here.spelled) in
    record {
      front = r.front;
      spelled = r.spelled;
      refused =
          objects_refused names 199 (omega arith) r.front (kind_or_end tokens at) (is_deep reason)
          (λ k. named (sym (first_front tokens from at r.front r.spelled) ∙ k))
          (subst (λ (y : Kinds). NoFunction names y (kind_or_end tokens at)) (sym e) (missing_function names tokens from at m.words ps m.no_name)) r.refused;
    }

-- a semicolon follows the specifiers
pub alone_exactly : (names : Names) (tokens : List Token) (from : ℕ) → kind_or_end tokens from ≡ semicolon
    → StandingExactly (ExternalRests names) 199 tokens from (from + 1) no_name
alone_exactly names tokens from k = record { spelled = spells_one tokens from semicolon k (λ x. cc); exactly = rest_no_name names 199 }

-- what is between the parentheses of a function was refused
pub parameters_stop : (names : Names) (tokens : List Token) (from : ℕ) (pointed : Taken Pointed) → IsPointed declaring.Names names tokens from pointed
    → kind_or_end tokens pointed.next ≡ open_parenthesis → (s : Stop) → Stops (ParameterLists names) 198 tokens (pointed.next + 1) s
    → Stops (ExternalRests names) 199 tokens from s
parameters_stop names tokens from pointed p k s r =
    let ps = pointed.tree.pointers.items in
    let n = pointed.tree.name.name in
    stops_in (ExternalRests names) (ParameterLists names) 199 198 tokens from (pointed.next + 1) (pointers_text ps (token.Name n ∷ open_parenthesis ∷ []))
    (spells_as tokens from (pointed.next + 1) (λ rest. pointers_text ps (token.Name n ∷ open_parenthesis ∷ rest))
    (λ rest. pointers_text ps (token.Name n ∷ open_parenthesis ∷ []) ++ rest)
    (spells_more tokens from pointed.next (pointed.next + 1) (λ rest. pointers_text ps (token.Name n ∷ rest)) (λ rest. open_parenthesis ∷ rest) p.spelled
    (spells_one tokens pointed.next open_parenthesis k (λ x. cc)))
    (λ rest. sym (pointers_append ps (token.Name n ∷ open_parenthesis ∷ []) rest)))
    (λ front at deep here x.
    let y = tail_refused (Following open_parenthesis (ParameterLists names)) (ParameterLists names) 198 198 (open_parenthesis ∷ []) (λ d. d)
    (λ rest. Unit {0}) (parameter_lists_law names) (after_tail open_parenthesis (ParameterLists names) 198 (parameter_lists_least names) (omega arith))
    front (kind_or_end tokens at) deep (λ following near. tt) x in
    let h = single_refused (head_single names ps n p.pointers p.named) 199 198 (refl, omega arith) (open_parenthesis ∷ front) (kind_or_end tokens at) deep
    (λ following near. tt) y in
    let h' = subst (λ (z : Kinds). Refused (Heads names) 199 z (kind_or_end tokens at) deep)
    (pointers_append ps (token.Name n ∷ []) (open_parenthesis ∷ front)) h in
    subst (λ (z : Kinds). Refused (ExternalRests names) 199 z (kind_or_end tokens at) deep)
    (sym (pointers_append ps (token.Name n ∷ open_parenthesis ∷ []) front))
    (heads_refused names 199 ps n front (kind_or_end tokens at) deep p.pointers h')) s r

-- the head of a function was taken
pub head_exactly : (names : Names) (tokens : List Token) (from : ℕ) (pointed : Taken Pointed) (list : Taken RawParameters)
    → IsPointed declaring.Names names tokens from pointed → kind_or_end tokens pointed.next ≡ open_parenthesis
    → IsExactly (ParameterLists names) parameters 198 tokens (pointed.next + 1) list
    → StandingExactly (Heads names) 199 tokens from list.next (head_of pointed.tree.pointers.items pointed.tree.name.name (parameters list.tree))
head_exactly names tokens from pointed list p k t =
    let ps = pointed.tree.pointers.items in
    let n = pointed.tree.name.name in
    let x = t.exactly in
    let b : Exactly (Following open_parenthesis (ParameterLists names)) 198 (parameters list.tree) =
    record { is_phrase = x.is_phrase; low = x.low; exact = λ other after following is same. x.exact other after following is cc } in
    record {
      spelled =
          spells_more tokens from pointed.next list.next (λ rest. pointers_text ps (token.Name n ∷ rest))
          (λ rest. open_parenthesis ∷ (ParameterLists names).spell (parameters list.tree) rest) p.spelled
          (spells_more tokens pointed.next (pointed.next + 1) list.next (λ rest. open_parenthesis ∷ rest)
          ((ParameterLists names).spell (parameters list.tree)) (spells_one tokens pointed.next open_parenthesis k (λ x. cc)) t.spelled);
      exactly =
          took_exact (Heads names) 199 (head_of ps n (parameters list.tree))
          (λ some.
          single_took (head_single names ps n p.pointers p.named) 199 198 (refl, omega arith) (parameters list.tree) some false (λ following near. tt)
          (exact_took (Following open_parenthesis (ParameterLists names)) 198 (parameters list.tree) b some))
          (λ other after. tt) semicolon;
    }

ends_stop : (names : Names) (tokens : List Token) (from next : ℕ) (head : Head) → StandingExactly (Heads names) 199 tokens from next head
    → (s : Stop) → Stops (FunctionEnds names head) 199 tokens next s → Stops (ExternalRests names) 199 tokens from s
ends_stop names tokens from next head h s r =
    stops_in (ExternalRests names) (FunctionEnds names head) 199 199 tokens from next (head_text head [])
    (front_of (Heads names) (heads_law names) tokens from next head h.spelled)
    (λ front at deep here x. function_refused names 199 head h.exactly front (kind_or_end tokens at) deep x) s r

-- neither a semicolon nor a block follows the head, or a block follows one whose parameters don't all have a name
pub end_missing : (names : Names) (tokens : List Token) (from next : ℕ) (head : Head) (s : Stop) → StandingExactly (Heads names) 199 tokens from next head
    → (kind_or_end tokens next ≡ semicolon → ⊥) → (kind_or_end tokens next ≡ open_brace → AreNamed head.parameters → ⊥)
    → IsPlainStop scope.File tokens next s → Stops (ExternalRests names) 199 tokens from s
end_missing names tokens from next head s h no_semicolon no_brace is =
    let w = h.spelled in
    ends_stop names tokens from next head h s
    (stops_plain (FunctionEnds names head) 199 tokens next next scope.File [] s (spells_none tokens next w.within) is
    (end_wrong names head 199 (kind_or_end tokens next) no_semicolon no_brace))

-- a function without a body was taken
pub function_exactly : (names : Names) (tokens : List Token) (from next : ℕ) (head : Head) → StandingExactly (Heads names) 199 tokens from next head
    → kind_or_end tokens next ≡ semicolon → StandingExactly (ExternalRests names) 199 tokens from (next + 1) (function head)
function_exactly names tokens from next head h k = record {
  spelled = spells_more tokens from next (next + 1) (head_text head) (λ rest. semicolon ∷ rest) h.spelled (spells_one tokens next semicolon k (λ x. cc));
  exactly = took_exact (ExternalRests names) 199 (function head) (λ some. function_took names 199 head h.exactly some) (λ other after. tt) semicolon;
}

brace_after : (names : Names) (tokens : List Token) (from next : ℕ) (head : Head) → StandingExactly (Heads names) 199 tokens from next head
    → kind_or_end tokens next ≡ open_brace → Spells tokens from (next + 1) (λ rest. head_text head (open_brace ∷ rest))
brace_after names tokens from next head h k =
    spells_more tokens from next (next + 1) (head_text head) (λ rest. open_brace ∷ rest) h.spelled (spells_one tokens next open_brace k (λ x. cc))

-- the items of the body were refused
pub body_stops : (names : Names) (tokens : List Token) (from next : ℕ) (head : Head) → AreNamed head.parameters
    → StandingExactly (Heads names) 199 tokens from next head → kind_or_end tokens next ≡ open_brace
    → (s : Stop) → Stops (BlockRows names) 198 tokens (next + 1) s → Stops (ExternalRests names) 199 tokens from s
body_stops names tokens from next head named h k s r =
    stops_in (ExternalRests names) (BlockRows names) 199 198 tokens from (next + 1) (head_text head [] ++ (open_brace ∷ []))
    (spells_as tokens from (next + 1) (λ rest. head_text head (open_brace ∷ rest)) (λ rest. (head_text head [] ++ (open_brace ∷ [])) ++ rest)
    (brace_after names tokens from next head h k)
    (λ rest. splits (Heads names) (heads_law names) head (open_brace ∷ rest) ∙ sym (append_assoc (head_text head []) (open_brace ∷ []) rest)))
    (λ front at deep here x.
    subst (λ (z : Kinds). Refused (ExternalRests names) 199 z (kind_or_end tokens at) deep) (sym (append_assoc (head_text head []) (open_brace ∷ []) front))
    (body_refused names 199 198 refl head named h.exactly front (kind_or_end tokens at) deep x)) s r

-- a function with its body was taken
pub definition_exactly : (names : Names) (tokens : List Token) (from next : ℕ) (head : Head) (body : Taken (Vec RawItem Global)) → AreNamed head.parameters
    → StandingExactly (Heads names) 199 tokens from next head → kind_or_end tokens next ≡ open_brace → AreTaken names 198 tokens (next + 1) body
    → StandingExactly (ExternalRests names) 199 tokens from (body.next + 1) (definition head (items_of body.tree))
definition_exactly names tokens from next head body named h k t = record {
  spelled =
      spells_more tokens from (next + 1) (body.next + 1) (λ rest. head_text head (open_brace ∷ rest))
      (λ rest. items_text (items_of body.tree) (close_brace ∷ rest)) (brace_after names tokens from next head h k)
      (spells_more tokens (next + 1) body.next (body.next + 1) (items_text (items_of body.tree)) (λ rest. close_brace ∷ rest) t.spelled
      (spells_one tokens body.next close_brace t.closing (λ x. cc)));
  exactly =
      took_exact (ExternalRests names) 199 (definition head (items_of body.tree))
      (λ some.
      definition_took names 199 198 refl head named h.exactly (items_of body.tree) some
      (exact_took (BlockRows names) 198 (items_of body.tree) t.exactly some)) (λ other after. tt) semicolon;
}

declarators_some : (names : Names) (list : List Declarator) (after : Kinds) → IsSomeList list → AreAll (IsDeclarator names) list
    → with_commas declarator_text list (semicolon ∷ after) ≡ [] → ⊥
declarators_some names [] after some are same = some
declarators_some names (d ∷ ds) after some are same = let i = are.0 in
    no_tokens (with_commas declarator_text (d ∷ ds) (semicolon ∷ after)) (pointers_start d.pointers d.name _ i.pointers) same

-- `typedef`: specifiers, and the names that it declares
abbrev TypedefNames : Names → Class
TypedefNames names = Separated (ObjectDeclarators names) semicolon

abbrev Aliases : Names → Class
Aliases names = Sequence (FileSpecs names) (TypedefNames names)

abbrev typedef_single : (names : Names)
    → Single (Externals names) (Aliases names) 1 (token.Keyword keyword.Typedef ∷ []) (λ part. Typedef part.0 part.1) (λ rest. Unit {0})
typedef_single names =
    let p = typedef_pair names in
    record {
      production = p.production;
      law = sequence_law (FileSpecs names) (TypedefNames names) p.law_first p.law_second;
      least = sequence_least (FileSpecs names) (TypedefNames names) p.least_first p.least_second;
    }

aliases_stop : (names : Names) (tokens : List Token) (from : ℕ) → kind_or_end tokens from ≡ token.Keyword keyword.Typedef
    → (s : Stop) → Stops (Aliases names) 199 tokens (from + 1) s → Stops (Externals names) 200 tokens from s
aliases_stop names tokens from k s r =
    single_stops (typedef_single names) 200 199 (refl, omega arith) tokens from (from + 1) (spells_one tokens from (token.Keyword keyword.Typedef) k (λ x. cc))
    (no_fits tokens (from + 1)) s r

alias_brace : (names : Names) (phrase : Specs) (next : TokenKind) (deep : Bool) → next ≡ open_brace → Took (FileSpecs names) 199 phrase open_brace deep
    → Refused (Aliases names) 199 (specs_text phrase []) next deep
alias_brace names phrase next deep brace t =
    let p = typedef_pair names in
    second_wrong (FileSpecs names) (TypedefNames names) 199 p.law_first p.joins p.least_second (omega arith) phrase next deep
    (subst (λ (x : TokenKind). Took (FileSpecs names) 199 phrase x deep) (sym brace) t)
    (λ d after is same. declarators_some names d after is.0 is.1 same)
    (λ d after more is same.
    false≢true (subst ((FileSpecs names).Shut phrase) (same ∙ ap (λ (x : TokenKind). x ∷ more) brace) (p.joins phrase d after t.is_phrase is tt)))

alias_type : (names : Names) (tokens : List Token) (from : ℕ) (s : Stop) → Stops (FileSpecs names) 199 tokens from s
    → Stops (Aliases names) 199 tokens from s
alias_type names tokens from s r =
    let p = typedef_pair names in
    stops_pass (Aliases names) (FileSpecs names) 199 199 tokens from
    (λ front at deep here x.
    first_refused (FileSpecs names) (TypedefNames names) 199 p.law_first p.joins p.least_second (omega arith) front (kind_or_end tokens at) deep x) s r

alias_types : (names : Names) (tokens : List Token) (from : ℕ) (s : Stop) → StopsOrBrace (FileSpecs names) 199 tokens from s
    → Stops (Aliases names) 199 tokens from s
alias_types names tokens from stop.Memory r = tt
alias_types names tokens from (stop.Refused at reason) r =
    elim r [
      | inl x ↦ alias_type names tokens from (stop.Refused at reason) x
      | inr b ↦ record {
        front = specs_text b.phrase [];
        spelled = front_of (FileSpecs names) (file_specs_law names) tokens from at b.phrase b.spelled;
        refused = alias_brace names b.phrase (kind_or_end tokens at) (is_deep reason) b.brace b.took;
      }
    ]

-- its specifiers were refused
pub typedef_type_stops : (names : Names) (tokens : List Token) (from : ℕ) → kind_or_end tokens from ≡ token.Keyword keyword.Typedef
    → (s : Stop) → StopsOrBrace (FileSpecs names) 199 tokens (from + 1) s → Stops (Externals names) 200 tokens from s
typedef_type_stops names tokens from k s r = aliases_stop names tokens from k s (alias_types names tokens (from + 1) s r)

-- its names were refused
pub typedef_names_stop : (names : Names) (tokens : List Token) (from : ℕ) (type : Taken RawSpecs)
    → kind_or_end tokens from ≡ token.Keyword keyword.Typedef → IsTaken (FileSpecs names) specs 199 tokens (from + 1) false type
    → (s : Stop) → Stops (TypedefNames names) 199 tokens type.next s → Stops (Externals names) 200 tokens from s
typedef_names_stop names tokens from type k t s r =
    let p = typedef_pair names in
    aliases_stop names tokens from k s
    (stops_in (Aliases names) (TypedefNames names) 199 199 tokens (from + 1) type.next (specs_text (specs type.tree) [])
    (front_of (FileSpecs names) (file_specs_law names) tokens (from + 1) type.next (specs type.tree) t.spelled)
    (λ front at deep here x.
    then_refused (FileSpecs names) (TypedefNames names) 199 p.law_first p.law_second p.joins p.least_second (omega arith) (specs type.tree)
    (kind_or_end tokens type.next) false t.took (λ reported. absurd (false≢true reported)) front (kind_or_end tokens at) deep
    (first_front tokens type.next at front here) x) s r)

typedef_height : (names : Names) (a b : ℕ) (type : Specs) (list : List Declarator) → a ≡ (FileSpecs names).tall type
    → b ≡ (TypedefNames names).tall list → max a b + 1 ≡ external_height (Typedef type list)
typedef_height names a b type list e f = omega (arith, e, f)

-- it was taken
pub typedef_taken : (names : Names) (tokens : List Token) (from : ℕ) (type : Taken RawSpecs) (list : Taken (Vec RawDeclarator Global))
    (whole : Taken RawExternalKind) → kind_or_end tokens from ≡ token.Keyword keyword.Typedef
    → IsTaken (FileSpecs names) specs 199 tokens (from + 1) false type
    → IsExactly (TypedefNames names) (λ (v : Vec RawDeclarator Global). map declarator v.items) 199 tokens type.next list
    → external_of whole.tree ≡ Typedef (specs type.tree) (map declarator list.tree.items) → whole.height ≡ max type.height list.height + 1
    → whole.next ≡ list.next → IsExactly (Externals names) external_of 200 tokens from whole
typedef_taken names tokens from type list whole k t l tree height later =
    let p = typedef_pair names in
    let all = map declarator list.tree.items in
    let x = l.exactly in
    let sp = front_of (TypedefNames names) p.law_second tokens type.next list.next all l.spelled in
    let some : (TypedefNames names).spell all [] ≡ [] → ⊥ = λ none. declarators_some names all [] x.is_phrase.0 x.is_phrase.1 none in
    let starts : (next : TokenKind) → first_or ((TypedefNames names).spell all []) next ≡ kind_or_end tokens type.next = λ next.
    first_any ((TypedefNames names).spell all []) next (kind_or_end tokens list.next) some
    ∙ first_front tokens type.next list.next ((TypedefNames names).spell all []) sp in
    let took : (next : TokenKind) → Took (Externals names) 200 (Typedef (specs type.tree) all) next false =
    λ next. single_took (typedef_single names) 200 199 (refl, omega arith) (specs type.tree, all) next false (λ following near. tt)
    (then_took (FileSpecs names) (TypedefNames names) 199 p.law_first p.law_second p.joins p.least_second (omega arith) (specs type.tree)
    (kind_or_end tokens type.next) false t.took (λ reported. absurd (false≢true reported)) all next false (starts next)
    (exact_took (TypedefNames names) 199 all x next)) in
    record {
      height_is = height ∙ typedef_height names type.height list.height (specs type.tree) all t.height_is l.height_is ∙ ap external_height (sym tree);
      spelled =
          subst (λ (m : ℕ). Spells tokens from m (external_text (external_of whole.tree))) (sym later)
          (subst (λ (y : External). Spells tokens from list.next (external_text y)) (sym tree)
          (spells_more tokens from (from + 1) list.next (λ rest. token.Keyword keyword.Typedef ∷ rest)
          (λ rest. specs_text (specs type.tree) ((TypedefNames names).spell all rest))
          (spells_one tokens from (token.Keyword keyword.Typedef) k (λ x. cc))
          (spells_more tokens (from + 1) type.next list.next (specs_text (specs type.tree)) ((TypedefNames names).spell all) t.spelled l.spelled)));
      exactly = subst (λ (y : External). Exactly (Externals names) 200 y) (sym tree) (external_exact names 200 (Typedef (specs type.tree) all) took);
    }

object_rows_stop : (names : Names) (tokens : List Token) (from : ℕ) (s : Stop) → Stops (Objects names) 199 tokens from s
    → Stops (Separated (Objects names) semicolon) 199 tokens from s
object_rows_stop names tokens from s r = row_first_stops (Objects names) semicolon 199 (object_row names) (omega arith) tokens from s r

-- a name with its pointers doesn't begin with a semicolon
pointed_named : (names : Names) (tokens : List Token) (from : ℕ) (pointed : Taken Pointed) → IsPointed declaring.Names names tokens from pointed
    → kind_or_end tokens from ≡ semicolon → ⊥
pointed_named names tokens from pointed p k =
    let sp = p.spelled in
    elim (pointers_start pointed.tree.pointers.items pointed.tree.name.name (kinds (drop pointed.next tokens)) p.pointers) [
      | with_star more e ↦ let f = kinds_first (drop from tokens) (token.Punctuator punctuator.Star) more (sp.spelled ∙ e) in let z = sym f ∙ k in cc
      | with_name name more e ↦ let f = kinds_first (drop from tokens) (token.Name name) more (sp.spelled ∙ e) in let z = sym f ∙ k in cc
    ]

-- a declared object after the specifiers was refused
pub external_object_stops : (names : Names) (tokens : List Token) (from : ℕ) (type : Taken RawSpecs) (pointed : Taken Pointed)
    → IsTypeTaken names tokens from type → IsPointed declaring.Names names tokens type.next pointed
    → (kind_or_end tokens pointed.next ≡ open_parenthesis → ⊥) → (s : Stop) → Stops (Separated (Objects names) semicolon) 199 tokens type.next s
    → Stops (Externals names) 200 tokens from s
external_object_stops names tokens from type pointed t p other s r =
    rest_stops names tokens from type t s (objects_stop names tokens type.next pointed p (pointed_named names tokens type.next pointed p) other s r)

-- its declarator was refused
pub external_declarator_stops : (names : Names) (tokens : List Token) (from : ℕ) (type : Taken RawSpecs) (pointed : Taken Pointed)
    → IsTypeTaken names tokens from type → IsPointed declaring.Names names tokens type.next pointed
    → (kind_or_end tokens pointed.next ≡ open_parenthesis → ⊥) → (s : Stop) → Stops (DeclaratorsFor declaring.Names names) 199 tokens type.next s
    → Stops (Externals names) 200 tokens from s
external_declarator_stops names tokens from type pointed t p other s r =
    external_object_stops names tokens from type pointed t p other s (object_rows_stop names tokens type.next s (object_stops names 199 tokens type.next s r))

-- its value was refused
pub external_value_stops : (names : Names) (tokens : List Token) (from : ℕ) (type : Taken RawSpecs) (pointed : Taken Pointed)
    → IsTypeTaken names tokens from type → IsPointed declaring.Names names tokens type.next pointed
    → (kind_or_end tokens pointed.next ≡ open_parenthesis → ⊥) → (s : Stop) → Stops (Objects names) 199 tokens type.next s
    → Stops (Externals names) 200 tokens from s
external_value_stops names tokens from type pointed t p other s r =
    external_object_stops names tokens from type pointed t p other s (object_rows_stop names tokens type.next s r)

objects_height : (names : Names) (a b : ℕ) (type : Specs) (list : List Declared) → a ≡ (FileSpecs names).tall type
    → b ≡ (Separated (Objects names) semicolon).tall list → max a b + 1 ≡ external_height (external_from type (objects list))
objects_height names a b type list e f = omega (arith, e, f)

-- objects were taken
pub external_objects_taken : (names : Names) (tokens : List Token) (from : ℕ) (type : Taken RawSpecs) (list : Taken (Vec RawInit Global))
    (whole : Taken RawExternalKind) → IsTypeTaken names tokens from type
    → IsExactly (Separated (Objects names) semicolon) (λ (v : Vec RawInit Global). map declared v.items) 199 tokens type.next list
    → external_of whole.tree ≡ external_from (specs type.tree) (objects (map declared list.tree.items)) → whole.height ≡ max type.height list.height + 1
    → whole.next ≡ list.next → IsExactly (Externals names) external_of 200 tokens from whole
external_objects_taken names tokens from type list whole t l tree height later =
    let k = t.taken in
    let all = map declared list.tree.items in
    external_is names tokens from type (objects all) list.next (max type.height list.height + 1) whole t
    (objects_exactly names tokens type.next list.next all (record { spelled = l.spelled; exactly = l.exactly })) tree height
    (objects_height names type.height list.height (specs type.tree) all k.height_is l.height_is) later

-- no name follows the specifiers
pub external_name_stops : (names : Names) (tokens : List Token) (from : ℕ) (type : Taken RawSpecs) → IsTypeTaken names tokens from type
    → (kind_or_end tokens type.next ≡ semicolon → ⊥) → (s : Stop) → PointedAnswers declaring.Names names tokens type.next (Err s)
    → Stops (Externals names) 200 tokens from s
external_name_stops names tokens from type t named s m =
    rest_stops names tokens from type t s
    (name_stops names tokens type.next named s m
    (object_rows_stop names tokens type.next s
    (object_stops names 199 tokens type.next s (pointed_stops declaring.Names names 199 (omega arith) tokens type.next s m))))

alone_height : (names : Names) (a : ℕ) (type : Specs) → a ≡ (FileSpecs names).tall type → a + 1 ≡ external_height (external_from type no_name)
alone_height names a type e = omega (arith, e)

-- specifiers without a declarator were taken
pub external_alone_taken : (names : Names) (tokens : List Token) (from : ℕ) (type : Taken RawSpecs) (whole : Taken RawExternalKind)
    → IsTypeTaken names tokens from type → kind_or_end tokens type.next ≡ semicolon → external_of whole.tree ≡ external_from (specs type.tree) no_name
    → whole.height ≡ type.height + 1 → whole.next ≡ type.next + 1 → IsExactly (Externals names) external_of 200 tokens from whole
external_alone_taken names tokens from type whole t k tree height later =
    let y = t.taken in
    external_is names tokens from type no_name (type.next + 1) (type.height + 1) whole t (alone_exactly names tokens type.next k) tree height
    (alone_height names type.height (specs type.tree) y.height_is) later

-- the parameters of a function were refused
pub external_parameters_stop : (names : Names) (tokens : List Token) (from : ℕ) (type : Taken RawSpecs) (pointed : Taken Pointed)
    → IsTypeTaken names tokens from type → IsPointed declaring.Names names tokens type.next pointed → kind_or_end tokens pointed.next ≡ open_parenthesis
    → (s : Stop) → Stops (ParameterLists names) 198 tokens (pointed.next + 1) s → Stops (Externals names) 200 tokens from s
external_parameters_stop names tokens from type pointed t p k s r =
    rest_stops names tokens from type t s (parameters_stop names tokens type.next pointed p k s r)

-- the head of a function, as it was built
pub record HeadMade (names : Names) (tokens : List Token) (from : ℕ) (head : Taken RawFunction) : Type 0 where
  pub height_is : head.height ≡ head_height (head_view head.tree)
  pub stands : StandingExactly (Heads names) 199 tokens from head.next (head_view head.tree)

pub head_made : (names : Names) (tokens : List Token) (from : ℕ) (pointed : Taken Pointed) (list : Taken RawParameters) (head : Taken RawFunction)
    → IsPointed declaring.Names names tokens from pointed → kind_or_end tokens pointed.next ≡ open_parenthesis
    → IsExactly (ParameterLists names) parameters 198 tokens (pointed.next + 1) list → head.height ≡ list.height + 1 → head.next ≡ list.next
    → head_view head.tree ≡ head_of pointed.tree.pointers.items pointed.tree.name.name (parameters list.tree) → HeadMade names tokens from head
head_made names tokens from pointed list head p k t height later tree = record {
  height_is = let h = t.height_is in let e = ap head_height tree in omega (arith, h, e, height);
  stands =
      subst (λ (m : ℕ). StandingExactly (Heads names) 199 tokens from m (head_view head.tree)) (sym later)
      (subst (λ (h : Head). StandingExactly (Heads names) 199 tokens from list.next h) (sym tree) (head_exactly names tokens from pointed list p k t));
}

-- what follows the head was refused
pub external_end_missing : (names : Names) (tokens : List Token) (from : ℕ) (type : Taken RawSpecs) (head : Taken RawFunction) (s : Stop)
    → IsTypeTaken names tokens from type → HeadMade names tokens type.next head → (kind_or_end tokens head.next ≡ semicolon → ⊥)
    → (kind_or_end tokens head.next ≡ open_brace → AreNamed (parameters head.tree.parameters) → ⊥) → IsPlainStop scope.File tokens head.next s
    → Stops (Externals names) 200 tokens from s
external_end_missing names tokens from type head s t h no_semicolon no_brace is =
    rest_stops names tokens from type t s (end_missing names tokens type.next head.next (head_view head.tree) s h.stands no_semicolon no_brace is)

function_height : (names : Names) (a b : ℕ) (type : Specs) (head : Head) → a ≡ (FileSpecs names).tall type → b ≡ head_height head
    → max a b + 1 ≡ external_height (external_from type (function head))
function_height names a b type head e f = omega (arith, e, f)

-- a function without a body was taken
pub external_function_taken : (names : Names) (tokens : List Token) (from : ℕ) (type : Taken RawSpecs) (head : Taken RawFunction)
    (whole : Taken RawExternalKind) → IsTypeTaken names tokens from type → HeadMade names tokens type.next head
    → kind_or_end tokens head.next ≡ semicolon → external_of whole.tree ≡ external_from (specs type.tree) (function (head_view head.tree))
    → whole.height ≡ max type.height head.height + 1 → whole.next ≡ head.next + 1 → IsExactly (Externals names) external_of 200 tokens from whole
external_function_taken names tokens from type head whole t h k tree height later =
    let y = t.taken in
    external_is names tokens from type (function (head_view head.tree)) (head.next + 1) (max type.height head.height + 1) whole t
    (function_exactly names tokens type.next head.next (head_view head.tree) h.stands k) tree height
    (function_height names type.height head.height (specs type.tree) (head_view head.tree) y.height_is h.height_is) later

-- the body of a function was refused
pub external_body_stops : (names : Names) (tokens : List Token) (from : ℕ) (type : Taken RawSpecs) (head : Taken RawFunction)
    → IsTypeTaken names tokens from type → HeadMade names tokens type.next head → AreNamed (parameters head.tree.parameters)
    → kind_or_end tokens head.next ≡ open_brace → (s : Stop) → Stops (BlockRows names) 198 tokens (head.next + 1) s
    → Stops (Externals names) 200 tokens from s
external_body_stops names tokens from type head t h named k s r =
    rest_stops names tokens from type t s (body_stops names tokens type.next head.next (head_view head.tree) named h.stands k s r)

definition_height : (names : Names) (a b d : ℕ) (type : Specs) (head : Head) (body : Items) → a ≡ (FileSpecs names).tall type → b ≡ head_height head
    → d ≡ (BlockRows names).tall body → max (max a b) (d + 1) + 1 ≡ external_height (external_from type (definition head body))
definition_height names a b d type head body e f g = omega (arith, e, f, g)

-- a function with its body was taken
pub external_definition_taken : (names : Names) (tokens : List Token) (from : ℕ) (type : Taken RawSpecs) (head : Taken RawFunction)
    (body : Taken (Vec RawItem Global)) (whole : Taken RawExternalKind) → IsTypeTaken names tokens from type → HeadMade names tokens type.next head
    → AreNamed (parameters head.tree.parameters) → kind_or_end tokens head.next ≡ open_brace → AreTaken names 198 tokens (head.next + 1) body
    → external_of whole.tree ≡ external_from (specs type.tree) (definition (head_view head.tree) (items_of body.tree))
    → whole.height ≡ max (max type.height head.height) (body.height + 1) + 1 → whole.next ≡ body.next + 1
    → IsExactly (Externals names) external_of 200 tokens from whole
external_definition_taken names tokens from type head body whole t h named k b tree height later =
    let y = t.taken in
    external_is names tokens from type (definition (head_view head.tree) (items_of body.tree)) (body.next + 1)
    (max (max type.height head.height) (body.height + 1) + 1) whole t
    (definition_exactly names tokens type.next head.next (head_view head.tree) body named h.stands k b) tree height
    (definition_height names type.height head.height body.height (specs type.tree) (head_view head.tree) (items_of body.tree) y.height_is h.height_is
    b.height_is) later

-- an external declaration with its position
pub placed_taken : (names : Names) (tokens : List Token) (from : ℕ) (inner : Taken RawExternalKind) (whole : Taken RawExternal)
    → IsExactly (Externals names) external_of 200 tokens from inner → whole.tree.kind ≡ inner.tree → whole.height ≡ inner.height
    → whole.next ≡ inner.next → IsExactly (Externals names) external 200 tokens from whole
placed_taken names tokens from inner whole t tree height later = record {
  height_is = height ∙ t.height_is ∙ ap (λ (k : RawExternalKind). external_height (external_of k)) (sym tree);
  spelled = subst (λ (m : ℕ). Spells tokens from m (external_text (external whole.tree))) (sym later)
      (subst (λ (k : RawExternalKind). Spells tokens from inner.next (external_text (external_of k))) (sym tree) t.spelled);
  exactly = subst (λ (k : RawExternalKind). Exactly (Externals names) 200 (external_of k)) (sym tree) t.exactly;
}

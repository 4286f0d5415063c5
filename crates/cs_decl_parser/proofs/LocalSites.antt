-- Each return of the parts that parse declarations inside blocks and items of blocks, over indices of tokens.
use Rattle.std.proofs.Common.{◌≡◌, ℕ, ◌+◌, ◌-◌, ◌<◌, ◌≤◌, max, ◌⊎◌, inl, inr, Bool, true, false, ◌||◌, List, [], ◌∷◌}
use Rattle.std.proofs.Common.{◌++◌, map, length, refl, sym, ap, ◌∙◌, subst, arith, Vec, Global}
use Rattle.std.proofs.lemmas.Bool.{false≢true}
use Rattle.cs_ast.specs.declared.token.Token.{Token}
use Rattle.cs_ast.specs.declared.token.TokenKind.{TokenKind}
use Rattle.cs_ast.specs.declared.token.TokenKind.TheVariants as token
use Rattle.cs_ast.specs.declared.token.Keyword.{Keyword}
use Rattle.cs_ast.specs.declared.token.Keyword.TheVariants as keyword
use Rattle.cs_ast.specs.declared.raw.declaration.RawInit.{RawInit}
use Rattle.cs_ast.specs.declared.raw.declaration.RawSpecs.{RawSpecs}
use Rattle.cs_ast.specs.declared.raw.statement.RawStmt.{RawStmt}
use Rattle.cs_ast.specs.declared.raw.statement.RawItem.{RawItem}
use Rattle.cs_ast.specs.RawDeclarations.{Specs, Declared}
use Rattle.cs_ast.specs.RawDeclarationView.{specs, declared}
use Rattle.cs_ast.specs.RawStatements.{Nothing, Label, Item, Declares, Does}
use Rattle.cs_ast.specs.RawStatementView.{statement_of, item}
use Rattle.cs_ast.specs.RawFileHeight.{declaration_height, item_height}
use Rattle.cs_grammar.specs.declared.refusal.Reason.TheVariants.{TooDeep}
use Rattle.cs_grammar.specs.TypeWords.{Names}
use Rattle.cs_grammar.specs.Text.{Kinds}
use Rattle.cs_grammar.specs.FirstTokens.{begins_type, keyword_begins_type}
use Rattle.cs_grammar.specs.FileFirstTokens.{begins_sentence}
use Rattle.cs_grammar.specs.FileText.{declared_text, with_commas, specs_text, declaration_text}
use Rattle.cs_grammar.specs.FileClasses.{Sentences, BlockItems}
use Rattle.cs_grammar.specs.DeclarationClasses.{Objects, BlockSpecs}
use Rattle.cs_grammar.specs.Parsing.{Near, BeginsLow, Took, Refused, Exactly}
use Rattle.cs_grammar.specs.Composed.{Separated}
use Rattle.cs_grammar.proofs.FileBeginnings.{specs_of, plain_text, plain_are, block_specs_begin, some_first}
use Rattle.cs_grammar.proofs.Holes.{Lawful, tail_refused, exact_took}
use Rattle.cs_grammar.proofs.Tails.{first_or, Production, full_refused}
use Rattle.cs_grammar.proofs.Sequences.{second_wrong, took_exact}
use Rattle.cs_grammar.proofs.Pairs.{Single, single_took}
use Rattle.cs_grammar.proofs.Statements.{open_brace, semicolon, colon}
use Rattle.cs_grammar.proofs.StatementParts.{sentence_some, sentences_law}
use Rattle.cs_grammar.proofs.StatementFirsts.{begins_low, two_high}
use Rattle.cs_grammar.proofs.DeclaredObjects.{least_object, least_is}
use Rattle.cs_grammar.proofs.BlockItems.{Starts, with_star, with_name, objects_start, block_joins, block_specs_law, plain_height, block_specs_height}
use Rattle.cs_grammar.proofs.BlockItems.{BlockDeclarations, object_list_law, object_list_least, IsDeclaration, declares_single, declares_invert, IsStatement}
use Rattle.cs_grammar.proofs.BlockItems.{does_single}
use Rattle.cs_grammar.proofs.ItemSites.{type_example, item_low, declaration_fits, declares_took, does_took}
use Rattle.cs_grammar.proofs.DeclarationSites.{block_type_refused, block_objects_refused, block_declaration_took}
use Rattle.cs_expr_parser.specs.Positions.{kind_or_end}
use Rattle.cs_expr_parser.specs.Parts.{Spells, is_deep}
use Rattle.cs_expr_parser.specs.declared.stop.Stop.{Stop}
use Rattle.cs_expr_parser.specs.declared.stop.Stop.TheVariants as stop
use Rattle.cs_declarator_parser.specs.declared.stop.Taken.{Taken}
use Rattle.cs_decl_parser.specs.declared.block.DeclaredObjects.{DeclaredObjects}
use Rattle.cs_declarator_parser.specs.Answers.{Stops, IsExactly, IsTaken, StopsOrBrace}
use Rattle.cs_decl_parser.specs.Blocks.{Locals, local_of}
use Rattle.cs_decl_parser.specs.Forms.{is_colon, is_labelled}
use Rattle.cs_expr_parser.proofs.Standing.{spells_none, spells_more}
use Rattle.cs_expr_parser.proofs.Stopping.{refused_here}
use Rattle.cs_decl_parser.proofs.SecondTokens.{second_front}
use Rattle.cs_declarator_parser.proofs.PartStops.{Standing, stops_in, stops_pass, stops_full, front_of, first_front, near_start, single_stops, no_fits}
use Rattle.cs_decl_parser.proofs.StatementForms.{label_name}
use Rattle.cs_decl_parser.proofs.Passing.{pass_tail}

abbrev pub local_single : (names : Names) → Single (Locals names) (BlockDeclarations names) 1 [] (λ part. part) (λ rest. Unit {0})
local_single names = record {
  production = record {
    invert = λ whole after following is fit same. (whole, refl, is, sym same);
    shut = λ part after shut. tt;
    spelled = λ part after. refl;
    is_phrase = λ part is. is;
    taller = λ part. refl;
  };
  law = (declares_single names).law;
  least = (declares_single names).least;
}

pub locals_law : (names : Names) → Lawful (Locals names)
locals_law names = (declares_single names).law

-- a declaration of the least height that begins with a token
record LocalExample (names : Names) (t : TokenKind) : Type 0 where
  phrase : Specs × List Declared
  more : Kinds
  is_phrase : (Locals names).Is phrase
  tall : declaration_height phrase.0 phrase.1 ≡ 2
  spelled : (Locals names).spell phrase [] ≡ t ∷ more

local_example : (names : Names) (t : TokenKind) → begins_type names t ≡ true → LocalExample names t
local_example names t e =
    let x = type_example names t e in
    record {
      phrase = (specs_of (x.first ∷ x.others), least_object names ∷ []);
      more = x.more ++ with_commas declared_text (least_object names ∷ []) (semicolon ∷ []);
      is_phrase = (plain_are names (x.first ∷ x.others) x.type, (tt, (least_is names, tt)));
      tall = let h = plain_height x.first x.others in omega (arith, h);
      spelled = plain_text (x.first ∷ x.others) (with_commas declared_text (least_object names ∷ []) (semicolon ∷ []))
          ∙ x.spelled (with_commas declared_text (least_object names ∷ []) (semicolon ∷ []));
    }

-- a declaration is refused at its first token only if the limit doesn't allow any
local_first : (names : Names) (limit : ℕ) (next : TokenKind) (deep : Bool) → begins_type names next ≡ true → Refused (Locals names) limit [] next deep
    → (deep ≡ true) × (limit < 2)
local_first names limit next deep e r =
    let b = local_example names next e in
    let v = r.never b.phrase [] (next ∷ b.more) b.is_phrase tt (inr (b.more, refl)) b.spelled in
    (v.reported, let h = v.high in let t = b.tall in omega (arith, h, t))

local_full : (names : Names) (limit : ℕ) (next : TokenKind) → limit < 2 → begins_type names next ≡ true → Refused (Locals names) limit [] next true
local_full names limit next full e =
    let b = local_example names next e in
    full_refused (Locals names) limit next
    (λ other after is same.
    some_first (begins_type names) (declaration_text other.0 other.1 after)
    (block_specs_begin names other.0 (with_commas declared_text other.1 (semicolon ∷ after)) is.0) same)
    (λ other after more is same. let h = block_specs_height names other.0 is.0 in omega (arith, h, full))
    (record { phrase = b.phrase; more = b.more; is_phrase = b.is_phrase; spelled = b.spelled })

-- the limit doesn't allow a declaration
pub local_none : (names : Names) (limit : ℕ) (tokens : List Token) (from : ℕ) (s : Stop) → from ≤ length tokens → limit < 2
    → begins_type names (kind_or_end tokens from) ≡ true → s ≡ stop.Refused from TooDeep → Stops (Locals names) limit tokens from s
local_none names limit tokens from s within full e is =
    stops_full (Locals names) limit tokens from s within is (local_full names limit (kind_or_end tokens from) full e)

local_stops : (names : Names) (limit : ℕ) (tokens : List Token) (from : ℕ) → 2 ≤ limit → from ≤ length tokens
    → (s : Stop) → Stops (BlockDeclarations names) (limit - 1) tokens from s → Stops (Locals names) limit tokens from s
local_stops names limit tokens from enough within s r =
    single_stops (local_single names) limit (limit - 1) (omega arith, omega arith) tokens from from (spells_none tokens from within) (no_fits tokens from) s r

no_object : (tokens : Kinds) → Starts tokens → tokens ≡ [] → ⊥
no_object tokens (with_star more e) none = let z = sym e ∙ none in cc
no_object tokens (with_name name more e) none = let z = sym e ∙ none in cc

no_brace : (tokens more : Kinds) → Starts tokens → tokens ≡ open_brace ∷ more → ⊥
no_brace tokens more (with_star m e) same = let z = sym e ∙ same in cc
no_brace tokens more (with_name name m e) same = let z = sym e ∙ same in cc

brace_refused : (names : Names) (limit : ℕ) → 1 ≤ limit → (phrase : Specs) (next : TokenKind) (deep : Bool) → next ≡ open_brace
    → Took (BlockSpecs names) limit phrase open_brace deep → Refused (BlockDeclarations names) limit (specs_text phrase []) next deep
brace_refused names limit some phrase next deep brace t =
    second_wrong (BlockSpecs names) (Separated (Objects names) semicolon) limit (block_specs_law names) (block_joins names) (object_list_least names)
    (omega (arith, some)) phrase next deep (subst (λ (x : TokenKind). Took (BlockSpecs names) limit phrase x deep) (sym brace) t)
    (λ d after is same. no_object (with_commas declared_text d (semicolon ∷ after)) (objects_start names d (semicolon ∷ after) is.0 is.1) same)
    (λ d after more is same.
    no_brace (with_commas declared_text d (semicolon ∷ after)) more (objects_start names d (semicolon ∷ after) is.0 is.1) (same
    ∙ ap (λ (x : TokenKind). x ∷ more) brace))

type_stops : (names : Names) (limit : ℕ) (tokens : List Token) (from : ℕ) → 1 ≤ limit → (s : Stop) → Stops (BlockSpecs names) limit tokens from s
    → Stops (BlockDeclarations names) limit tokens from s
type_stops names limit tokens from some s r =
    stops_pass (BlockDeclarations names) (BlockSpecs names) limit limit tokens from
    (λ front at deep here x. block_type_refused names limit some front (kind_or_end tokens at) deep x) s r

specs_stop : (names : Names) (limit : ℕ) (tokens : List Token) (from : ℕ) → 1 ≤ limit
    → (s : Stop) → StopsOrBrace (BlockSpecs names) limit tokens from s → Stops (BlockDeclarations names) limit tokens from s
specs_stop names limit tokens from some stop.Memory r = tt
specs_stop names limit tokens from some (stop.Refused at reason) r =
    elim r [
      | inl x ↦ type_stops names limit tokens from some (stop.Refused at reason) x
      | inr b ↦ record {
        front = specs_text b.phrase [];
        spelled = front_of (BlockSpecs names) (block_specs_law names) tokens from at b.phrase b.spelled;
        refused = brace_refused names limit some b.phrase (kind_or_end tokens at) (is_deep reason) b.brace b.took;
      }
    ]

-- the specifiers of a declaration were refused
pub local_type_stops : (names : Names) (limit : ℕ) (tokens : List Token) (from : ℕ) → 2 ≤ limit → from ≤ length tokens
    → (s : Stop) → StopsOrBrace (BlockSpecs names) (limit - 1) tokens from s → Stops (Locals names) limit tokens from s
local_type_stops names limit tokens from enough within s r =
    local_stops names limit tokens from enough within s (specs_stop names (limit - 1) tokens from (omega arith) s r)

-- its objects were refused
pub local_objects_stop : (names : Names) (limit : ℕ) (tokens : List Token) (from : ℕ) (type : Taken RawSpecs) → 2 ≤ limit → from ≤ length tokens
    → IsTaken (BlockSpecs names) specs (limit - 1) tokens from false type
    → (s : Stop) → Stops (Separated (Objects names) semicolon) (limit - 1) tokens type.next s → Stops (Locals names) limit tokens from s
local_objects_stop names limit tokens from type enough within t s r =
    local_stops names limit tokens from enough within s
    (stops_in (BlockDeclarations names) (Separated (Objects names) semicolon) (limit - 1) (limit - 1) tokens from type.next (specs_text (specs type.tree) [])
    (front_of (BlockSpecs names) (block_specs_law names) tokens from type.next (specs type.tree) t.spelled)
    (λ front at deep here x.
    block_objects_refused names (limit - 1) (omega arith) (specs type.tree) (kind_or_end tokens type.next) t.took front (kind_or_end tokens at) deep
    (first_front tokens type.next at front here) x) s r)

first_any : (front : Kinds) (a b : TokenKind) → (front ≡ [] → ⊥) → first_or front a ≡ first_or front b
first_any [] a b some = absurd (some refl)
first_any (f ∷ fs) a b some = refl

two_heights : (names : Names) (a b : ℕ) (type : Specs) (objects : List Declared) → a ≡ (BlockSpecs names).tall type
    → b ≡ (Separated (Objects names) semicolon).tall objects → max a b + 1 ≡ declaration_height type objects
two_heights names a b type objects e f = omega (arith, e, f)

-- a declaration was taken
pub local_taken : (names : Names) (limit : ℕ) (tokens : List Token) (from : ℕ) (type : Taken RawSpecs) (list : Taken (Vec RawInit Global))
    (whole : Taken DeclaredObjects) → 2 ≤ limit → from ≤ length tokens → IsTaken (BlockSpecs names) specs (limit - 1) tokens from false type
    → IsExactly (Separated (Objects names) semicolon) (λ (v : Vec RawInit Global). map declared v.items) (limit - 1) tokens type.next list
    → local_of whole.tree ≡ (specs type.tree, map declared list.tree.items) → whole.height ≡ max type.height list.height + 1
    → whole.next ≡ list.next → IsExactly (Locals names) local_of limit tokens from whole
local_taken names limit tokens from type list whole enough within t o tree height later =
    let objects = map declared list.tree.items in
    let th = t.height_is in
    let oh = o.height_is in
    let x = o.exactly in
    let l = front_of (Separated (Objects names) semicolon) (object_list_law names) tokens type.next list.next objects o.spelled in
    let some : with_commas declared_text objects (semicolon ∷ []) ≡ [] → ⊥ = λ none.
    no_object (with_commas declared_text objects (semicolon ∷ [])) (objects_start names objects (semicolon ∷ []) x.is_phrase.0 x.is_phrase.1) none in
    let starts : (next : TokenKind) → first_or (with_commas declared_text objects (semicolon ∷ [])) next ≡ kind_or_end tokens type.next =
    λ next. first_any (with_commas declared_text objects (semicolon ∷ [])) next (kind_or_end tokens list.next) some
    ∙ first_front tokens type.next list.next (with_commas declared_text objects (semicolon ∷ [])) l in
    let took : (next : TokenKind) → Took (Locals names) limit (specs type.tree, objects) next false =
    λ next. single_took (local_single names) limit (limit - 1) (omega arith, omega arith) (specs type.tree, objects) next false (λ following near. tt)
    (block_declaration_took names (limit - 1) (omega arith) (specs type.tree) (kind_or_end tokens type.next) t.took objects next (starts next)
    (exact_took (Separated (Objects names) semicolon) (limit - 1) objects x next)) in
    record {
      height_is = height ∙ two_heights names type.height list.height (specs type.tree) objects th oh
          ∙ ap (λ (d : Specs × List Declared). declaration_height d.0 d.1) (sym tree);
      spelled =
          subst (λ (m : ℕ). Spells tokens from m ((Locals names).spell (local_of whole.tree))) (sym later)
          (subst (λ (d : Specs × List Declared). Spells tokens from list.next ((Locals names).spell d)) (sym tree)
          (spells_more tokens from type.next list.next (specs_text (specs type.tree)) (λ rest. with_commas declared_text objects (semicolon ∷ rest))
          t.spelled o.spelled));
      exactly = subst (λ (d : Specs × List Declared). Exactly (Locals names) limit d) (sym tree)
          (took_exact (Locals names) limit (specs type.tree, objects) took (λ other after. tt) semicolon);
    }

or_true : (b : Bool) → b || true ≡ true
or_true true = refl
or_true false = refl

keyword_not_low : (k : Keyword) → keyword_begins_type k ≡ true → begins_low (token.Keyword k) ≡ false
keyword_not_low keyword.Goto e = absurd cc
keyword_not_low keyword.Continue e = absurd cc
keyword_not_low keyword.Break e = absurd cc
keyword_not_low keyword.Return e = absurd cc
keyword_not_low _ e = refl

type_not_low : (names : Names) (t : TokenKind) → begins_type names t ≡ true → begins_low t ≡ false
type_not_low names (token.Name n) e = refl
type_not_low names (token.Keyword k) e = keyword_not_low k e
type_not_low names (token.Number n) e = refl
type_not_low names (token.Character v) e = refl
type_not_low names (token.Text b) e = refl
type_not_low names (token.Punctuator m) e = absurd cc
type_not_low names (token.Unsupported w) e = refl
type_not_low names token.Attribute e = refl

type_no_end : (names : Names) (t : TokenKind) → begins_type names t ≡ true → t ≡ token.Attribute → ⊥
type_no_end names t e a = false≢true (sym (ap (begins_type names) a) ∙ e)

-- the second of some tokens
second_is : (tokens : List Token) (from at : ℕ) (f : TokenKind) (fs : Kinds) → Spells tokens from at (λ rest. (f ∷ fs) ++ rest)
    → (f ≡ token.Attribute → ⊥) → first_or fs (kind_or_end tokens at) ≡ kind_or_end tokens (from + 1)
second_is tokens from at f fs sp some = first_front tokens (from + 1) at fs (second_front tokens from at f fs sp some)

unlabelled_colon : (first second : TokenKind) (n : List ℕ) → is_labelled first second ≡ false → first ≡ token.Name n → second ≡ colon → ⊥
unlabelled_colon first second n e name c = false≢true (sym e ∙ ap (λ (x : TokenKind). is_labelled x second) name ∙ ap is_colon c)

declares_production : (names : Names) → Production (BlockItems names) (Locals names) 0 [] (λ part. Declares part.0 part.1) (IsDeclaration names)
declares_production names = record {
  invert = λ whole after following is fit same. declares_invert names whole after following is fit same;
  shut = λ part after shut. tt;
  spelled = λ part after. refl;
  is_phrase = λ part is. is;
  taller = λ part. omega arith;
}

declares_lift : (names : Names) (limit : ℕ) (tokens : List Token) (from : ℕ) → begins_type names (kind_or_end tokens from) ≡ true
    → is_labelled (kind_or_end tokens from) (kind_or_end tokens (from + 1)) ≡ false
    → (front : Kinds) (at : ℕ) (deep : Bool) → Spells tokens from at (λ rest. front ++ rest)
    → Refused (Locals names) limit front (kind_or_end tokens at) deep → Refused (BlockItems names) limit front (kind_or_end tokens at) deep
declares_lift names limit tokens from e other [] at deep here x =
    let k = refused_here tokens from at [] here refl in
    let typed = ap (begins_type names) k ∙ e in
    let f = local_first names limit (kind_or_end tokens at) deep typed x in
    subst (λ (d : Bool). Refused (BlockItems names) limit [] (kind_or_end tokens at) d) (sym f.0)
    (item_low names limit (kind_or_end tokens at) f.1 (ap (λ (b : Bool). begins_sentence (kind_or_end tokens at) || b) typed
    ∙ or_true (begins_sentence (kind_or_end tokens at))) (type_not_low names (kind_or_end tokens at) typed))
declares_lift names limit tokens from e other (f ∷ fs) at deep here x =
    let k : f ≡ kind_or_end tokens from = first_front tokens from at (f ∷ fs) here in
    let typed = ap (begins_type names) k ∙ e in
    tail_refused (BlockItems names) (Locals names) limit limit [] (λ part. Declares part.0 part.1) (IsDeclaration names) (locals_law names)
    (pass_tail (BlockItems names) (Locals names) (λ part. Declares part.0 part.1) (IsDeclaration names) limit (declares_production names)) (f ∷ fs)
    (kind_or_end tokens at) deep
    (declaration_fits names f fs (kind_or_end tokens at) typed
    (λ n name c.
    unlabelled_colon (kind_or_end tokens from) (kind_or_end tokens (from + 1)) n other (sym k ∙ name)
    (sym (second_is tokens from at f fs here (type_no_end names f typed)) ∙ c))) x

-- an item of a block that is a declaration was refused
pub declares_stops : (names : Names) (limit : ℕ) (tokens : List Token) (from : ℕ) → begins_type names (kind_or_end tokens from) ≡ true
    → is_labelled (kind_or_end tokens from) (kind_or_end tokens (from + 1)) ≡ false → (s : Stop) → Stops (Locals names) limit tokens from s
    → Stops (BlockItems names) limit tokens from s
declares_stops names limit tokens from e other s r =
    stops_pass (BlockItems names) (Locals names) limit limit tokens from (declares_lift names limit tokens from e other) s r

item_taken : (names : Names) (limit : ℕ) (tokens : List Token) (from next : ℕ) (tree : Item) (tall : ℕ) (whole : Taken RawItem)
    → item whole.tree ≡ tree → whole.height ≡ tall → tall ≡ item_height tree → whole.next ≡ next
    → Standing (BlockItems names) limit tokens from next false tree → IsTaken (BlockItems names) item limit tokens from false whole
item_taken names limit tokens from next tree tall whole e height h later s = record {
  height_is = height ∙ h ∙ ap item_height (sym e);
  spelled = subst (λ (m : ℕ). Spells tokens from m ((BlockItems names).spell (item whole.tree))) (sym later)
      (subst (λ (x : Item). Spells tokens from next ((BlockItems names).spell x)) (sym e) s.spelled);
  took =
      subst (λ (m : ℕ). Took (BlockItems names) limit (item whole.tree) (kind_or_end tokens m) false) (sym later)
      (subst (λ (x : Item). Took (BlockItems names) limit x (kind_or_end tokens next) false) (sym e) s.took);
}

-- a declaration without the node of its item is one lower
lower_local : (names : Names) (limit : ℕ) (d : Specs × List Declared) → Exactly (Locals names) limit d
    → (next : TokenKind) → Took (BlockDeclarations names) (limit - 1) d next false
lower_local names limit d x next =
    exact_took (BlockDeclarations names) (limit - 1) d (record { is_phrase = x.is_phrase; low = let l = x.low in omega (arith, l); exact = x.exact }) next

-- a declaration was taken
pub declares_taken : (names : Names) (limit : ℕ) (tokens : List Token) (from : ℕ) (inner : Taken DeclaredObjects) (whole : Taken RawItem)
    → IsExactly (Locals names) local_of limit tokens from inner
    → item whole.tree ≡ Declares (specs inner.tree.specs) (map declared inner.tree.objects.items) → whole.height ≡ inner.height
    → whole.next ≡ inner.next → IsTaken (BlockItems names) item limit tokens from false whole
declares_taken names limit tokens from inner whole t tree height later =
    let x = t.exactly in
    let l = x.low in
    let h = block_specs_height names (specs inner.tree.specs) x.is_phrase.0 in
    item_taken names limit tokens from inner.next (Declares (specs inner.tree.specs) (map declared inner.tree.objects.items)) inner.height whole tree height
    t.height_is later
    (record {
      spelled = t.spelled;
      took = declares_took names limit (limit - 1) (omega (arith, l)) (omega (arith, l, h)) (local_of inner.tree) (kind_or_end tokens inner.next) false
          (lower_local names limit (local_of inner.tree) x (kind_or_end tokens inner.next));
    })

near_statement : (names : Names) (first : TokenKind) (tokens : Kinds) → begins_type names first ≡ false → Near first tokens → IsStatement names tokens
near_statement names first tokens e near t more same =
    elim near [
      | inl none ↦ let z = sym same ∙ none in absurd cc
      | inr m ↦
          let z : t ∷ more ≡ first ∷ m.0 = sym same ∙ m.1 in
          let k : t ≡ first = cc in
          inl (ap (begins_type names) k ∙ e)
    ]

does_pass : (names : Names) (limit : ℕ) (front : Kinds) (next : TokenKind) (deep : Bool)
    → ((following : Kinds) → Near next following → IsStatement names (front ++ following)) → Refused (Sentences names) limit front next deep
    → Refused (BlockItems names) limit front next deep
does_pass names limit front next deep fits x =
    tail_refused (BlockItems names) (Sentences names) limit limit [] Does (IsStatement names) (sentences_law names)
    (pass_tail (BlockItems names) (Sentences names) Does (IsStatement names) limit (does_single names).production) front next deep fits x

-- a label with an empty statement has height 2
label_here : (names : Names) (limit : ℕ) (n : List ℕ) (front following : Kinds) (next : TokenKind) (deep : Bool)
    → front ++ following ≡ token.Name n ∷ colon ∷ semicolon ∷ [] → Near next following → Refused (Sentences names) limit front next deep
    → (deep ≡ true) × (limit < 2)
label_here names limit n front following next deep same near r =
    let v = r.never (Label n Nothing) [] following tt (λ reported. tt) near (sym same) in
    (v.reported, let h = v.high in omega (arith, h))

no_lone : (names : Names) (limit : ℕ) (n : List ℕ) → limit < 2 → BeginsLow (Sentences names) limit (token.Name n ∷ []) → ⊥
no_lone names limit n full b =
    let h = two_high names b.phrase [] (token.Name n) b.more b.spelled refl in
    let l = b.low in
    omega (arith, h, l, full)

does_label : (names : Names) (limit : ℕ) (tokens : List Token) (from : ℕ) (n : List ℕ) → kind_or_end tokens from ≡ token.Name n
    → kind_or_end tokens (from + 1) ≡ colon → (front : Kinds) (at : ℕ) (deep : Bool) → Spells tokens from at (λ rest. front ++ rest)
    → Refused (Sentences names) limit front (kind_or_end tokens at) deep → Refused (BlockItems names) limit front (kind_or_end tokens at) deep
does_label names limit tokens from n name c [] at deep here x =
    let k : kind_or_end tokens at ≡ token.Name n = refused_here tokens from at [] here refl ∙ name in
    let f = label_here names limit n [] (token.Name n ∷ colon ∷ semicolon ∷ []) (token.Name n) deep refl (inr (colon ∷ semicolon ∷ [], refl))
    (subst (λ (t : TokenKind). Refused (Sentences names) limit [] t deep) k x) in
    subst (λ (d : Bool). Refused (BlockItems names) limit [] (kind_or_end tokens at) d) (sym f.0)
    (subst (λ (t : TokenKind). Refused (BlockItems names) limit [] t true) (sym k) (item_low names limit (token.Name n) f.1 refl refl))
does_label names limit tokens from n name c (f ∷ []) at deep here x =
    let k : f ≡ token.Name n = first_front tokens from at (f ∷ []) here ∙ name in
    let s : kind_or_end tokens at ≡ colon = second_is tokens from at f [] here (λ a. let z = sym k ∙ a in cc) ∙ c in
    let x' = subst (λ (t : TokenKind). Refused (Sentences names) limit (token.Name n ∷ []) t deep) s
    (subst (λ (t : TokenKind). Refused (Sentences names) limit (t ∷ []) (kind_or_end tokens at) deep) k x) in
    let h = label_here names limit n (token.Name n ∷ []) (colon ∷ semicolon ∷ []) colon deep refl (inr (semicolon ∷ [], refl)) x' in
    absurd (elim x'.begun [ inl none ↦ cc | inr b ↦ no_lone names limit n h.1 b ])
does_label names limit tokens from n name c (f ∷ g ∷ gs) at deep here x =
    let k : f ≡ token.Name n = first_front tokens from at (f ∷ g ∷ gs) here ∙ name in
    let s : g ≡ colon = second_is tokens from at f (g ∷ gs) here (λ a. let z = sym k ∙ a in cc) ∙ c in
    does_pass names limit (f ∷ g ∷ gs) (kind_or_end tokens at) deep
    (λ following near t more same.
    let z : g ∷ (gs ++ following) ≡ more = cc in
    inr (gs ++ following, sym z ∙ ap (λ (y : TokenKind). y ∷ (gs ++ following)) s)) x

-- the next item isn't a declaration: it is a label, or the token begins no type
abbrev pub IsNoDeclaration : Names → List Token → ℕ → Type 0
IsNoDeclaration names tokens from = (begins_type names (kind_or_end tokens from) ≡ false)
    ⊎ (is_labelled (kind_or_end tokens from) (kind_or_end tokens (from + 1)) ≡ true)

does_lift : (names : Names) (limit : ℕ) (tokens : List Token) (from : ℕ) → IsNoDeclaration names tokens from
    → (front : Kinds) (at : ℕ) (deep : Bool) → Spells tokens from at (λ rest. front ++ rest)
    → Refused (Sentences names) limit front (kind_or_end tokens at) deep → Refused (BlockItems names) limit front (kind_or_end tokens at) deep
does_lift names limit tokens from (inl e) front at deep here x =
    does_pass names limit front (kind_or_end tokens at) deep (λ following near.
    near_statement names (kind_or_end tokens from) (front ++ following) e (near_start tokens from at front here following near)) x
does_lift names limit tokens from (inr e) front at deep here x =
    let l = label_name (kind_or_end tokens from) (kind_or_end tokens (from + 1)) e in
    does_label names limit tokens from l.0 l.1 l.2 front at deep here x

-- an item of a block that is a statement was refused
pub does_stops : (names : Names) (limit : ℕ) (tokens : List Token) (from : ℕ) → IsNoDeclaration names tokens from
    → (s : Stop) → Stops (Sentences names) limit tokens from s → Stops (BlockItems names) limit tokens from s
does_stops names limit tokens from other s r =
    stops_pass (BlockItems names) (Sentences names) limit limit tokens from (does_lift names limit tokens from other) s r

-- a statement was taken
pub does_taken : (names : Names) (limit : ℕ) (tokens : List Token) (from : ℕ) (inner : Taken RawStmt) (whole : Taken RawItem)
    → IsTaken (Sentences names) statement_of limit tokens from false inner → item whole.tree ≡ Does (statement_of inner.tree)
    → whole.height ≡ inner.height → whole.next ≡ inner.next → IsTaken (BlockItems names) item limit tokens from false whole
does_taken names limit tokens from inner whole t tree height later =
    let h = sentence_some (statement_of inner.tree) in
    let l = t.took.low in
    item_taken names limit tokens from inner.next (Does (statement_of inner.tree)) inner.height whole tree height t.height_is later
    (record { spelled = t.spelled; took = does_took names limit (omega (arith, h, l)) (statement_of inner.tree) (kind_or_end tokens inner.next) false t.took })

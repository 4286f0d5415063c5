-- The positions of specifiers and members: for the clauses on positions of the parts that parse them.
use Rattle.std.proofs.Common.{◌≡◌, ℕ, zero, suc, inl, inr, ◌+◌, ◌<◌, ◌≤◌, Bool, true, false, List, [], ◌∷◌, ◌++◌, Vec, Global}
use Rattle.std.proofs.Common.{Option, Some, None, length, drop, map, slice_get, refl, sym, ap, ◌∙◌, subst, arith}
use mathlib.Core.Former.{Count}
use Rattle.std.specs.Option.{option_map, option_and_then, option_or}
use Rattle.std.proofs.Math.Seq.{drop-cons}
use Rattle.std.proofs.Math.ListN.{drop_of_length-le}
use Rattle.std.proofs.lemmas.Bool.{false≢true, cases_lt}
use Rattle.std.proofs.lemmas.Option.{slice_get_within, get_or_from_slice_get, slice_get-get_or}
use Rattle.std.proofs.lemmas.List.{drop-drop}
use Rattle.cs_ast.specs.declared.place.Place.{Place}
use Rattle.cs_ast.specs.declared.token.Token.{Token}
use Rattle.cs_ast.specs.declared.token.TokenKind.TheVariants as token
use Rattle.cs_ast.specs.declared.token.Punctuator.TheVariants as punctuator
use Rattle.cs_ast.specs.declared.raw.name.RawName.{RawName}
use Rattle.cs_ast.specs.declared.raw.written_type.TypeWord.{TypeWord}
use Rattle.cs_ast.specs.declared.raw.written_type.TypeWord.TheVariants as word
use Rattle.cs_ast.specs.declared.raw.declaration.SpecWord as words
use Rattle.cs_ast.specs.declared.raw.declaration.SpecWord.{SpecWord}
use Rattle.cs_ast.specs.declared.raw.declaration.RawEnumerator.{RawEnumerator}
use Rattle.cs_ast.specs.declared.raw.declaration.RawMember.{RawMember}
use Rattle.cs_ast.specs.declared.raw.declaration.RawSpecs.{RawSpecs}
use Rattle.cs_ast.specs.declared.raw.declaration.RawDeclarator.{RawDeclarator}
use Rattle.cs_ast.specs.RawDeclarations.{Spec, Static, Plain, StructBody, EnumBody, Specs, NoSpec, MoreSpecs, Members, Constant}
use Rattle.cs_ast.specs.RawDeclarationView.{spec, specs_list, specs_row, specs, declarator, constant}
use Rattle.cs_ast.proofs.RawDeclarationRows.{specs-row}
use Rattle.cs_grammar.specs.declared.type_words.TypeSoFar.{TypeSoFar}
use Rattle.cs_grammar.specs.TypeWords.{Names, named_by}
use Rattle.cs_grammar.specs.TypesSoFar.{Describes}
use Rattle.cs_grammar.specs.Text.{Kinds, type_word_text, words_text}
use Rattle.cs_grammar.specs.FileText.{name_text, spec_text, specs_text, declarator_text, constant_text, with_commas}
use Rattle.cs_grammar.specs.FilePhrases.{words_of}
use Rattle.cs_grammar.specs.Places.{StandsAt}
use Rattle.cs_grammar.proofs.FileTexts.{name_append, spec_append, specs_append, declarator_append, with_commas_append}
use Rattle.cs_grammar.proofs.SpecRows.{joined_specs}
use Rattle.cs_grammar.proofs.FileBeginnings.{specs_of, plain_text}
use Rattle.cs_expr_parser.specs.Parts.{Spells}
use Rattle.cs_expr_parser.specs.Words.{has_tag, names_some, word_of_tag}
use Rattle.cs_declarator_parser.specs.declared.specs.NextWord.{NextWord}
use Rattle.cs_declarator_parser.specs.SpecWords.{name_in, tag_keyword}
use Rattle.cs_declarator_parser.specs.DeclarationPlaces.{past, before_tag, tag_place, in_body, AreSideBySide, AreInRow, IsNamePlaced, IsSpecPlaced}
use Rattle.cs_declarator_parser.specs.DeclarationPlaces.{AreSpecsPlaced}
use Rattle.cs_declarator_parser.specs.DeclarationPlaces.{AreMembersPlaced, IsConstantPlaced, AreDeclaratorsPlaced}
use Rattle.cs_declarator_parser.specs.SpecPlaces.{place_in, settles, IsWordPlaced, IsWordThere, group_text, AreGroupsPlaced}
use Rattle.cs_declarator_parser.proofs.Placing.{IsFramed, one_after, past_text, past_both, after_text, SidePlaced, side_begun, side_goes_on}
use Rattle.cs_expr_parser.proofs.Standing.{spells_as}
use Rattle.cs_expr_parser.proofs.Stopping.{refused_number}
use Rattle.cs_expr_parser.proofs.SitesOfWords.{nothing_named}
use Rattle.cs_declarator_parser.proofs.BlockSpecSites.{WordsSoFar}

-- the position of the token with an index
abbrev place_at_number : List Token → Option ℕ → Option Place
place_at_number tokens number = option_map (λ (token : Token). token.place) (option_and_then (λ n. slice_get tokens n) number)

some_within : (tokens : List Token) (at : ℕ) → at < length tokens → slice_get tokens at ≡ None → ⊥
some_within [] at less e = absurd (omega arith)
some_within (t ∷ ts) at less e = let s = slice_get-get_or (t ∷ ts) at t less in cc

get_later : (n : ℕ) (list : List Token) (number : ℕ) → slice_get (drop n list) number ≡ slice_get list (n + number)
get_later zero list number = ap (slice_get list) (let e : number ≡ 0 + number = omega arith in e)
get_later (suc n) [] number = refl
get_later (suc n) (t ∷ ts) number = get_later n ts number ∙ ap (slice_get (t ∷ ts)) (let e : suc (n + number) ≡ suc n + number = omega arith in e)

none_within : (tokens : List Token) (at : ℕ) → slice_get tokens at ≡ None → length tokens ≤ at
none_within tokens at e =
    elim (cases_lt at (length tokens)) [
      | inl less ↦ absurd (some_within tokens at less e)
      | inr more ↦ more
    ]

place_stands : (tokens : List Token) (at : ℕ) (place : Place) (found : Option Token) → slice_get tokens at ≡ found → StandsAt place (drop at tokens)
    → Some place ≡ option_map (λ (token : Token). token.place) found
place_stands tokens at place None e s = absurd (subst (StandsAt place) (drop_of_length-le tokens (none_within tokens at e)) s)
place_stands tokens at place (Some t) e s =
    let less = slice_get_within tokens at t e in
    let d = drop-cons tokens at t less in
    ap Some (subst (StandsAt place) d s ∙ ap (λ (x : Token). x.place) (get_or_from_slice_get tokens at t t e))

unsettled_none : (s : Spec) → settles s ≡ false → before_tag (MoreSpecs s NoSpec) ≡ None
unsettled_none Static e = refl
unsettled_none (Plain word.Const) e = refl
unsettled_none (Plain word.Void) e = refl
unsettled_none (Plain (word.Integer k)) e = refl
unsettled_none (Plain (word.Typedef name)) e = refl
unsettled_none (Plain (word.Struct tag)) e = absurd (false≢true (sym e))
unsettled_none (Plain (word.Enum tag)) e = absurd (false≢true (sym e))
unsettled_none (StructBody tag members) e = absurd (false≢true (sym e))
unsettled_none (EnumBody tag constants comma) e = absurd (false≢true (sym e))

-- a word without a tag or a body doesn't change the tag
unsettled_more : (done : Specs) (s : Spec) → settles s ≡ false → before_tag (joined_specs done (MoreSpecs s NoSpec)) ≡ before_tag done
unsettled_more NoSpec s e = unsettled_none s e
unsettled_more (MoreSpecs Static ds) s e = ap (option_map suc) (unsettled_more ds s e)
unsettled_more (MoreSpecs (Plain word.Const) ds) s e = ap (option_map suc) (unsettled_more ds s e)
unsettled_more (MoreSpecs (Plain word.Void) ds) s e = ap (option_map suc) (unsettled_more ds s e)
unsettled_more (MoreSpecs (Plain (word.Integer k)) ds) s e = ap (option_map suc) (unsettled_more ds s e)
unsettled_more (MoreSpecs (Plain (word.Typedef name)) ds) s e = ap (option_map suc) (unsettled_more ds s e)
unsettled_more (MoreSpecs (Plain (word.Struct tag)) ds) s e = refl
unsettled_more (MoreSpecs (Plain (word.Enum tag)) ds) s e = refl
unsettled_more (MoreSpecs (StructBody None members) ds) s e = refl
unsettled_more (MoreSpecs (StructBody (Some tag) members) ds) s e = refl
unsettled_more (MoreSpecs (EnumBody None constants comma) ds) s e = refl
unsettled_more (MoreSpecs (EnumBody (Some tag) constants comma) ds) s e = refl

-- words that name nothing have no tag
unnamed_none : (done : Specs) → named_by (words_of done) ≡ [] → before_tag done ≡ None
unnamed_none NoSpec e = refl
unnamed_none (MoreSpecs Static ds) e = ap (option_map suc) (unnamed_none ds e)
unnamed_none (MoreSpecs (Plain word.Const) ds) e = ap (option_map suc) (unnamed_none ds e)
unnamed_none (MoreSpecs (Plain word.Void) ds) e = absurd cc
unnamed_none (MoreSpecs (Plain (word.Integer k)) ds) e = absurd cc
unnamed_none (MoreSpecs (Plain (word.Typedef name)) ds) e = absurd cc
unnamed_none (MoreSpecs (Plain (word.Struct tag)) ds) e = absurd cc
unnamed_none (MoreSpecs (Plain (word.Enum tag)) ds) e = absurd cc
unnamed_none (MoreSpecs (StructBody tag members) ds) e = absurd cc
unnamed_none (MoreSpecs (EnumBody tag constants comma) ds) e = absurd cc

count_none : (x : Option ℕ) → x ≡ option_map (λ n. 0 + n) x
count_none None = refl
count_none (Some n) = ap Some (let e : n ≡ 0 + n = omega arith in e)

count_more : (many : ℕ) (x : Option ℕ) → option_map suc (option_map (λ n. many + n) x) ≡ option_map (λ n. suc many + n) x
count_more many None = refl
count_more many (Some n) = ap Some (let e : suc (many + n) ≡ suc many + n = omega arith in e)

-- a tag after words that name nothing
unnamed_more : (done rest : Specs) → named_by (words_of done) ≡ []
    → before_tag (joined_specs done rest) ≡ option_map (λ n. length (specs_text done []) + n) (before_tag rest)
unnamed_more NoSpec rest e = count_none (before_tag rest)
unnamed_more (MoreSpecs Static ds) rest e = ap (option_map suc) (unnamed_more ds rest e) ∙ count_more (length (specs_text ds [])) (before_tag rest)
unnamed_more (MoreSpecs (Plain word.Const) ds) rest e = ap (option_map suc) (unnamed_more ds rest e)
    ∙ count_more (length (specs_text ds [])) (before_tag rest)
unnamed_more (MoreSpecs (Plain word.Void) ds) rest e = absurd cc
unnamed_more (MoreSpecs (Plain (word.Integer k)) ds) rest e = absurd cc
unnamed_more (MoreSpecs (Plain (word.Typedef name)) ds) rest e = absurd cc
unnamed_more (MoreSpecs (Plain (word.Struct tag)) ds) rest e = absurd cc
unnamed_more (MoreSpecs (Plain (word.Enum tag)) ds) rest e = absurd cc
unnamed_more (MoreSpecs (StructBody tag members) ds) rest e = absurd cc
unnamed_more (MoreSpecs (EnumBody tag constants comma) ds) rest e = absurd cc

shifted : (tokens : List Token) (many : ℕ) (number : Option ℕ)
    → place_at_number tokens (option_map (λ n. many + n) number) ≡ place_at_number (drop many tokens) number
shifted tokens many None = refl
shifted tokens many (Some n) = ap (option_map (λ (token : Token). token.place)) (sym (get_later many tokens n))

list_more : (items : List SpecWord) (w : SpecWord) → specs_list (items ++ w ∷ []) ≡ joined_specs (specs_list items) (MoreSpecs (spec w) NoSpec)
list_more [] w = refl
list_more (i ∷ is) w = ap (MoreSpecs (spec i)) (list_more is w)

or_none : (old : Option Place) → option_or old None ≡ old
or_none None = refl
or_none (Some place) = refl

-- the tag of words with one more
tag_more : (names : Names) (so_far : TypeSoFar) (done : Specs) (s : Spec) (settled : Bool) (tokens : List Token) (from next : ℕ) (old new : Option Place)
    → settles s ≡ settled → (settled ≡ true → names_some so_far ≡ false) → Describes names so_far (words_of done)
    → Spells tokens from next (specs_text done) → old ≡ tag_place done (drop from tokens) → new ≡ tag_place (MoreSpecs s NoSpec) (drop next tokens)
    → option_or old new ≡ tag_place (joined_specs done (MoreSpecs s NoSpec)) (drop from tokens)
tag_more names so_far done s true tokens from next old new is fresh d sp o n =
    let none = nothing_named names so_far (words_of done) d (fresh refl) in
    let old_none : old ≡ None = o ∙ ap (place_at_number (drop from tokens)) (unnamed_none done none) in
    ap (λ (x : Option Place). option_or x new) old_none ∙ n
    ∙ ap (λ (x : List Token). place_at_number x (before_tag (MoreSpecs s NoSpec)))
    (sym (past_text (specs_text done) (specs_append done) tokens from next sp))
    ∙ sym (shifted (drop from tokens) (length (specs_text done [])) (before_tag (MoreSpecs s NoSpec)))
    ∙ ap (place_at_number (drop from tokens)) (sym (unnamed_more done (MoreSpecs s NoSpec) none))
tag_more names so_far done s false tokens from next old new is fresh d sp o n =
    let new_none : new ≡ None = n ∙ ap (place_at_number (drop next tokens)) (unsettled_none s is) in
    ap (option_or old) new_none ∙ or_none old ∙ o ∙ ap (place_at_number (drop from tokens)) (sym (unsettled_more done s is))

-- the words so far are placed, and so is their tag
pub record SpecsPlaced (tokens : List Token) (from next : ℕ) (items : List SpecWord) (tag : Option Place) : Type 0 where
  pub inside : SidePlaced IsSpecPlaced (λ w. spec_text (spec w)) tokens from items next
  pub tag_is : tag ≡ tag_place (specs_list items) (drop from tokens)

pub specs_begun : (tokens : List Token) (from : ℕ) → SpecsPlaced tokens from from [] None
specs_begun tokens from = record { inside = side_begun IsSpecPlaced (λ w. spec_text (spec w)) tokens from; tag_is = refl }

pub spec_framed : (w : SpecWord) → IsFramed (spec_text (spec w))
spec_framed w = spec_append (spec w)

-- one more word
pub specs_go_on : (names : Names) (so_far : TypeSoFar) (tokens : List Token) (from next : ℕ) (items more : List SpecWord) (found : NextWord)
    (old joined : Option Place) → SpecsPlaced tokens from next items old → Spells tokens from next (specs_text (specs_list items))
    → Describes names so_far (words_of (specs_list items)) → Spells tokens next found.next (spec_text (spec found.word))
    → IsWordThere tokens next so_far (Some found) → joined ≡ option_or old found.tag → more ≡ items ++ found.word ∷ []
    → SpecsPlaced tokens from found.next more joined
specs_go_on names so_far tokens from next items more found old joined p sp d one w j is = record {
  inside = side_goes_on IsSpecPlaced (λ w. spec_text (spec w)) spec_framed tokens from items more next found.word found.next p.inside is one w.0.inside;
  tag_is =
      j ∙ tag_more names so_far (specs_list items) (spec found.word) (settles (spec found.word)) tokens from next old found.tag refl w.1 d sp p.tag_is w.0.tag
      ∙ ap (λ (x : Specs). tag_place x (drop from tokens)) (sym (list_more items found.word) ∙ sym (ap specs_list is));
}

plain_words_of : (ws : List TypeWord) → words_of (specs_of ws) ≡ ws
plain_words_of [] = refl
plain_words_of (w ∷ ws) = ap (λ (x : List TypeWord). w ∷ x) (plain_words_of ws)

-- one more word inside a block
pub block_specs_go_on : (names : Names) (so_far : TypeSoFar) (tokens : List Token) (from next : ℕ) (items more : List SpecWord) (found : NextWord)
    (one : TypeWord) (old joined : Option Place) → SpecsPlaced tokens from next items old → WordsSoFar names tokens from next so_far items
    → found.word ≡ words.TheVariants.Plain one → Spells tokens next found.next (type_word_text one) → IsWordThere tokens next so_far (Some found)
    → joined ≡ option_or old found.tag → more ≡ items ++ found.word ∷ [] → SpecsPlaced tokens from found.next more joined
block_specs_go_on names so_far tokens from next items more found one old joined p so sp_is sp w j is =
    specs_go_on names so_far tokens from next items more found old joined p
    (subst (λ (x : Specs). Spells tokens from next (specs_text x)) (sym so.items_are)
    (spells_as tokens from next (words_text so.all) (specs_text (specs_of so.all)) so.spelled (λ rest. sym (plain_text so.all rest))))
    (subst (λ (x : Specs). Describes names so_far (words_of x)) (sym so.items_are) (subst (Describes names so_far) (sym (plain_words_of so.all)) so.described))
    (subst (λ (x : SpecWord). Spells tokens next found.next (spec_text (spec x))) (sym sp_is) sp) w j is

-- a word of one token
pub plain_there : (tokens : List Token) (at : ℕ) (so_far : TypeSoFar) (found : NextWord) (one : TypeWord) → found.word ≡ words.TheVariants.Plain one
    → has_tag one ≡ false → found.tag ≡ None → IsWordThere tokens at so_far (Some found)
plain_there tokens at so_far found one is untagged none = (
  record {
    inside = subst (λ (x : SpecWord). IsSpecPlaced x (drop at tokens)) (sym is) tt;
    tag = none ∙ sym (ap (λ (x : SpecWord). tag_place (MoreSpecs (spec x) NoSpec) (drop at tokens)) is
        ∙ ap (place_at_number (drop at tokens)) (unsettled_none (Plain one) untagged));
  },
  λ settled. absurd (false≢true (sym untagged ∙ sym (ap (λ (x : SpecWord). settles (spec x)) is) ∙ settled)),
)

-- `static`
pub static_there : (tokens : List Token) (at : ℕ) (so_far : TypeSoFar) (found : NextWord) → found.word ≡ words.TheVariants.Static → found.tag ≡ None
    → IsWordThere tokens at so_far (Some found)
static_there tokens at so_far found is none = (
  record {
    inside = subst (λ (x : SpecWord). IsSpecPlaced x (drop at tokens)) (sym is) tt;
    tag = none ∙ sym (ap (λ (x : SpecWord). tag_place (MoreSpecs (spec x) NoSpec) (drop at tokens)) is);
  },
  λ settled. absurd (false≢true (sym (ap (λ (x : SpecWord). settles (spec x)) is) ∙ settled)),
)

tag_number : (is_struct : Bool) (tag : List ℕ) → before_tag (MoreSpecs (Plain (word_of_tag is_struct tag)) NoSpec) ≡ Some 1
tag_number true tag = refl
tag_number false tag = refl

tag_inside : (is_struct : Bool) (tag : List ℕ) (tokens : List Token) → IsSpecPlaced (words.TheVariants.Plain (word_of_tag is_struct tag)) tokens
tag_inside is_struct tag tokens = tt

tag_stands : (tokens : List Token) (at : ℕ) (place : Place) → StandsAt place (drop (at + 1) tokens)
    → Some place ≡ place_at_number (drop at tokens) (Some 1)
tag_stands tokens at place stands =
    place_stands (drop at tokens) 1 place (slice_get (drop at tokens) 1) refl (subst (StandsAt place) (sym (one_after tokens at)) stands)

-- `struct` or `enum` with a tag
pub tagged_placed : (tokens : List Token) (at : ℕ) (is_struct : Bool) (tag : List ℕ) (place : Place) (found : NextWord)
    → found.word ≡ words.TheVariants.Plain (word_of_tag is_struct tag) → found.tag ≡ Some place → StandsAt place (drop (at + 1) tokens)
    → IsWordPlaced tokens at found
tagged_placed tokens at is_struct tag place found is reported stands = record {
  inside = subst (λ (x : SpecWord). IsSpecPlaced x (drop at tokens)) (sym is) (tag_inside is_struct tag (drop at tokens));
  tag =
      reported ∙ tag_stands tokens at place stands
      ∙ sym (ap (λ (x : SpecWord). tag_place (MoreSpecs (spec x) NoSpec) (drop at tokens)) is
      ∙ ap (place_at_number (drop at tokens)) (tag_number is_struct tag));
}

-- the first token inside a body
pub body_begins : (tokens : List Token) (at brace : ℕ) (is_struct : Bool) (tag : Option (List ℕ))
    → Spells tokens at brace (λ rest. tag_keyword is_struct ∷ name_text tag rest) → in_body tag (drop at tokens) ≡ drop (brace + 1) tokens
body_begins tokens at brace is_struct tag sp =
    let n = refused_number tokens at brace (tag_keyword is_struct ∷ name_text tag [])
    (spells_as tokens at brace (λ rest. tag_keyword is_struct ∷ name_text tag rest) (λ rest. (tag_keyword is_struct ∷ name_text tag []) ++ rest) sp
    (λ rest. ap (λ (x : Kinds). tag_keyword is_struct ∷ x) (sym (name_append tag [] rest)))) in
    let e : at + (length (name_text tag []) + 2) ≡ brace + 1 = omega (arith, n) in
    drop-drop (length (name_text tag []) + 2) at tokens ∙ ap (λ (x : ℕ). drop x tokens) e

body_number : (tag : Option RawName) (s : Spec) → before_tag (MoreSpecs s NoSpec) ≡ option_map (λ n. 1) tag
    → (tokens : List Token) (at : ℕ) → IsNamePlaced tag (drop (at + 1) tokens) → place_in tag ≡ tag_place (MoreSpecs s NoSpec) (drop at tokens)
body_number None s b tokens at named = sym (ap (place_at_number (drop at tokens)) b)
body_number (Some name) s b tokens at named = tag_stands tokens at name.place named ∙ sym (ap (place_at_number (drop at tokens)) b)

struct_number : (tag : Option RawName) (members : Members) → before_tag (MoreSpecs (StructBody (name_in tag) members) NoSpec) ≡ option_map (λ n. 1) tag
struct_number None members = refl
struct_number (Some name) members = refl

enum_number : (tag : Option RawName) (constants : List Constant) (comma : Bool)
    → before_tag (MoreSpecs (EnumBody (name_in tag) constants comma) NoSpec) ≡ option_map (λ n. 1) tag
enum_number None constants comma = refl
enum_number (Some name) constants comma = refl

-- a structure with its body
pub struct_placed : (tokens : List Token) (at : ℕ) (tag : Option RawName) (members : Members) (found : NextWord)
    → spec found.word ≡ StructBody (name_in tag) members → found.tag ≡ place_in tag → IsNamePlaced tag (drop (at + 1) tokens)
    → IsSpecPlaced found.word (drop at tokens) → IsWordPlaced tokens at found
struct_placed tokens at tag members found is reported named inside = record {
  inside = inside;
  tag = reported ∙ body_number tag (spec found.word) (ap (λ (x : Spec). before_tag (MoreSpecs x NoSpec)) is ∙ struct_number tag members) tokens at named;
}

-- an enumeration with its body
pub enum_placed : (tokens : List Token) (at : ℕ) (tag : Option RawName) (constants : List Constant) (comma : Bool) (found : NextWord)
    → spec found.word ≡ EnumBody (name_in tag) constants comma → found.tag ≡ place_in tag → IsNamePlaced tag (drop (at + 1) tokens)
    → IsSpecPlaced found.word (drop at tokens) → IsWordPlaced tokens at found
enum_placed tokens at tag constants comma found is reported named inside = record {
  inside = inside;
  tag = reported ∙ body_number tag (spec found.word) (ap (λ (x : Spec). before_tag (MoreSpecs x NoSpec)) is ∙ enum_number tag constants comma) tokens at
      named;
}

specs_in : (n : _) (row : words.Row_of-SpecWord n) (list : List Token)
    → AreSideBySide IsSpecPlaced (λ w. spec_text (spec w)) (words.items-the_row-SpecWord n row) list → AreSpecsPlaced row list
specs_in n words.end_of-SpecWord list a = tt
specs_in n (words.more_of-SpecWord first others) list a = (a.0, specs_in _ others (past (spec_text (spec first)) list) a.1)

declarators_framed : (m : RawMember) → IsFramed (with_commas declarator_text (map declarator m.declarators.items))
declarators_framed m = with_commas_append declarator_text declarator_append (map declarator m.declarators.items)

pub group_framed : (m : RawMember) → IsFramed (group_text m)
group_framed m x y =
    specs_append (specs m.specs) (with_commas declarator_text (map declarator m.declarators.items) (token.Punctuator punctuator.Semicolon ∷ x)) y
    ∙ ap (specs_text (specs m.specs)) (declarators_framed m (token.Punctuator punctuator.Semicolon ∷ x) y)

-- the declarators after specifiers
pub declarators_after : (s : RawSpecs) (list : List RawDeclarator) (tokens : List Token) (from next : ℕ) → Spells tokens from next (specs_text (specs s))
    → AreDeclaratorsPlaced list (drop next tokens) → AreDeclaratorsPlaced list (past (specs_text (specs s)) (drop from tokens))
declarators_after s list tokens from next sp has =
    after_text (AreDeclaratorsPlaced list) (specs_text (specs s)) (specs_append (specs s)) tokens from next sp has

-- after members of one type
past_group : (m : RawMember) (list : List Token)
    → past (group_text m) list ≡ drop 1 (past (with_commas declarator_text (map declarator m.declarators.items)) (past (specs_text (specs m.specs)) list))
past_group m list =
    past_both (specs_text (specs m.specs)) (λ rest.
    with_commas declarator_text (map declarator m.declarators.items) (token.Punctuator punctuator.Semicolon ∷ rest)) (specs_append (specs m.specs)) list
    ∙ past_both (with_commas declarator_text (map declarator m.declarators.items)) (λ rest. token.Punctuator punctuator.Semicolon ∷ rest)
    (declarators_framed m) (past (specs_text (specs m.specs)) list)

-- the first of some groups, and the others after it
abbrev FirstAndOthers : List RawMember → List Token → Type 0
FirstAndOthers [] list = Unit {0}
FirstAndOthers (m ∷ others) list =
    (m.specs.tag ≡ tag_place (specs m.specs) list) × AreSideBySide IsSpecPlaced (λ w. spec_text (spec w)) m.specs.words.items list
    × AreDeclaratorsPlaced m.declarators.items (past (specs_text (specs m.specs)) list)
    × AreGroupsPlaced others (drop 1 (past (with_commas declarator_text (map declarator m.declarators.items)) (past (specs_text (specs m.specs)) list)))

first_and_others : (all : List RawMember) (list : List Token) → AreGroupsPlaced all list → FirstAndOthers all list
first_and_others [] list a = tt
first_and_others (m ∷ others) list a = (a.0.0.tag, a.0.0.inside, a.0.1, subst (AreGroupsPlaced others) (past_group m list) a.1)

members_in : (n : _) (row : words.Row_of-RawMember n) (list : List Token) → AreGroupsPlaced (words.items-the_row-RawMember n row) list
    → AreMembersPlaced row list
members_in n words.end_of-RawMember list a = tt
members_in n (words.more_of-RawMember shape row tag declarators others) list a =
    let shown = words.items_shown-the_row-SpecWord-0 shape row in
    let same : specs_list _ ≡ specs_row row = ap specs_list shown ∙ specs-row _ row in
    let parts = first_and_others (words.items-the_row-RawMember _ (words.more_of-RawMember shape row tag declarators others)) list a in (
      parts.0 ∙ ap (λ (x : Specs). tag_place x list) same,
      specs_in _ row list (subst (λ (x : List SpecWord). AreSideBySide IsSpecPlaced (λ w. spec_text (spec w)) x list) shown parts.1),
      subst (λ (x : Specs). AreDeclaratorsPlaced declarators.items (past (specs_text x) list)) same parts.2,
      members_in _ others (drop 1 (past (with_commas declarator_text (map declarator declarators.items)) (past (specs_text (specs_row row)) list)))
          (subst (λ (x : Specs).
          AreGroupsPlaced (words.items-the_row-RawMember _ others)
          (drop 1 (past (with_commas declarator_text (map declarator declarators.items)) (past (specs_text x) list)))) same parts.3),
    )

abbrev members_of : SpecWord → (n : Count) × words.Row_of-RawMember n
members_of (words.TheVariants.Struct' tag shape row) = (_, row)
members_of _ = (_, words.end_of-RawMember)

-- the members of a structure
pub struct_inside : (tag name : Option (List ℕ)) (list : Vec RawMember Global) (tokens : List Token) → name ≡ tag
    → AreGroupsPlaced list.items (in_body tag tokens) → IsSpecPlaced (words.TheVariants.Struct name list) tokens
struct_inside tag name list tokens is a =
    let row = members_of (words.TheVariants.Struct name list) in
    members_in row.0 row.1 (in_body name tokens)
    (subst (λ (x : List RawMember). AreGroupsPlaced x (in_body name tokens)) (sym (words.items_hidden-the_row-RawMember-1 list))
    (subst (λ (x : Option (List ℕ)). AreGroupsPlaced list.items (in_body x tokens)) (sym is) a))

-- the constants of an enumeration
pub enum_inside : (tag name : Option (List ℕ)) (list : Vec RawEnumerator Global) (comma : Bool) (tokens : List Token) → name ≡ tag
    → AreInRow IsConstantPlaced (λ e. constant_text (constant e)) list.items (in_body tag tokens)
    → IsSpecPlaced (words.TheVariants.Enum name list comma) tokens
enum_inside tag name list comma tokens is a =
    subst (λ (x : Option (List ℕ)). AreInRow IsConstantPlaced (λ e. constant_text (constant e)) list.items (in_body x tokens)) (sym is) a

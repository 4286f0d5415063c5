-- Specifiers inside a block: the result of each return. For the contracts of `block_specs` and its parts.
use Rattle.std.proofs.Common.{◌≡◌, ℕ, ◌+◌, ◌≤◌, inl, inr, Bool, true, false, if◌then◌else◌, None, Err, List, [], ◌∷◌, ◌++◌}
use Rattle.std.proofs.Common.{length, refl, sym, ap, ◌∙◌, subst, arith}
use Rattle.std.proofs.lemmas.Bool.{false≢true}
use Rattle.cs_ast.specs.declared.token.Token.{Token}
use Rattle.cs_ast.specs.declared.token.TokenKind.{TokenKind}
use Rattle.cs_ast.specs.declared.token.TokenKind.TheVariants as token
use Rattle.cs_ast.specs.declared.token.Keyword.TheVariants as keyword
use Rattle.cs_ast.specs.declared.token.Punctuator.TheVariants as punctuator
use Rattle.cs_ast.specs.declared.raw.declaration.RawSpecs.{RawSpecs}
use Rattle.cs_ast.specs.declared.raw.declaration.SpecWord.{SpecWord}
use Rattle.cs_ast.specs.declared.raw.declaration.SpecWord.TheVariants as words
use Rattle.cs_ast.specs.declared.raw.written_type.TypeWord.{TypeWord}
use Rattle.cs_ast.specs.declared.raw.written_type.TypeWord.TheVariants as word
use Rattle.cs_ast.specs.declared.raw.written_type.IntegerWord.TheVariants.{Char, Short, Int, Long, Signed, Unsigned}
use Rattle.cs_ast.specs.RawDeclarations.{Spec, Plain, Specs, NoSpec, MoreSpecs}
use Rattle.cs_ast.specs.RawDeclarationView.{spec, specs, specs_list}
use Rattle.cs_ast.specs.RawFileHeight.{specs_height}
use Rattle.cs_grammar.specs.declared.refusal.Reason.{Reason}
use Rattle.cs_grammar.specs.declared.type_words.TypeSoFar.{TypeSoFar}
use Rattle.cs_grammar.specs.declared.type_words.TypeSoFar.TheVariants.{Nothing}
use Rattle.cs_grammar.specs.TypeWords.{Names, named_by, names_type, is_type}
use Rattle.cs_grammar.specs.TypesSoFar.{Describes}
use Rattle.cs_grammar.specs.Text.{Kinds, type_word_text, words_text}
use Rattle.cs_grammar.specs.FileText.{specs_text}
use Rattle.cs_grammar.specs.Parsing.{Took, Refused}
use Rattle.cs_grammar.specs.DeclarationClasses.{BlockSpecs}
use Rattle.cs_grammar.proofs.Texts.{words_append}
use Rattle.cs_grammar.proofs.WordsOfTypes.{named_more}
use Rattle.cs_grammar.proofs.FileBeginnings.{specs_of, plain_text}
use Rattle.cs_grammar.proofs.TypeNames.{first_token, IsStuckAt, MayGoOn, block_specs_took, block_specs_refused, block_tag_refused, tag_word, words_split}
use Rattle.cs_expr_parser.specs.Positions.{kind_or_end, name_of}
use Rattle.cs_expr_parser.specs.Parts.{Spells, IsRefused, is_deep}
use Rattle.cs_expr_parser.specs.Words.{first_of_word, IsStuck, names_some, word_of_tag, IsTagMissing}
use Rattle.cs_declarator_parser.specs.declared.source.Scope.TheVariants.{Block}
use Rattle.cs_declarator_parser.specs.declared.specs.NextWord.{NextWord}
use Rattle.cs_expr_parser.specs.declared.stop.Stop.{Stop}
use Rattle.cs_expr_parser.specs.declared.stop.Stop.TheVariants as stop
use Rattle.cs_declarator_parser.specs.declared.stop.Taken.{Taken}
use Rattle.cs_declarator_parser.specs.Reasons.{plain_reason}
use Rattle.cs_declarator_parser.specs.Answers.{StopsOrBrace, IsTaken, IsBraceRefused}
use Rattle.cs_declarator_parser.specs.SpecWords.{NothingFits, IsPlainWord, IsTagBraced, BlockTagStops, BlockWordAnswer, tag_keyword}
use Rattle.cs_expr_parser.proofs.Standing.{spells_one, spells_none, spells_more, spells_as}
use Rattle.cs_declarator_parser.proofs.PartStops.{plain_flat}
use Rattle.cs_expr_parser.proofs.SitesOfWords.{some_type, nothing_named}

-- the words so far
pub record WordsSoFar (names : Names) (tokens : List Token) (from next : ℕ) (so_far : TypeSoFar) (items : List SpecWord) : Type 0 where
  pub all : List TypeWord
  pub items_are : specs_list items ≡ specs_of all
  pub spelled : Spells tokens from next (words_text all)
  pub described : Describes names so_far all

pub words_none : (names : Names) (tokens : List Token) (from : ℕ) → from ≤ length tokens → WordsSoFar names tokens from from Nothing []
words_none names tokens from within = record { all = []; items_are = refl; spelled = spells_none tokens from within; described = refl }

one_more : (items : List SpecWord) (ws : List TypeWord) (found : SpecWord) (one : TypeWord) → specs_list items ≡ specs_of ws → found ≡ words.Plain one
    → specs_list (items ++ found ∷ []) ≡ specs_of (ws ++ one ∷ [])
one_more [] [] found one e w = ap (λ (x : SpecWord). MoreSpecs (spec x) NoSpec) w
one_more [] (v ∷ ws) found one e w = absurd cc
one_more (i ∷ is) [] found one e w = absurd cc
one_more (i ∷ is) (v ∷ ws) found one e w =
    let first : spec i ≡ Plain v = cc in
    let rest : specs_list is ≡ specs_of ws = cc in
    ap (λ (x : Spec). MoreSpecs x (specs_list (is ++ found ∷ []))) first ∙ ap (MoreSpecs (Plain v)) (one_more is ws found one rest w)

text_more : (ws : List TypeWord) (one : TypeWord) (rest : Kinds) → words_text (ws ++ one ∷ []) rest ≡ words_text ws (type_word_text one rest)
text_more ws one rest = words_split ws (one ∷ []) rest

pub word_more : (names : Names) (tokens : List Token) (from next : ℕ) (so_far : TypeSoFar) (items more : List SpecWord) (found : NextWord) (one : TypeWord)
    → WordsSoFar names tokens from next so_far items → IsPlainWord names tokens next so_far found one → more ≡ items ++ found.word ∷ []
    → WordsSoFar names tokens from found.next found.so_far more
word_more names tokens from next so_far items more found one w p is = record {
  all = w.all ++ one ∷ [];
  items_are = ap specs_list is ∙ one_more items w.all found.word one w.items_are p.word_is;
  spelled =
      spells_as tokens from found.next (λ rest. words_text w.all (type_word_text one rest)) (words_text (w.all ++ one ∷ []))
      (spells_more tokens from next found.next (words_text w.all) (type_word_text one) w.spelled p.spelled)
      (λ rest. sym (text_more w.all one rest));
  described = p.described w.all w.described;
}

same_first : (w : TypeWord) → first_token w ≡ first_of_word w
same_first word.Const = refl
same_first word.Void = refl
same_first (word.Integer Char) = refl
same_first (word.Integer Short) = refl
same_first (word.Integer Int) = refl
same_first (word.Integer Long) = refl
same_first (word.Integer Signed) = refl
same_first (word.Integer Unsigned) = refl
same_first (word.Typedef name) = refl
same_first (word.Struct tag) = refl
same_first (word.Enum tag) = refl

pub stuck_at : (names : Names) (ws : List TypeWord) (next : TokenKind) → IsStuck names ws next → IsStuckAt names ws next
stuck_at names ws next stuck one more e = stuck one more (sym (same_first one) ∙ e)

-- words that name nothing can be continued to a type
pub goes_on_with : (names : Names) (ws : List TypeWord) → named_by ws ≡ [] → MayGoOn names ws
goes_on_with names ws none =
    (word.Void ∷ [], ap (names_type names) (named_more ws (word.Void ∷ []) ∙ ap (λ (x : List TypeWord). x ++ word.Void ∷ []) none))

-- the words name no type, and no word that begins with the token fits
pub words_stop : (names : Names) (limit : ℕ) → 1 ≤ limit
    → (tokens : List Token) (from next : ℕ) (so_far : TypeSoFar) (items : List SpecWord) (s : Stop) → WordsSoFar names tokens from next so_far items
    → names_some so_far ≡ false → NothingFits names so_far (kind_or_end tokens next)
    → s ≡ stop.Refused next (plain_reason Block (kind_or_end tokens next)) → StopsOrBrace (BlockSpecs names) limit tokens from s
words_stop names limit some tokens from next so_far items s w none stuck is =
    let n = nothing_named names so_far w.all w.described none in
    subst (StopsOrBrace (BlockSpecs names) limit tokens from) (sym is) (inl (record {
      front = words_text w.all [];
      spelled = spells_as tokens from next (words_text w.all) (λ rest. words_text w.all [] ++ rest) w.spelled (λ rest. sym (words_append w.all [] rest));
      refused =
          subst (λ (d : Bool). Refused (BlockSpecs names) limit (words_text w.all []) (kind_or_end tokens next) d)
          (sym (plain_flat Block (kind_or_end tokens next)))
          (block_specs_refused names limit w.all (kind_or_end tokens next) some (ap (names_type names) n) (goes_on_with names w.all n)
          (stuck_at names w.all (kind_or_end tokens next) (stuck w.all w.described)));
    }))

tag_kw : (is_struct : Bool) → token.Keyword (if is_struct then keyword.Struct else keyword.Enum) ≡ tag_word is_struct
tag_kw true = refl
tag_kw false = refl

no_name : (next : TokenKind) → name_of next ≡ None → (n : List ℕ) → next ≡ token.Name n → ⊥
no_name next none n e = let z = sym (ap name_of e) ∙ none in cc

tag_word_some : (is_struct : Bool) → tag_word is_struct ≡ token.Attribute → ⊥
tag_word_some true e = cc
tag_word_some false e = cc

missing_tag : (names : Names) (limit : ℕ) → 1 ≤ limit
    → (tokens : List Token) (from next refused : ℕ) (reason : Reason) (so_far : TypeSoFar) (items : List SpecWord)
    → WordsSoFar names tokens from next so_far items → names_some so_far ≡ false → is_deep reason ≡ false → IsTagMissing tokens next refused
    → IsRefused (BlockSpecs names) limit tokens from refused reason
missing_tag names limit some tokens from next refused reason so_far items w none plain m =
    let k : kind_or_end tokens next ≡ tag_word m.is_struct = m.stands ∙ tag_kw m.is_struct in
    subst (λ (n : ℕ). IsRefused (BlockSpecs names) limit tokens from n reason) (sym m.refused_is) (record {
      front = words_text w.all (tag_word m.is_struct ∷ []);
      spelled =
          spells_as tokens from (next + 1) (λ rest. words_text w.all (tag_word m.is_struct ∷ rest))
          (λ rest. words_text w.all (tag_word m.is_struct ∷ []) ++ rest)
          (spells_more tokens from next (next + 1) (words_text w.all) (λ rest. tag_word m.is_struct ∷ rest) w.spelled
          (spells_one tokens next (tag_word m.is_struct) k (tag_word_some m.is_struct)))
          (λ rest. sym (words_append w.all (tag_word m.is_struct ∷ []) rest));
      refused =
          subst (λ (d : Bool). Refused (BlockSpecs names) limit (words_text w.all (tag_word m.is_struct ∷ [])) (kind_or_end tokens (next + 1)) d) (sym plain)
          (block_tag_refused names limit w.all m.is_struct (kind_or_end tokens (next + 1)) some (nothing_named names so_far w.all w.described none)
          (no_name (kind_or_end tokens (next + 1)) m.none));
    })

no_brace_word : (one : TypeWord) → first_of_word one ≡ token.Punctuator punctuator.OpenBrace → ⊥
no_brace_word word.Const e = cc
no_brace_word word.Void e = cc
no_brace_word (word.Integer Char) e = cc
no_brace_word (word.Integer Short) e = cc
no_brace_word (word.Integer Int) e = cc
no_brace_word (word.Integer Long) e = cc
no_brace_word (word.Integer Signed) e = cc
no_brace_word (word.Integer Unsigned) e = cc
no_brace_word (word.Typedef name) e = cc
no_brace_word (word.Struct tag) e = cc
no_brace_word (word.Enum tag) e = cc

tag_type : (names : Names) (ws : List TypeWord) (is_struct : Bool) (tag : List ℕ) → named_by ws ≡ []
    → is_type names (ws ++ word_of_tag is_struct tag ∷ []) ≡ true
tag_type names ws true tag none =
    ap (names_type names) (named_more ws (word.Struct tag ∷ []) ∙ ap (λ (x : List TypeWord). x ++ word.Struct tag ∷ []) none)
tag_type names ws false tag none = ap (names_type names) (named_more ws (word.Enum tag ∷ []) ∙ ap (λ (x : List TypeWord). x ++ word.Enum tag ∷ []) none)

tag_reads : (ws : List TypeWord) (is_struct : Bool) (tag : List ℕ) (rest : Kinds)
    → words_text ws (tag_keyword is_struct ∷ token.Name tag ∷ rest) ≡ specs_text (specs_of (ws ++ word_of_tag is_struct tag ∷ [])) rest
tag_reads ws true tag rest = sym (plain_text (ws ++ word.Struct tag ∷ []) rest ∙ words_split ws (word.Struct tag ∷ []) rest)
tag_reads ws false tag rest = sym (plain_text (ws ++ word.Enum tag ∷ []) rest ∙ words_split ws (word.Enum tag ∷ []) rest)

braced_tag : (names : Names) (limit : ℕ) → 1 ≤ limit
    → (tokens : List Token) (from next refused : ℕ) (reason : Reason) (so_far : TypeSoFar) (items : List SpecWord)
    → WordsSoFar names tokens from next so_far items → names_some so_far ≡ false → is_deep reason ≡ false → IsTagBraced tokens next refused
    → IsBraceRefused (BlockSpecs names) limit tokens from refused reason
braced_tag names limit some tokens from next refused reason so_far items w none plain b = record {
  phrase = specs_of (w.all ++ word_of_tag b.is_struct b.tag ∷ []);
  spelled =
      spells_as tokens from refused (λ rest. words_text w.all (tag_keyword b.is_struct ∷ token.Name b.tag ∷ rest))
      (specs_text (specs_of (w.all ++ word_of_tag b.is_struct b.tag ∷ [])))
      (spells_more tokens from next refused (words_text w.all) (λ rest. tag_keyword b.is_struct ∷ token.Name b.tag ∷ rest) w.spelled b.spelled)
      (tag_reads w.all b.is_struct b.tag);
  brace = b.brace;
  took =
      subst (λ (d : Bool). Took (BlockSpecs names) limit (specs_of (w.all ++ word_of_tag b.is_struct b.tag ∷ [])) (token.Punctuator punctuator.OpenBrace) d)
      (sym plain)
      (block_specs_took names limit (w.all ++ word_of_tag b.is_struct b.tag ∷ []) (token.Punctuator punctuator.OpenBrace) some
      (tag_type names w.all b.is_struct b.tag (nothing_named names so_far w.all w.described none))
      (stuck_at names (w.all ++ word_of_tag b.is_struct b.tag ∷ []) (token.Punctuator punctuator.OpenBrace) (λ one more e. absurd (no_brace_word one e))));
}

-- `struct` or `enum` was refused
pub tag_stops : (names : Names) (limit : ℕ) → 1 ≤ limit
    → (tokens : List Token) (from next : ℕ) (so_far : TypeSoFar) (items : List SpecWord) (s : Stop) → WordsSoFar names tokens from next so_far items
    → names_some so_far ≡ false → BlockTagStops tokens next s → StopsOrBrace (BlockSpecs names) limit tokens from s
tag_stops names limit some tokens from next so_far items stop.Memory w none b = tt
tag_stops names limit some tokens from next so_far items (stop.Refused refused reason) w none b =
    elim b.1 [
      | inl m ↦ inl (missing_tag names limit some tokens from next refused reason so_far items w none b.0 m)
      | inr t ↦ inr (braced_tag names limit some tokens from next refused reason so_far items w none b.0 t)
    ]

pub word_stops : (names : Names) (limit : ℕ) → 1 ≤ limit
    → (tokens : List Token) (from next : ℕ) (so_far : TypeSoFar) (items : List SpecWord) (s : Stop) → WordsSoFar names tokens from next so_far items
    → BlockWordAnswer names tokens next so_far (Err s) → StopsOrBrace (BlockSpecs names) limit tokens from s
word_stops names limit some tokens from next so_far items stop.Memory w b = tt
word_stops names limit some tokens from next so_far items (stop.Refused refused reason) w b =
    tag_stops names limit some tokens from next so_far items (stop.Refused refused reason) w b.0 b.1

plain_height : (w : TypeWord) (ws : List TypeWord) → specs_height (specs_of (w ∷ ws)) ≡ 1
plain_height w [] = omega arith
plain_height w (v ∷ ws) = let h = plain_height v ws in omega (arith, h)

some_height : (ws : List TypeWord) (names : Names) → is_type names ws ≡ true → specs_height (specs_of ws) ≡ 1
some_height [] names type = absurd (false≢true type)
some_height (w ∷ ws) names type = plain_height w ws

-- the words are those of a type
pub words_taken : (names : Names) (limit : ℕ) → 1 ≤ limit
    → (tokens : List Token) (from next : ℕ) (so_far : TypeSoFar) (taken : Taken RawSpecs)
    → WordsSoFar names tokens from next so_far taken.tree.words.items → names_some so_far ≡ true → NothingFits names so_far (kind_or_end tokens next)
    → taken.height ≡ 1 → taken.next ≡ next → IsTaken (BlockSpecs names) specs limit tokens from false taken
words_taken names limit some tokens from next so_far taken w named stuck tall number =
    let type = some_type names so_far w.all w.described named in
    record {
      height_is = tall ∙ sym (ap specs_height w.items_are ∙ some_height w.all names type);
      spelled =
          subst (λ (n : ℕ). Spells tokens from n (specs_text (specs taken.tree))) (sym number)
          (subst (λ (x : Specs). Spells tokens from next (specs_text x)) (sym w.items_are)
          (spells_as tokens from next (words_text w.all) (specs_text (specs_of w.all)) w.spelled (λ rest. sym (plain_text w.all rest))));
      took =
          subst (λ (n : ℕ). Took (BlockSpecs names) limit (specs taken.tree) (kind_or_end tokens n) false) (sym number)
          (subst (λ (x : Specs). Took (BlockSpecs names) limit x (kind_or_end tokens next) false) (sym w.items_are)
          (block_specs_took names limit w.all (kind_or_end tokens next) some type (stuck_at names w.all (kind_or_end tokens next) (stuck w.all w.described))));
    }

-- Words of pointers, names and declarators: the result of each return. For the contracts of the parts that parse declarators.
use Rattle.std.proofs.Common.{◌≡◌, ℕ, zero, suc, ◌+◌, ◌<◌, ◌≤◌, max, inl, inr, Bool, true, false, ◌&&◌, IsTrue, Option, Some, None}
use Rattle.std.proofs.Common.{List, [], ◌∷◌, ◌++◌, Err, length, refl, sym, ap, ◌∙◌, subst, arith}
use Rattle.std.specs.Option.{option_map}
use Rattle.std.proofs.lemmas.Bool.{false≢true, cases_lt, eqb-true}
use Rattle.std.proofs.lemmas.List.{map-append}
use Rattle.cs_ast.specs.declared.token.Token.{Token}
use Rattle.cs_ast.specs.declared.token.TokenKind.{TokenKind}
use Rattle.cs_ast.specs.declared.token.TokenKind.TheVariants as token
use Rattle.cs_ast.specs.declared.token.Keyword.TheVariants as keyword
use Rattle.cs_ast.specs.declared.token.Punctuator.TheVariants as punctuator
use Rattle.cs_ast.specs.declared.raw.declaration.RawDeclarator.{RawDeclarator}
use Rattle.cs_ast.specs.declared.raw.expression.RawExpr.{RawExpr}
use Rattle.cs_ast.specs.declared.raw.written_type.PointerWord.{PointerWord}
use Rattle.cs_ast.specs.declared.raw.written_type.PointerWord.TheVariants as pointer
use Rattle.cs_ast.specs.RawTree.{Written}
use Rattle.cs_ast.specs.RawView.{written}
use Rattle.cs_ast.specs.RawDeclarations.{Declarator}
use Rattle.cs_ast.specs.RawDeclarationView.{bounds_of, declarator}
use Rattle.cs_ast.specs.RawFileHeight.{height_of_some, highest_by, declarator_height}
use Rattle.cs_grammar.specs.declared.refusal.Reason.{Reason}
use Rattle.cs_grammar.specs.TypeWords.{Names, is_pointer}
use Rattle.cs_grammar.specs.Text.{Kinds, pointers_text, pointer_word_text}
use Rattle.cs_grammar.specs.FileText.{brackets_text, declarator_text}
use Rattle.cs_grammar.specs.Parsing.{Took, Refused}
use Rattle.cs_grammar.specs.Composed.{ClosedSome, Separated}
use Rattle.cs_grammar.specs.DeclarationClasses.{Bounds, Brackets}
use Rattle.cs_grammar.proofs.Texts.{pointers_append}
use Rattle.cs_grammar.proofs.Tails.{first_or, none_refused, Least}
use Rattle.cs_grammar.proofs.Pairs.{Single}
use Rattle.cs_grammar.proofs.Rows.{Separates}
use Rattle.cs_grammar.proofs.Optional.{some_least}
use Rattle.cs_grammar.proofs.StatementParts.{nought, expression_height}
use Rattle.cs_grammar.proofs.DeclaredObjects.{semicolon_differs}
use Rattle.cs_grammar.proofs.FreshNames.{fresh, fresh_free}
use Rattle.cs_grammar.proofs.Declarators.{BracketsSoFar, brackets_none, brackets_more, brackets_refused, brackets_end, brackets_full, brackets_took}
use Rattle.cs_grammar.proofs.Declarators.{brackets_law, declarator_of, declarator_single, declarators_law, declarators_least, name_missing, bound_refused}
use Rattle.cs_grammar.proofs.Declarators.{bound_exact}
use Rattle.cs_expr_parser.specs.Positions.{kind_or_end}
use Rattle.cs_expr_parser.specs.Parts.{Spells, IsRefused}
use Rattle.cs_expr_parser.proofs.Standing.{spells_one, spells_none, spells_more, spells_as}
use Rattle.cs_expr_parser.specs.declared.stop.Stop.{Stop}
use Rattle.cs_expr_parser.specs.declared.stop.Stop.TheVariants as stop
use Rattle.cs_declarator_parser.specs.declared.stop.Taken.{Taken}
use Rattle.cs_declarator_parser.specs.declared.declarator.Declares.{Declares}
use Rattle.cs_declarator_parser.specs.declared.declarator.Declares.TheVariants as declaring
use Rattle.cs_declarator_parser.specs.declared.declarator.Pointed.{Pointed}
use Rattle.cs_declarator_parser.specs.Answers.{Stops, IsTaken, IsExactly}
use Rattle.cs_declarator_parser.specs.DeclarationAnswers.{IsPointerWord, ArePointers, IsNameAt, IsNameFor, RefusesAfter, MayLackFor, DeclaratorsFor}
use Rattle.cs_declarator_parser.specs.DeclarationAnswers.{BracketsFor}
use Rattle.cs_declarator_parser.specs.DeclarationAnswers.{has_no_limit, is_bracket, is_full, IsPointed, IsNameMissing, IsDeclaratorTaken, PointedAnswers}
use Rattle.cs_declarator_parser.proofs.RowSites.{highest_more, RowSoFar, row_wrong}
use Rattle.cs_declarator_parser.proofs.PartStops.{stops_in, single_stops, no_fits}
use Rattle.cs_grammar.proofs.Pairs.{single_took}

-- the words of pointers so far
pub record PointersSoFar (tokens : List Token) (from next : ℕ) (words : List PointerWord) : Type 0 where
  pub spelled : Spells tokens from next (pointers_text words)
  pub pointers : is_pointer words ≡ true
  pub begun : from < next → words ≡ [] → ⊥
  pub none : next ≡ from → words ≡ []

pub pointers_none : (tokens : List Token) (from : ℕ) → from ≤ length tokens → PointersSoFar tokens from from []
pointers_none tokens from within = record {
  spelled = spells_none tokens from within;
  pointers = refl;
  begun = λ less. absurd (omega arith);
  none = λ e. refl;
}

text_more : (words : List PointerWord) (w : PointerWord) (rest : Kinds)
    → pointers_text words (pointer_word_text w ∷ rest) ≡ pointers_text (words ++ w ∷ []) rest
text_more [] w rest = refl
text_more (p ∷ ps) w rest = ap (λ (x : Kinds). pointer_word_text p ∷ x) (text_more ps w rest)

word_stands : (tokens : List Token) (at : ℕ) (after_star : Bool) (w : PointerWord) → IsPointerWord after_star (kind_or_end tokens at) (Some w)
    → Spells tokens at (at + 1) (λ rest. pointer_word_text w ∷ rest)
word_stands tokens at after_star pointer.Star k = spells_one tokens at (token.Punctuator punctuator.Star) k (λ x. cc)
word_stands tokens at after_star pointer.Const k = spells_one tokens at (token.Keyword keyword.Const) k.0 (λ x. cc)

more_pointer : (after_star : Bool) (kind : TokenKind) (words : List PointerWord) (w : PointerWord) → is_pointer words ≡ true
    → (after_star ≡ true → words ≡ [] → ⊥) → IsPointerWord after_star kind (Some w) → is_pointer (words ++ w ∷ []) ≡ true
more_pointer after_star kind [] pointer.Star is begun k = refl
more_pointer after_star kind [] pointer.Const is begun k = absurd (begun k.1 refl)
more_pointer after_star kind (pointer.Star ∷ ps) w is begun k = refl
more_pointer after_star kind (pointer.Const ∷ ps) w is begun k = absurd cc

some_words : (words : List PointerWord) (w : PointerWord) → words ++ w ∷ [] ≡ [] → ⊥
some_words [] w e = cc
some_words (p ∷ ps) w e = cc

pub pointers_one_more : (tokens : List Token) (from next : ℕ) (after_star : Bool) (words : List PointerWord) (w : PointerWord)
    → (after_star ≡ true → from < next) → PointersSoFar tokens from next words → IsPointerWord after_star (kind_or_end tokens next) (Some w)
    → PointersSoFar tokens from (next + 1) (words ++ w ∷ [])
pointers_one_more tokens from next after_star words w star p k = record {
  spelled =
      spells_as tokens from (next + 1) (λ rest. pointers_text words (pointer_word_text w ∷ rest)) (pointers_text (words ++ w ∷ []))
      (spells_more tokens from next (next + 1) (pointers_text words) (λ rest. pointer_word_text w ∷ rest) p.spelled (word_stands tokens next after_star w k))
      (text_more words w);
  pointers = more_pointer after_star (kind_or_end tokens next) words w p.pointers (λ b. p.begun (star b)) k;
  begun = λ less. some_words words w;
  none = λ e. let o = p.spelled.onward in absurd (omega arith);
}

pub pointers_taken : (tokens : List Token) (from next : ℕ) (after_star : Bool) (words : List PointerWord) → (from < next → after_star ≡ true)
    → PointersSoFar tokens from next words → IsPointerWord after_star (kind_or_end tokens next) None → ArePointers tokens from next words
pointers_taken tokens from next after_star words star p none = record {
  spelled = p.spelled;
  pointers = p.pointers;
  no_star = none.0;
  no_const = λ k. elim (cases_lt from next) [ inl less ↦ absurd (none.1 k (star less)) | inr more ↦ p.none (let o = p.spelled.onward in omega arith) ];
}

-- the name after pointers
pub name_pointed : (declares : Declares) (names : Names) (tokens : List Token) (from at : ℕ) (words : List PointerWord) (name : List ℕ)
    (taken : Taken Pointed) → ArePointers tokens from at words → kind_or_end tokens at ≡ token.Name name → IsNameFor declares names name
    → taken.tree.pointers.items ≡ words → taken.tree.name.name ≡ name → taken.next ≡ at + 1 → IsPointed declares names tokens from taken
name_pointed declares names tokens from at words name taken p k is items named next = record {
  spelled =
      subst (λ (n : ℕ). Spells tokens from n (λ rest. pointers_text taken.tree.pointers.items (token.Name taken.tree.name.name ∷ rest))) (sym next)
      (subst (λ (m : List ℕ). Spells tokens from (at + 1) (λ rest. pointers_text taken.tree.pointers.items (token.Name m ∷ rest))) (sym named)
      (subst (λ (ws : List PointerWord). Spells tokens from (at + 1) (λ rest. pointers_text ws (token.Name name ∷ rest))) (sym items)
      (spells_more tokens from at (at + 1) (pointers_text words) (λ rest. token.Name name ∷ rest) p.spelled
      (spells_one tokens at (token.Name name) k (λ x. cc)))));
  pointers = subst (λ (ws : List PointerWord). IsTrue (is_pointer ws)) (sym items) p.pointers;
  named = subst (IsNameFor declares names) (sym named) is;
}

-- a name that may be declared
pub some_name : (declares : Declares) (names : Names) → (name : List ℕ) × IsNameFor declares names name
some_name declaring.Names names = (fresh names, fresh_free names)
some_name declaring.Members names = ([], tt)

first_pointer : (IsName : List ℕ → Type 0) (ps : List PointerWord) (n : List ℕ) (x : Kinds) (next : TokenKind) (more : Kinds) → IsTrue (is_pointer ps)
    → IsName n → (next ≡ token.Punctuator punctuator.Star → ⊥) → ((name : List ℕ) → next ≡ token.Name name → IsName name → ⊥)
    → pointers_text ps (token.Name n ∷ x) ≡ next ∷ more → ⊥
first_pointer IsName [] n x next more is named no_star no_name same = no_name n (sym (ap (λ (k : Kinds). first_or k next) same)) named
first_pointer IsName (pointer.Star ∷ ps) n x next more is named no_star no_name same = no_star (sym (ap (λ (k : Kinds). first_or k next) same))
first_pointer IsName (pointer.Const ∷ ps) n x next more is named no_star no_name same = false≢true is

pointers_some : (ps : List PointerWord) (n : List ℕ) (x : Kinds) → pointers_text ps (token.Name n ∷ x) ≡ [] → ⊥
pointers_some [] n x same = cc
pointers_some (p ∷ ps) n x same = cc

missing_after : (declares : Declares) (names : Names) (limit : ℕ) → 1 ≤ limit
    → (tokens : List Token) (from at : ℕ) (words : List PointerWord) → ArePointers tokens from at words
    → ((name : List ℕ) → kind_or_end tokens at ≡ token.Name name → IsNameFor declares names name → ⊥)
    → Refused (DeclaratorsFor declares names) limit (pointers_text words []) (kind_or_end tokens at) false
missing_after declares names limit some tokens from at [] p no_name =
    none_refused (DeclaratorsFor declares names) limit (kind_or_end tokens at)
    (λ other after is same. pointers_some other.pointers other.name (brackets_text other.bounds after) same)
    (λ other after more is same.
    first_pointer (IsNameFor declares names) other.pointers other.name (brackets_text other.bounds after) (kind_or_end tokens at) more is.pointers is.named
    p.no_star no_name same)
missing_after declares names limit some tokens from at (w ∷ ws) p no_name =
    let n = some_name declares names in
    name_missing (IsNameFor declares names) names (MayLackFor declares) limit n.0 n.1 some (w ∷ ws) p.pointers (kind_or_end tokens at)
    (record { no_star = p.no_star; no_const = λ k. let z = p.no_const k in cc; no_name = no_name })

-- no name follows the pointers
pub missing_refused : (declares : Declares) (names : Names) (limit : ℕ) → 1 ≤ limit
    → (tokens : List Token) (from at : ℕ) (reason : Reason) → IsNameMissing declares names tokens from at reason
    → IsRefused (DeclaratorsFor declares names) limit tokens from at reason
missing_refused declares names limit some tokens from at reason m = record {
  front = pointers_text m.words [];
  spelled = spells_as tokens from at (pointers_text m.words) (λ rest. pointers_text m.words [] ++ rest) m.pointers.spelled
      (λ rest. sym (pointers_append m.words [] rest));
  refused = subst (λ (d : Bool). Refused (DeclaratorsFor declares names) limit (pointers_text m.words []) (kind_or_end tokens at) d) (sym m.plain)
      (missing_after declares names limit some tokens from at m.words m.pointers m.no_name);
}

pub pointed_stops : (declares : Declares) (names : Names) (limit : ℕ) → 1 ≤ limit
    → (tokens : List Token) (from : ℕ) (s : Stop) → PointedAnswers declares names tokens from (Err s)
    → Stops (DeclaratorsFor declares names) limit tokens from s
pointed_stops declares names limit some tokens from stop.Memory m = tt
pointed_stops declares names limit some tokens from (stop.Refused at reason) m = missing_refused declares names limit some tokens from at reason m

-- bounds so far
pub record BoundsSoFar (declares : Declares) (names : Names) (limit : ℕ) (tokens : List Token) (from next : ℕ) (list : List (Option RawExpr)) (tall : ℕ) :
    Type 0 where
  pub spelled : Spells tokens from next (brackets_text (bounds_of list))
  pub so_far : BracketsSoFar names (MayLackFor declares) limit (bounds_of list)
  pub height_is : tall ≡ highest_by height_of_some (bounds_of list)

pub bounds_none : (declares : Declares) (names : Names) (limit : ℕ) (tokens : List Token) (from : ℕ) → from ≤ length tokens
    → BoundsSoFar declares names limit tokens from from [] 0
bounds_none declares names limit tokens from within =
    record { spelled = spells_none tokens from within; so_far = brackets_none names (MayLackFor declares) limit; height_is = refl }

brackets_split : (done rest : List (Option Written)) (x : Kinds) → brackets_text (done ++ rest) x ≡ brackets_text done (brackets_text rest x)
brackets_split [] rest x = refl
brackets_split (b ∷ bs) rest x = ap (λ (r : Kinds). (Bounds [] (Unit {0})).spell b r) (brackets_split bs rest x)

bracket_stands : (declares : Declares) (names : Names) (limit : ℕ) (tokens : List Token) (from next : ℕ) (list : List (Option RawExpr)) (tall : ℕ)
    → BoundsSoFar declares names limit tokens from next list tall → kind_or_end tokens next ≡ token.Punctuator punctuator.OpenBracket
    → Spells tokens from (next + 1) (λ rest. brackets_text (bounds_of list) (token.Punctuator punctuator.OpenBracket ∷ rest))
bracket_stands declares names limit tokens from next list tall b k =
    spells_more tokens from next (next + 1) (brackets_text (bounds_of list)) (λ rest. token.Punctuator punctuator.OpenBracket ∷ rest) b.spelled
    (spells_one tokens next (token.Punctuator punctuator.OpenBracket) k (λ x. cc))

member_below : (names : Names) (other : Option Written) → (ClosedSome names 2 ⊥ (token.Punctuator punctuator.CloseBracket)).Is other
    → 1 ≤ height_of_some other
member_below names None is = absurd is
member_below names (Some e) is = expression_height e

abbrev member_least : (names : Names) → Least (ClosedSome names 2 ⊥ (token.Punctuator punctuator.CloseBracket))
member_least names = record { tree = Some nought; is_phrase = (omega arith, tt); below = λ other is. member_below names other is }

least_bound : (declares : Declares) (names : Names) (limit : ℕ) → has_no_limit declares limit ≡ false
    → (least : Least (ClosedSome names 2 (MayLackFor declares) (token.Punctuator punctuator.CloseBracket)))
    × ((ClosedSome names 2 (MayLackFor declares) (token.Punctuator punctuator.CloseBracket)).tall least.tree ≤ limit)
least_bound declaring.Names names limit has = (some_least names 2 (Unit {0}) (token.Punctuator punctuator.CloseBracket) tt, omega arith)
least_bound declaring.Members names zero has = absurd (false≢true (sym has))
least_bound declaring.Members names (suc limit) has = (member_least names, omega arith)

-- a bound was refused
pub bound_stops : (declares : Declares) (names : Names) (limit : ℕ) (tokens : List Token) (from next : ℕ) (list : List (Option RawExpr)) (tall : ℕ)
    → has_no_limit declares limit ≡ false → BoundsSoFar declares names limit tokens from next list tall
    → kind_or_end tokens next ≡ token.Punctuator punctuator.OpenBracket
    → (s : Stop) → Stops (ClosedSome names 2 (MayLackFor declares) (token.Punctuator punctuator.CloseBracket)) limit tokens (next + 1) s
    → Stops (BracketsFor declares names) limit tokens from s
bound_stops declares names limit tokens from next list tall has b k s r =
    let least = least_bound declares names limit has in
    stops_in (BracketsFor declares names) (ClosedSome names 2 (MayLackFor declares) (token.Punctuator punctuator.CloseBracket)) limit limit tokens from
    (next + 1) (brackets_text (bounds_of list) (token.Punctuator punctuator.OpenBracket ∷ []))
    (spells_as tokens from (next + 1) (λ rest. brackets_text (bounds_of list) (token.Punctuator punctuator.OpenBracket ∷ rest))
    (λ rest. brackets_text (bounds_of list) (token.Punctuator punctuator.OpenBracket ∷ []) ++ rest)
    (bracket_stands declares names limit tokens from next list tall b k)
    (λ rest. sym (brackets_law names (MayLackFor declares) (bounds_of list) (token.Punctuator punctuator.OpenBracket ∷ []) rest)))
    (λ front at deep here x.
    subst (λ (f : Kinds). Refused (BracketsFor declares names) limit f (kind_or_end tokens at) deep)
    (brackets_law names (MayLackFor declares) (bounds_of list) [] (token.Punctuator punctuator.OpenBracket ∷ front)
    ∙ sym (brackets_law names (MayLackFor declares) (bounds_of list) (token.Punctuator punctuator.OpenBracket ∷ []) front))
    (brackets_refused names (MayLackFor declares) limit (bounds_of list) b.so_far front (kind_or_end tokens at) deep
    (bound_refused names (MayLackFor declares) limit least.0 least.1 front (kind_or_end tokens at) deep x))) s r

bounds_more : (list : List (Option RawExpr)) (b : Option RawExpr) → bounds_of (list ++ b ∷ []) ≡ bounds_of list ++ option_map written b ∷ []
bounds_more list b = map-append (option_map written) list (b ∷ [])

-- one more bound was taken
pub next_bound : (declares : Declares) (names : Names) (limit : ℕ) (tokens : List Token) (from next : ℕ) (list more : List (Option RawExpr)) (tall : ℕ)
    (taken : Taken (Option RawExpr)) → BoundsSoFar declares names limit tokens from next list tall
    → kind_or_end tokens next ≡ token.Punctuator punctuator.OpenBracket
    → IsExactly (ClosedSome names 2 (MayLackFor declares) (token.Punctuator punctuator.CloseBracket)) (option_map written) limit tokens (next + 1) taken
    → more ≡ list ++ taken.tree ∷ [] → BoundsSoFar declares names limit tokens from taken.next more (max tall taken.height)
next_bound declares names limit tokens from next list more tall taken b k t is =
    let all : bounds_of more ≡ bounds_of list ++ option_map written taken.tree ∷ [] = ap bounds_of is ∙ bounds_more list taken.tree in
    record {
      spelled =
          subst (λ (x : List (Option Written)). Spells tokens from taken.next (brackets_text x)) (sym all)
          (spells_as tokens from taken.next (λ rest.
          brackets_text (bounds_of list) (token.Punctuator punctuator.OpenBracket
          ∷ (ClosedSome names 2 (MayLackFor declares) (token.Punctuator punctuator.CloseBracket)).spell (option_map written taken.tree) rest))
          (brackets_text (bounds_of list ++ option_map written taken.tree ∷ []))
          (spells_more tokens from (next + 1) taken.next (λ rest. brackets_text (bounds_of list) (token.Punctuator punctuator.OpenBracket ∷ rest))
          ((ClosedSome names 2 (MayLackFor declares) (token.Punctuator punctuator.CloseBracket)).spell (option_map written taken.tree))
          (bracket_stands declares names limit tokens from next list tall b k) t.spelled)
          (λ rest. sym (brackets_split (bounds_of list) (option_map written taken.tree ∷ []) rest)));
      so_far =
          subst (λ (x : List (Option Written)). BracketsSoFar names (MayLackFor declares) limit x) (sym all)
          (brackets_more names (MayLackFor declares) limit (bounds_of list) (option_map written taken.tree) b.so_far
          (bound_exact names (MayLackFor declares) limit (option_map written taken.tree) t.exactly));
      height_is =
          let h = b.height_is in
          let g = t.height_is in
          let m = highest_more height_of_some (bounds_of list) (option_map written taken.tree) in
          let e : max tall taken.height ≡ highest_by height_of_some (bounds_of list ++ option_map written taken.tree ∷ []) = omega (arith, h, g, m) in
          e ∙ ap (highest_by height_of_some) (sym all);
    }

bracket_is : (next : TokenKind) → is_bracket next ≡ true → next ≡ token.Punctuator punctuator.OpenBracket
bracket_is (token.Punctuator punctuator.OpenBracket) e = refl
bracket_is _ e = absurd cc

is_one : (next : TokenKind) → next ≡ token.Punctuator punctuator.OpenBracket → is_bracket next ≡ true
is_one next e = ap is_bracket e

no_bound : (declares : Declares) (names : Names) (limit : ℕ) (next : TokenKind) (lacks bracket : Bool) → has_no_limit declares limit ≡ lacks
    → is_bracket next ≡ bracket → (next ≡ token.Punctuator punctuator.OpenBracket → lacks ≡ true)
    → Took (BracketsFor declares names) limit [] next (lacks && bracket)
no_bound declares names limit next false bracket has is only = brackets_end names (MayLackFor declares) limit next (λ k. false≢true (only k))
no_bound declares names limit next true false has is only = brackets_end names (MayLackFor declares) limit next (λ k. false≢true (sym is ∙ is_one next k))
no_bound declaring.Names names limit next true true has is only = absurd (false≢true has)
no_bound declaring.Members names zero next true true has is only =
    subst (λ (x : TokenKind). Took (Brackets names ⊥) 0 [] x true) (sym (bracket_is next is)) (brackets_full names next)
no_bound declaring.Members names (suc limit) next true true has is only = absurd (let z = eqb-true (suc limit) 0 has in omega arith)

-- no other bound is taken
pub bounds_taken : {A : Type 0} (view : A → List (Option Written)) (declares : Declares) (names : Names) (limit : ℕ) (tokens : List Token) (from next : ℕ)
    (list : List (Option RawExpr)) (tall : ℕ) (taken : Taken A) → BoundsSoFar declares names limit tokens from next list tall
    → (kind_or_end tokens next ≡ token.Punctuator punctuator.OpenBracket → has_no_limit declares limit ≡ true) → view taken.tree ≡ bounds_of list
    → taken.height ≡ tall → taken.next ≡ next
    → IsTaken (BracketsFor declares names) view limit tokens from (is_full declares limit (kind_or_end tokens taken.next)) taken
bounds_taken view declares names limit tokens from next list tall taken b only tree tallness number = record {
  height_is = tallness ∙ b.height_is ∙ ap (highest_by height_of_some) (sym tree);
  spelled =
      subst (λ (n : ℕ). Spells tokens from n (brackets_text (view taken.tree))) (sym number)
      (subst (λ (x : List (Option Written)). Spells tokens from next (brackets_text x)) (sym tree) b.spelled);
  took =
      subst (λ (n : ℕ). Took (BracketsFor declares names) limit (view taken.tree) (kind_or_end tokens n) (is_full declares limit (kind_or_end tokens n)))
      (sym number)
      (subst (λ (x : List (Option Written)).
      Took (BracketsFor declares names) limit x (kind_or_end tokens next) (is_full declares limit (kind_or_end tokens next))) (sym tree)
      (brackets_took names (MayLackFor declares) limit (bounds_of list) (kind_or_end tokens next) (is_full declares limit (kind_or_end tokens next)) b.so_far
      (no_bound declares names limit (kind_or_end tokens next) (has_no_limit declares limit) (is_bracket (kind_or_end tokens next)) refl refl only)));
}

-- the refusal of what comes where a name is expected
pub pointed_missing : (declares : Declares) (names : Names) (tokens : List Token) (from at : ℕ) (words : List PointerWord)
    → ArePointers tokens from at words → IsNameAt (IsNameFor declares names) (kind_or_end tokens at) None → (s : Stop) → RefusesAfter at false s
    → PointedAnswers declares names tokens from (Err s)
pointed_missing declares names tokens from at words p none stop.Memory is = absurd is
pointed_missing declares names tokens from at words p none (stop.Refused refused reason) is =
    subst (λ (n : ℕ). IsNameMissing declares names tokens from n reason) (sym is.0) (record { words = words; pointers = p; no_name = none; plain = is.1 })

abbrev pointed_single : (declares : Declares) (names : Names) (tokens : List Token) (from : ℕ) (pointed : Taken Pointed)
    → IsPointed declares names tokens from pointed
    → Single (DeclaratorsFor declares names) (BracketsFor declares names) 1
    (pointers_text pointed.tree.pointers.items (token.Name pointed.tree.name.name ∷ [])) (declarator_of pointed.tree.pointers.items pointed.tree.name.name)
    (λ rest. Unit {0})
pointed_single declares names tokens from pointed p =
    declarator_single (IsNameFor declares names) names (MayLackFor declares) pointed.tree.pointers.items pointed.tree.name.name p.pointers p.named

-- the bounds after a name were refused
pub bounds_stop : (declares : Declares) (names : Names) (limit inner : ℕ) → limit ≡ 1 + inner
    → (tokens : List Token) (from : ℕ) (pointed : Taken Pointed) → IsPointed declares names tokens from pointed
    → (s : Stop) → Stops (BracketsFor declares names) inner tokens pointed.next s → Stops (DeclaratorsFor declares names) limit tokens from s
bounds_stop declares names limit inner less tokens from pointed p s r =
    single_stops (pointed_single declares names tokens from pointed p) limit inner (less, omega arith) tokens from pointed.next
    (spells_as tokens from pointed.next (λ rest. pointers_text pointed.tree.pointers.items (token.Name pointed.tree.name.name ∷ rest))
    (λ rest. pointers_text pointed.tree.pointers.items (token.Name pointed.tree.name.name ∷ []) ++ rest) p.spelled
    (λ rest. sym (pointers_append pointed.tree.pointers.items (token.Name pointed.tree.name.name ∷ []) rest)))
    (no_fits tokens pointed.next) s r

-- a declarator was taken, within one limit
bounded : {A : Type 0} (view : A → List (Option Written)) (declares : Declares) (names : Names) (limit inner : ℕ) → limit ≡ 1 + inner
    → (tokens : List Token) (from : ℕ) (pointed : Taken Pointed) → IsPointed declares names tokens from pointed
    → (bounds : Taken A) → IsTaken (BracketsFor declares names) view inner tokens pointed.next (is_full declares inner (kind_or_end tokens bounds.next))
    bounds → (whole : Taken RawDeclarator) → declarator whole.tree ≡ declarator_of pointed.tree.pointers.items pointed.tree.name.name (view bounds.tree)
    → whole.height ≡ bounds.height + 1 → whole.next ≡ bounds.next
    → IsTaken (DeclaratorsFor declares names) declarator limit tokens from (is_full declares inner (kind_or_end tokens whole.next)) whole
bounded view declares names limit inner less tokens from pointed p bounds b whole tree tall number =
    let d = declarator_of pointed.tree.pointers.items pointed.tree.name.name (view bounds.tree) in
    record {
      height_is = let h = b.height_is in let e : whole.height ≡ declarator_height d = omega (arith, h, tall) in e ∙ ap declarator_height (sym tree);
      spelled =
          subst (λ (n : ℕ). Spells tokens from n (declarator_text (declarator whole.tree))) (sym number)
          (subst (λ (x : Declarator). Spells tokens from bounds.next (declarator_text x)) (sym tree)
          (spells_more tokens from pointed.next bounds.next (λ rest. pointers_text pointed.tree.pointers.items (token.Name pointed.tree.name.name ∷ rest))
          (brackets_text (view bounds.tree)) p.spelled b.spelled));
      took =
          subst (λ (n : ℕ).
          Took (DeclaratorsFor declares names) limit (declarator whole.tree) (kind_or_end tokens n) (is_full declares inner (kind_or_end tokens n)))
          (sym number)
          (subst (λ (x : Declarator).
          Took (DeclaratorsFor declares names) limit x (kind_or_end tokens bounds.next) (is_full declares inner (kind_or_end tokens bounds.next)))
          (sym tree)
          (single_took (pointed_single declares names tokens from pointed p) limit inner (less, omega arith) (view bounds.tree) (kind_or_end tokens bounds.next)
          (is_full declares inner (kind_or_end tokens bounds.next)) (λ following near. tt) b.took));
    }

pub declarator_taken : {A : Type 0} (view : A → List (Option Written)) (declares : Declares) (names : Names) (limit inner : ℕ) → limit ≡ 1 + inner
    → (tokens : List Token) (from : ℕ) (pointed : Taken Pointed) → IsPointed declares names tokens from pointed
    → (bounds : Taken A) → IsTaken (BracketsFor declares names) view inner tokens pointed.next (is_full declares inner (kind_or_end tokens bounds.next))
    bounds → (whole : Taken RawDeclarator) → declarator whole.tree ≡ declarator_of pointed.tree.pointers.items pointed.tree.name.name (view bounds.tree)
    → whole.height ≡ bounds.height + 1 → whole.next ≡ bounds.next → IsDeclaratorTaken declares names limit tokens from whole
declarator_taken view declares names limit inner less tokens from pointed p bounds b whole tree tall number = λ other is.
    let e : inner ≡ other = omega (arith, less, is) in
    subst (λ (n : ℕ). IsTaken (DeclaratorsFor declares names) declarator limit tokens from (is_full declares n (kind_or_end tokens whole.next)) whole) e
    (bounded view declares names limit inner less tokens from pointed p bounds b whole tree tall number)

-- declarators with commas between them
abbrev pub declarators_row : (declares : Declares) (names : Names) → Separates (DeclaratorsFor declares names) (token.Punctuator punctuator.Semicolon)
declarators_row declares names =
    let n = some_name declares names in
    record {
      law = declarators_law (IsNameFor declares names) names (MayLackFor declares);
      least = declarators_least (IsNameFor declares names) names (MayLackFor declares) n.0 n.1;
      comma = λ d more. tt;
      closed = λ d more. tt;
      differs = semicolon_differs;
    }

pub declarators_low : (declares : Declares) (names : Names) (limit : ℕ) → 1 ≤ limit
    → (DeclaratorsFor declares names).tall (declarators_row declares names).least.tree ≤ limit
declarators_low declares names limit some = some

-- what follows a declarator is neither a comma nor a semicolon
pub declarators_wrong : (declares : Declares) (names : Names) (limit inner : ℕ) (tokens : List Token) (from : ℕ) (done : List Declarator)
    (last : Declarator) (next : ℕ) (tall : ℕ)
    → RowSoFar (DeclaratorsFor declares names) (token.Punctuator punctuator.Semicolon) limit tokens from done last next
    (is_full declares inner (kind_or_end tokens next)) tall → (kind_or_end tokens next ≡ token.Punctuator punctuator.Comma → ⊥)
    → (kind_or_end tokens next ≡ token.Punctuator punctuator.Semicolon → ⊥)
    → (s : Stop) → RefusesAfter next (is_full declares inner (kind_or_end tokens next)) s
    → Stops (Separated (DeclaratorsFor declares names) (token.Punctuator punctuator.Semicolon)) limit tokens from s
declarators_wrong declares names limit inner tokens from done last next tall r comma closed stop.Memory is = absurd is
declarators_wrong declares names limit inner tokens from done last next tall r comma closed (stop.Refused at reason) is =
    subst (λ (n : ℕ). IsRefused (Separated (DeclaratorsFor declares names) (token.Punctuator punctuator.Semicolon)) limit tokens from n reason) (sym is.0)
    (row_wrong (DeclaratorsFor declares names) (token.Punctuator punctuator.Semicolon) limit (declarators_row declares names) tokens from done last next reason
    tall
    (subst (λ (d : Bool). RowSoFar (DeclaratorsFor declares names) (token.Punctuator punctuator.Semicolon) limit tokens from done last next d tall) (sym is.1)
    r) comma closed)

pub refuses_at : (number : ℕ) (deep : Bool) (s : Stop) → RefusesAfter number deep s → (reason : Reason) × (s ≡ stop.Refused number reason)
refuses_at number deep stop.Memory is = absurd is
refuses_at number deep (stop.Refused at reason) is = (reason, ap (λ (n : ℕ). stop.Refused n reason) is.0)

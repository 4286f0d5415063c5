-- Members of structures: the result of each return. For the contracts of `member` and `members`.
use Rattle.std.proofs.Common.{◌≡◌, ℕ, ◌+◌, ◌<◌, ◌≤◌, max, inl, inr, true, false, map, List, [], ◌∷◌, ◌++◌, length, refl, sym}
use Rattle.std.proofs.Common.{ap, ◌∙◌, subst, arith}
use Rattle.std.proofs.lemmas.Bool.{false≢true}
use Rattle.cs_ast.specs.declared.token.Token.{Token}
use Rattle.cs_ast.specs.declared.token.TokenKind.{TokenKind}
use Rattle.cs_ast.specs.declared.token.TokenKind.TheVariants as token
use Rattle.cs_ast.specs.declared.token.Keyword.TheVariants as keyword
use Rattle.cs_ast.specs.declared.raw.declaration.RawMember.{RawMember}
use Rattle.cs_ast.specs.declared.raw.declaration.RawSpecs.{RawSpecs}
use Rattle.cs_ast.specs.declared.raw.written_type.TypeWord.{TypeWord}
use Rattle.cs_ast.specs.declared.raw.written_type.TypeWord.TheVariants as word
use Rattle.cs_ast.specs.declared.raw.written_type.IntegerWord.TheVariants.{Char, Short, Int, Long, Signed, Unsigned}
use Rattle.cs_ast.specs.RawDeclarations.{Declarator, Spec, Static, Plain, StructBody, EnumBody, Specs, NoSpec, MoreSpecs, Members, NoMember, MoreMembers}
use Rattle.cs_ast.specs.RawDeclarationView.{specs, declarator, members_list}
use Rattle.cs_ast.specs.RawFileHeight.{declarator_height, specs_height, members_height, highest_by}
use Rattle.cs_grammar.specs.declared.refusal.Reason.{Reason}
use Rattle.cs_grammar.specs.declared.refusal.Reason.TheVariants.{TooDeep}
use Rattle.cs_grammar.specs.TypeWords.{Names, named_by, names_type, is_type, is_among}
use Rattle.cs_grammar.specs.Text.{Kinds}
use Rattle.cs_grammar.specs.FileText.{with_commas, declarator_text, specs_text, members_text}
use Rattle.cs_grammar.specs.FilePhrases.{words_of, AreSpecs}
use Rattle.cs_grammar.specs.Parsing.{Near, Refused, Exactly}
use Rattle.cs_grammar.specs.Composed.{Separated}
use Rattle.cs_grammar.specs.DeclarationClasses.{FileSpecs, MemberDeclarators, MemberGroups, MemberRows}
use Rattle.cs_grammar.proofs.FileTexts.{members_append}
use Rattle.cs_grammar.proofs.Holes.{splits, exact_took}
use Rattle.cs_grammar.proofs.Tails.{first_or, none_refused, near_other, tail_as}
use Rattle.cs_grammar.proofs.Sequences.{took_exact}
use Rattle.cs_grammar.proofs.GrowingRows.{GrownSoFar, grown_none, grown_more, grown_refused, grown_exact}
use Rattle.cs_grammar.proofs.Pairs.{HasLimit, pair_wrong, pair_then_refused, pair_then_took}
use Rattle.cs_grammar.proofs.Statements.{open_brace, close_brace, semicolon}
use Rattle.cs_grammar.proofs.BlockItems.{Starts, with_star, with_name}
use Rattle.cs_grammar.proofs.SpecRows.{first_of, spec_first}
use Rattle.cs_grammar.proofs.FileRules.{specs_has}
use Rattle.cs_grammar.proofs.Bodies.{member_pair, member_starts, member_list_law, file_specs_law, MemberGroup, more_members, member_listing, joined_members}
use Rattle.cs_grammar.proofs.Bodies.{members_more_text, member_growing, members_end}
use Rattle.cs_grammar.proofs.SmallRooms.{begins_file_spec, group_full}
use Rattle.cs_expr_parser.specs.Positions.{kind_or_end}
use Rattle.cs_expr_parser.specs.Parts.{Spells, IsRefused, is_deep}
use Rattle.cs_declarator_parser.specs.declared.source.Scope.TheVariants.{File}
use Rattle.cs_expr_parser.specs.declared.stop.Stop.{Stop}
use Rattle.cs_expr_parser.specs.declared.stop.Stop.TheVariants as stop
use Rattle.cs_declarator_parser.specs.declared.stop.Taken.{Taken}
use Rattle.cs_declarator_parser.specs.Answers.{Stops, StopsOrBrace, IsTaken, IsExactly, IsBraceRefused}
use Rattle.cs_declarator_parser.specs.SpecWords.{begins_words, group}
use Rattle.cs_expr_parser.proofs.Standing.{spells_one, spells_none, spells_more, spells_as}
use Rattle.cs_declarator_parser.proofs.PartStops.{IsPlainStop, stops_in, stops_plain, stops_full, front_of, first_front, near_start, pair_first_stops}

-- a typedef name names a type only if it is one of the names, and without other words
typedef_among : (names : Names) (n : List ℕ) (rest : List TypeWord) → names_type names (word.Typedef n ∷ rest) ≡ true → is_among names n ≡ true
typedef_among names n [] e = e
typedef_among names n (w ∷ ws) e = absurd (false≢true e)

first_of_words : (names : Names) (s : Spec) (others : Specs) → is_type names (words_of (MoreSpecs s others)) ≡ true
    → begins_words File names (first_of s) ≡ true
first_of_words names Static others e = refl
first_of_words names (Plain word.Const) others e = refl
first_of_words names (Plain word.Void) others e = refl
first_of_words names (Plain (word.Integer Char)) others e = refl
first_of_words names (Plain (word.Integer Short)) others e = refl
first_of_words names (Plain (word.Integer Int)) others e = refl
first_of_words names (Plain (word.Integer Long)) others e = refl
first_of_words names (Plain (word.Integer Signed)) others e = refl
first_of_words names (Plain (word.Integer Unsigned)) others e = refl
first_of_words names (Plain (word.Typedef n)) others e = typedef_among names n (named_by (words_of others)) e
first_of_words names (Plain (word.Struct tag)) others e = refl
first_of_words names (Plain (word.Enum tag)) others e = refl
first_of_words names (StructBody tag members) others e = refl
first_of_words names (EnumBody tag constants comma) others e = refl

-- specifiers begin with a token that may begin them
pub specs_begin : (names : Names) (s : Specs) (x : Kinds) (next : TokenKind) (more : Kinds) → AreSpecs names s → specs_text s x ≡ next ∷ more
    → begins_words File names next ≡ true
specs_begin names NoSpec x next more is same = absurd (false≢true is.0)
specs_begin names (MoreSpecs s others) x next more is same =
    ap (begins_words File names) (sym (spec_first s (specs_text others x) next more same)) ∙ first_of_words names s others is.0

-- no member begins with the token
group_absent : (names : Names) (limit : ℕ) (next : TokenKind) → begins_words File names next ≡ false → Refused (MemberGroups names) limit [] next false
group_absent names limit next none =
    none_refused (MemberGroups names) limit next
    (λ g after is same. specs_has names g.0 (with_commas declarator_text g.1 (semicolon ∷ after)) is.0 same)
    (λ g after more is same. false≢true (sym none ∙ specs_begin names g.0 (with_commas declarator_text g.1 (semicolon ∷ after)) next more is.0 same))

pub member_absent : (names : Names) (limit : ℕ) (tokens : List Token) (from : ℕ) (s : Stop) → from ≤ length tokens
    → begins_words File names (kind_or_end tokens from) ≡ false → IsPlainStop File tokens from s → Stops (MemberGroups names) limit tokens from s
member_absent names limit tokens from s within none is =
    stops_plain (MemberGroups names) limit tokens from from File [] s (spells_none tokens from within) is
    (group_absent names limit (kind_or_end tokens from) none)

begins_same : (names : Names) (next : TokenKind) → begins_file_spec names next ≡ begins_words File names next
begins_same names (token.Keyword keyword.Static) = refl
begins_same names _ = refl

-- the limit doesn't allow a member
pub member_full : (names : Names) (limit : ℕ) (tokens : List Token) (from : ℕ) (s : Stop) → from ≤ length tokens → limit < 2
    → begins_words File names (kind_or_end tokens from) ≡ true → s ≡ stop.Refused from TooDeep → Stops (MemberGroups names) limit tokens from s
member_full names limit tokens from s within little begins is =
    stops_full (MemberGroups names) limit tokens from s within is
    (group_full names limit (kind_or_end tokens from) little (begins_same names (kind_or_end tokens from) ∙ begins))

starts_some : (tokens : Kinds) → Starts tokens → tokens ≡ [] → ⊥
starts_some tokens (with_star more e) same = let z = sym e ∙ same in cc
starts_some tokens (with_name n more e) same = let z = sym e ∙ same in cc

starts_no_brace : (tokens more : Kinds) → Starts tokens → tokens ≡ open_brace ∷ more → ⊥
starts_no_brace tokens more (with_star m e) same = let z = sym e ∙ same in cc
starts_no_brace tokens more (with_name n m e) same = let z = sym e ∙ same in cc

-- the limit allows a member
has_limit : (names : Names) (limit inner : ℕ) → limit ≡ 1 + inner → 1 ≤ inner → HasLimit (member_pair names) limit inner
has_limit names limit inner less some = (less, some, some)

-- a brace was refused after the specifiers
brace_refused : (names : Names) (limit inner : ℕ) → limit ≡ 1 + inner → 1 ≤ inner
    → (tokens : List Token) (from at : ℕ) (reason : Reason) → IsBraceRefused (FileSpecs names) inner tokens from at reason
    → IsRefused (MemberGroups names) limit tokens from at reason
brace_refused names limit inner less some tokens from at reason b = record {
  front = specs_text b.phrase [];
  spelled = front_of (FileSpecs names) (file_specs_law names) tokens from at b.phrase b.spelled;
  refused =
      subst (λ (x : TokenKind). Refused (MemberGroups names) limit (specs_text b.phrase []) x (is_deep reason)) (sym b.brace)
      (pair_wrong (member_pair names) limit inner (has_limit names limit inner less some) b.phrase open_brace (is_deep reason) b.took
      (λ d after are same. starts_some (with_commas declarator_text d (semicolon ∷ after)) (member_starts names d (semicolon ∷ after) are.0 are.1) same)
      (λ d after more are same.
      starts_no_brace (with_commas declarator_text d (semicolon ∷ after)) more (member_starts names d (semicolon ∷ after) are.0 are.1) same));
}

-- the specifiers were refused
pub member_specs_stop : (names : Names) (limit inner : ℕ) → limit ≡ 1 + inner → 1 ≤ inner
    → (tokens : List Token) (from : ℕ) → from ≤ length tokens → (s : Stop) → StopsOrBrace (FileSpecs names) inner tokens from s
    → Stops (MemberGroups names) limit tokens from s
member_specs_stop names limit inner less some tokens from within stop.Memory a = tt
member_specs_stop names limit inner less some tokens from within (stop.Refused at reason) a =
    elim a [
      | inl r ↦ pair_first_stops (member_pair names) limit inner (has_limit names limit inner less some) tokens from from (spells_none tokens from within)
          (stop.Refused at reason) r
      | inr b ↦ brace_refused names limit inner less some tokens from at reason b
    ]

-- the declarators after the specifiers were refused
pub member_list_stops : (names : Names) (limit inner : ℕ) → limit ≡ 1 + inner → 1 ≤ inner
    → (tokens : List Token) (from : ℕ) (words : Taken RawSpecs) → IsTaken (FileSpecs names) specs inner tokens from false words
    → (s : Stop) → Stops (Separated (MemberDeclarators names) semicolon) inner tokens words.next s → Stops (MemberGroups names) limit tokens from s
member_list_stops names limit inner less some tokens from words w s r =
    stops_in (MemberGroups names) (Separated (MemberDeclarators names) semicolon) limit inner tokens from words.next (specs_text (specs words.tree) [])
    (front_of (FileSpecs names) (file_specs_law names) tokens from words.next (specs words.tree) w.spelled)
    (λ front at deep here x.
    pair_then_refused (member_pair names) limit inner (has_limit names limit inner less some) (specs words.tree) (kind_or_end tokens words.next) false w.took
    (λ reported. absurd (false≢true reported)) front (kind_or_end tokens at) deep
    (first_front tokens words.next at front here) x) s r

first_any : (front : Kinds) → (front ≡ [] → ⊥) → (a b : TokenKind) → first_or front a ≡ first_or front b
first_any [] some a b = absurd (some refl)
first_any (t ∷ ts) some a b = refl

-- the first token of declarators, whatever follows them
list_first : (names : Names) (tokens : List Token) (mid next : ℕ) (d : List Declarator) → (Separated (MemberDeclarators names) semicolon).Is d
    → Spells tokens mid next ((Separated (MemberDeclarators names) semicolon).spell d)
    → (following : TokenKind) → first_or ((Separated (MemberDeclarators names) semicolon).spell d []) following ≡ kind_or_end tokens mid
list_first names tokens mid next d is sp following =
    let front = with_commas declarator_text d (semicolon ∷ []) in
    first_any front (λ none. starts_some front (member_starts names d (semicolon ∷ []) is.0 is.1) none) following (kind_or_end tokens next)
    ∙ first_front tokens mid next front (front_of (Separated (MemberDeclarators names) semicolon) (member_list_law names) tokens mid next d sp)

-- members of one type were taken
pub member_taken : (names : Names) (limit inner : ℕ) → limit ≡ 1 + inner → 1 ≤ inner
    → (tokens : List Token) (from : ℕ) (words : Taken RawSpecs) → IsTaken (FileSpecs names) specs inner tokens from false words
    → {A : Type 0} (view : A → List Declarator) (list : Taken A)
    → IsExactly (Separated (MemberDeclarators names) semicolon) view inner tokens words.next list
    → (taken : Taken RawMember) → group taken.tree ≡ (specs words.tree, view list.tree) → taken.height ≡ max words.height list.height + 1
    → taken.next ≡ list.next → IsExactly (MemberGroups names) group limit tokens from taken
member_taken names limit inner less some tokens from words w view list l taken is tall next =
    let both : MemberGroup = (specs words.tree, view list.tree) in
    record {
      height_is =
          let h = w.height_is in
          let g = l.height_is in
          let e : taken.height ≡ 1 + max (specs_height (specs words.tree)) (highest_by declarator_height (view list.tree)) = omega (arith, h, g, tall) in
          e ∙ ap (λ (x : MemberGroup). 1 + max (specs_height x.0) (highest_by declarator_height x.1)) (sym is);
      spelled =
          subst (λ (n : ℕ). Spells tokens from n ((MemberGroups names).spell (group taken.tree))) (sym next)
          (subst (λ (x : MemberGroup). Spells tokens from list.next ((MemberGroups names).spell x)) (sym is)
          (spells_more tokens from words.next list.next (specs_text (specs words.tree)) ((Separated (MemberDeclarators names) semicolon).spell (view list.tree))
          w.spelled l.spelled));
      exactly =
          subst (λ (x : MemberGroup). Exactly (MemberGroups names) limit x) (sym is)
          (took_exact (MemberGroups names) limit both
          (λ following.
          pair_then_took (member_pair names) limit inner (has_limit names limit inner less some) (specs words.tree) (kind_or_end tokens words.next) false w.took
          (λ reported. absurd (false≢true reported)) (view list.tree) following false
          (list_first names tokens words.next list.next (view list.tree) l.exactly.is_phrase l.spelled following)
          (exact_took (Separated (MemberDeclarators names) semicolon) inner (view list.tree) l.exactly following))
          (λ other after. tt) semicolon);
    }

-- the members taken so far
pub record MembersSoFar (names : Names) (limit : ℕ) (tokens : List Token) (from next : ℕ) (items : List RawMember) (tall : ℕ) : Type 0 where
  pub spelled : Spells tokens from next (members_text (members_list items))
  pub so_far : GrownSoFar (member_growing names) limit (members_list items) (Near (kind_or_end tokens next))
  pub height_is : tall ≡ members_height (members_list items)

pub members_none : (names : Names) (limit : ℕ) (tokens : List Token) (from : ℕ) → from ≤ length tokens
    → MembersSoFar names limit tokens from from [] 0
members_none names limit tokens from within = record {
  spelled = spells_none tokens from within;
  so_far =
      tail_as (MemberRows names) (MemberRows names) limit limit [] [] (joined_members NoMember) (joined_members NoMember) (λ rest. Unit {0})
      (Near (kind_or_end tokens from)) (grown_none (member_growing names) limit) refl (λ part. refl)
      (λ following fit. tt);
  height_is = refl;
}

list_more : (items : List RawMember) (m : RawMember)
    → members_list (items ++ m ∷ []) ≡ joined_members (members_list items) (more_members (group m) NoMember)
list_more [] m = refl
list_more (i ∷ is) m = ap (MoreMembers (specs i.specs) (map declarator i.declarators.items)) (list_more is m)

joined_height : (done : Members) (c : MemberGroup)
    → members_height (joined_members done (more_members c NoMember))
    ≡ max (members_height done) (1 + max (specs_height c.0) (highest_by declarator_height c.1))
joined_height NoMember c = omega arith
joined_height (MoreMembers specs declarators others) c = let h = joined_height others c in omega (arith, h)

-- one more was taken
pub member_more : (names : Names) (limit : ℕ) (tokens : List Token) (from next : ℕ) (items more : List RawMember) (tall : ℕ)
    → MembersSoFar names limit tokens from next items tall → (taken : Taken RawMember) → IsExactly (MemberGroups names) group limit tokens next taken
    → more ≡ items ++ taken.tree ∷ [] → MembersSoFar names limit tokens from taken.next more (max tall taken.height)
member_more names limit tokens from next items more tall m taken t is =
    let done = members_list items in
    let c = group taken.tree in
    let one = more_members c NoMember in
    let all : members_list more ≡ joined_members done one = ap members_list is ∙ list_more items taken.tree in
    record {
      spelled =
          subst (λ (x : Members). Spells tokens from taken.next (members_text x)) (sym all)
          (spells_as tokens from taken.next (λ rest. members_text done ((MemberGroups names).spell c rest)) (members_text (joined_members done one))
          (spells_more tokens from next taken.next (members_text done) ((MemberGroups names).spell c) m.spelled t.spelled)
          (λ rest. sym (members_more_text done c rest)));
      so_far =
          subst (λ (x : Members). GrownSoFar (member_growing names) limit x (Near (kind_or_end tokens taken.next))) (sym all)
          (grown_more (member_growing names) limit done (Near (kind_or_end tokens next)) m.so_far c (kind_or_end tokens taken.next) false
          (exact_took (MemberGroups names) limit c t.exactly (kind_or_end tokens taken.next))
          (λ reported. absurd (false≢true reported))
          (λ following near.
          subst (Near (kind_or_end tokens next)) (sym (splits (MemberGroups names) (member_listing names).law c following))
          (near_start tokens next taken.next ((MemberGroups names).spell c [])
          (front_of (MemberGroups names) (member_listing names).law tokens next taken.next c t.spelled) following near)));
      height_is =
          let h = joined_height done c in
          let a = m.height_is in
          let b = t.height_is in
          let e : max tall taken.height ≡ members_height (joined_members done one) = omega (arith, h, a, b) in
          e ∙ ap members_height (sym all);
    }

-- a member was refused, and the next token doesn't close the members
pub member_stops : (names : Names) (limit : ℕ) (tokens : List Token) (from next : ℕ) (items : List RawMember) (tall : ℕ)
    → MembersSoFar names limit tokens from next items tall → (kind_or_end tokens next ≡ close_brace → ⊥)
    → (s : Stop) → Stops (MemberGroups names) limit tokens next s → Stops (MemberRows names) limit tokens from s
member_stops names limit tokens from next items tall m other s r =
    let done = members_list items in
    stops_in (MemberRows names) (MemberGroups names) limit limit tokens from next (members_text done [])
    (spells_as tokens from next (members_text done) (λ rest. members_text done [] ++ rest) m.spelled (λ rest. sym (members_append done [] rest)))
    (λ front at deep here x.
    grown_refused (member_growing names) limit done (Near (kind_or_end tokens next)) m.so_far front (kind_or_end tokens at) deep
    (near_start tokens next at front here)
    (λ after following shut near same.
    near_other close_brace (kind_or_end tokens next) (front ++ following) after other (near_start tokens next at front here following near) same) x) s r

-- the closing brace follows the members
pub members_taken : (names : Names) (limit : ℕ) (tokens : List Token) (from next : ℕ) (items : List RawMember) (tall : ℕ)
    → MembersSoFar names limit tokens from next items tall → kind_or_end tokens next ≡ close_brace
    → {A : Type 0} (view : A → Members) (taken : Taken A) → view taken.tree ≡ members_list items → taken.height ≡ tall → taken.next ≡ next + 1
    → IsExactly (MemberRows names) view limit tokens from taken
members_taken names limit tokens from next items tall m k view taken is tallness number =
    let done = members_list items in
    record {
      height_is = tallness ∙ m.height_is ∙ ap members_height (sym is);
      spelled =
          subst (λ (n : ℕ). Spells tokens from n ((MemberRows names).spell (view taken.tree))) (sym number)
          (subst (λ (x : Members). Spells tokens from (next + 1) ((MemberRows names).spell x)) (sym is)
          (spells_more tokens from next (next + 1) (members_text done) (λ rest. close_brace ∷ rest) m.spelled
          (spells_one tokens next close_brace k (λ x. cc))));
      exactly =
          subst (λ (x : Members). Exactly (MemberRows names) limit x) (sym is)
          (grown_exact (member_growing names) limit done (Near (kind_or_end tokens next)) m.so_far
          (λ following. inr (following, ap (λ (x : TokenKind). x ∷ following) (sym k))) (members_end names limit) (λ other after. tt) close_brace);
    }

use Rattle.std.proofs.Common.{◌≡◌, ℕ, ◌+◌, ◌-◌, ◌∷◌, Bool, max, map, Err, Ok, List, Option, false, refl, sym, ap, ◌∙◌, subst, arith}
use Rattle.std.proofs.Common.{rules, drop, None}
use Rattle.std.proofs.lemmas.Bool.{false≢true}
use Rattle.cs_ast.specs.declared.raw.declaration.RawMember.{RawMember}
use Rattle.cs_ast.specs.declared.raw.declaration.SpecWord.{SpecWord}
use Rattle.cs_grammar.specs.declared.type_words.TypeSoFar.TheVariants.{Nothing}
use Rattle.cs_expr_parser.specs.Positions.{kind_or_end}
use Rattle.cs_declarator_parser.specs.declared.specs.NextWord.{NextWord}
use Rattle.cs_ast.specs.declared.token.TokenKind.TheVariants as token
use Rattle.cs_ast.specs.declared.token.Punctuator.TheVariants as punctuator
use Rattle.cs_ast.specs.RawDeclarationView.{declarator, members_list}
use Rattle.cs_grammar.specs.FileText.{name_text}
use Rattle.cs_grammar.specs.DeclarationClasses.{MemberGroups, MemberRows}
use Rattle.cs_expr_parser.specs.Parts.{Spells}
use Rattle.cs_declarator_parser.specs.Answers.{ExactAnswers}
use Rattle.cs_declarator_parser.specs.DeclarationAnswers.{constant_row}
use Rattle.cs_declarator_parser.specs.SpecWords.{ElementAnswer, ElementStops, tag_keyword, name_in, group, SpecsAnswer, SpecAnswer}
use Rattle.cs_declarator_parser.proofs.RowSites.{max_is}
use Rattle.cs_declarator_parser.proofs.SpecSites.{enum_little, same_struct, opened_at, opened_later, tagged_found, untagged_stops, with_struct, struct_stops}
use Rattle.cs_declarator_parser.proofs.SpecSites.{struct_found, enum_stops, enum_found, SpecsSoFar, specs_none, spec_more, specs_stop, specs_taken, spec_stops}
use Rattle.cs_declarator_parser.proofs.SpecSites.{plain_answer, static_found, tag_none, element_error, element_found}
use Rattle.cs_ast.specs.declared.raw.name.RawName.{RawName}
use Rattle.cs_ast.specs.RawDeclarationView.{constant}
use Rattle.cs_grammar.specs.FileText.{constant_text}
use Rattle.cs_declarator_parser.specs.DeclarationPlaces.{AreInRow, IsNamePlaced, IsConstantPlaced}
use Rattle.cs_declarator_parser.specs.SpecPlaces.{IsWordThere, IsGroupPlaced, group_text, AreGroupsPlaced}
use Rattle.cs_declarator_parser.proofs.PlacingSpecs.{SpecsPlaced, specs_begun, specs_go_on, static_there, tagged_placed, body_begins, struct_placed}
use Rattle.cs_declarator_parser.proofs.PlacingSpecs.{enum_placed}
use Rattle.cs_declarator_parser.proofs.PlacingSpecs.{group_framed, declarators_after}
use Rattle.cs_declarator_parser.proofs.Placing.{SidePlaced, side_begun, side_goes_on}
use Rattle.cs_declarator_parser.proofs.MemberSites.{member_absent, member_full, member_specs_stop, member_list_stops, member_taken, MembersSoFar, members_none}
use Rattle.cs_declarator_parser.proofs.MemberSites.{member_more, member_stops, members_taken}
use Rattle.cs_declarator_parser.specs.declared.source.Scope.TheVariants as scope_of
use Rattle.cs_declarator_parser.proofs.AptReasons.{answer_apt}
use Rattle.cs_declarator_parser.proofs.+specs.Goals as goal

pub specs::specs-words-init : goal.specs::specs-words-init
specs::specs-words-init t c = record {
  onward = omega arith;
  inside = c.requires.within;
  low = omega arith;
  typed = λ some. absurd (false≢true some);
  placed = subst (λ (x : List SpecWord). SpecsPlaced c.args.source.now.tokens.now c.args.from c.args.from x None) (sym c.in_ok-words.ensures.items)
      (specs_begun c.args.source.now.tokens.now c.args.from);
  so_far = subst (λ (x : List SpecWord). SpecsSoFar c.args.source.now.names.now c.args.source.now.tokens.now c.args.from c.args.from Nothing x 0)
      (sym c.in_ok-words.ensures.items) (specs_none c.args.source.now.names.now c.args.source.now.tokens.now c.args.from c.requires.within);
}

pub specs::specs-words-preserved : goal.specs::specs-words-preserved
specs::specs-words-preserved t c =
    let i = c.words.invariant in
    let w =
    subst (λ (x : Option NextWord). SpecAnswer c.args.source.now.names.now c.args.limit c.args.source.now.tokens.now c.words.next c.words.so_far (Ok x))
    c.in-Some.is c.in_ok-found.ensures.word in
    let later = w.later in
    let within = w.spelled.within in
    let fits = w.low in
    let h : c.max-height.result ≡ max c.words.height c.in-Some.found.height = c.max-height.ensures ∙ max_is c.words.height c.in-Some.found.height in
    record {
      onward = omega arith;
      inside = within;
      low = omega arith;
      typed = λ some. omega arith;
      placed = specs_go_on c.args.source.now.names.now c.words.so_far c.args.source.now.tokens.now c.args.from c.words.next c.words.words.items
          c.push.new.self.items c.in-Some.found c.words.tag c.or-tag.result i.placed i.so_far.spelled i.so_far.described w.spelled
          (subst (IsWordThere c.args.source.now.tokens.now c.words.next c.words.so_far) c.in-Some.is c.in_ok-found.ensures.placed) c.or-tag.ensures
          c.in_ok-push.ensures.items;
      so_far =
          subst (λ (x : ℕ).
          SpecsSoFar c.args.source.now.names.now c.args.source.now.tokens.now c.args.from c.in-Some.found.next c.in-Some.found.so_far c.push.new.self.items
          x) (sym h)
          (spec_more c.args.source.now.names.now c.args.limit c.args.source.now.tokens.now c.args.from c.words.next c.words.so_far c.words.words.items
          c.push.new.self.items c.words.height c.in-Some.found i.so_far w c.in_ok-push.ensures.items);
    }

pub specs::specs-returns-in_err-found-clause-parsed : goal.specs::specs-returns-in_err-found-clause-parsed
specs::specs-returns-in_err-found-clause-parsed t c =
    let e : c.from_residual-in_err-found.result ≡ Err c.in_err-found.field-0.0 = search rules in
    subst (SpecsAnswer c.args.source.now.names.now c.args.limit c.args.source.now.tokens.now c.args.from) (sym e)
    (spec_stops c.args.source.now.names.now c.args.limit c.requires.some c.args.source.now.tokens.now c.args.from c.words.next c.words.so_far
    c.words.words.items c.words.height c.words.invariant.low c.words.invariant.so_far c.in_err-found.field-0.0 c.in_err-found.ensures.word)

pub specs::specs-returns-then-not-names_type-clause-parsed : goal.specs::specs-returns-then-not-names_type-clause-parsed
specs::specs-returns-then-not-names_type-clause-parsed t c =
    let n =
    (subst (λ (x : Option NextWord). SpecAnswer c.args.source.now.names.now c.args.limit c.args.source.now.tokens.now c.words.next c.words.so_far (Ok x))
    c.in_default.is c.in_ok-found.ensures.word) in
    specs_stop c.args.source.now.names.now c.args.limit c.requires.some c.args.source.now.tokens.now c.args.from c.words.next c.words.so_far c.words.words.items
    c.words.height c.refuse.result c.words.invariant.low c.words.invariant.so_far (sym c.names_type.ensures ∙ c.if-not-names_type.true) n.0 n.1
    c.refuse.ensures.is

pub specs::specs-returns-clause-parsed : goal.specs::specs-returns-clause-parsed
specs::specs-returns-clause-parsed t c =
    let n =
    (subst (λ (x : Option NextWord). SpecAnswer c.args.source.now.names.now c.args.limit c.args.source.now.tokens.now c.words.next c.words.so_far (Ok x))
    c.in_default.is c.in_ok-found.ensures.word) in
    specs_taken c.args.source.now.names.now c.args.limit c.args.source.now.tokens.now c.args.from c.words.next c.words.so_far c.words.height _
    c.words.invariant.low c.words.invariant.so_far (sym c.names_type.ensures ∙ c.if-not-names_type.false) n.0 n.1 refl refl

pub specs::specs-returns-clause-placed : goal.specs::specs-returns-clause-placed
specs::specs-returns-clause-placed t c =
    let p = c.words.invariant.placed in
    record { tag = p.tag_is; inside = p.inside.row }

pub specs::word_at-returns-then-is_keyword-clause-placed : goal.specs::word_at-returns-then-is_keyword-clause-placed
specs::word_at-returns-then-is_keyword-clause-placed t c =
    static_there c.args.source.now.tokens.now c.args.at c.args.so_far c.static_word.result c.static_word.ensures.word.0 c.static_word.ensures.tag

pub specs::word_at-returns-then-is_keyword-clause-word : goal.specs::word_at-returns-then-is_keyword-clause-word
specs::word_at-returns-then-is_keyword-clause-word t c =
    static_found c.args.source.now.names.now c.args.limit c.requires.some c.args.source.now.tokens.now c.args.at c.args.so_far c.static_word.result
    (c.is_keyword.ensures.keyword.0 c.if-is_keyword.true) c.static_word.ensures.word

pub specs::word_at-returns-then-not-begins_tagged-clause-word : goal.specs::word_at-returns-then-not-begins_tagged-clause-word
specs::word_at-returns-then-not-begins_tagged-clause-word t c =
    plain_answer c.args.source.now.names.now c.args.limit c.requires.some c.args.source.now.tokens.now c.args.at c.args.so_far c.plain_word.result
    (c.begins_tagged.ensures.none c.if-not-begins_tagged.true) (λ k. false≢true (sym c.if-is_keyword.false ∙ c.is_keyword.ensures.keyword.1 k))
    c.plain_word.ensures.word

pub specs::word_at-returns-then-names_type-clause-word : goal.specs::word_at-returns-then-names_type-clause-word
specs::word_at-returns-then-names_type-clause-word t c =
    let k = c.begins_tagged.ensures.tag c.if-not-begins_tagged.false in
    tag_none c.args.source.now.names.now c.args.so_far (kind_or_end c.args.source.now.tokens.now c.args.at) k.0 k.1 (sym c.names_type.ensures
    ∙ c.if-names_type.true)

pub specs::word_at-returns-in_err-found-clause-word : goal.specs::word_at-returns-in_err-found-clause-word
specs::word_at-returns-in_err-found-clause-word t c =
    let e : c.from_residual.result ≡ Err c.in_err-found.field-0.0 = search rules in
    subst (SpecAnswer c.args.source.now.names.now c.args.limit c.args.source.now.tokens.now c.args.at c.args.so_far) (sym e)
    (element_error c.args.source.now.names.now c.args.limit c.args.source.now.tokens.now c.args.at c.args.so_far c.in_err-found.field-0.0
    (sym c.names_type.ensures ∙ c.if-names_type.false) c.in_err-found.ensures.element)

pub specs::word_at-returns-clause-word : goal.specs::word_at-returns-clause-word
specs::word_at-returns-clause-word t c =
    element_found c.args.source.now.names.now c.args.limit c.args.source.now.tokens.now c.args.at c.args.so_far c.in_ok-found.found (sym c.names_type.ensures
    ∙ c.if-names_type.false) c.in_ok-found.ensures.element

pub specs::word_at-returns-clause-placed : goal.specs::word_at-returns-clause-placed
specs::word_at-returns-clause-placed t c = (c.in_ok-found.ensures.placed, λ settled. sym c.names_type.ensures ∙ c.if-names_type.false)

pub specs::with_body-returns-then-is_keyword-clause-placed : goal.specs::with_body-returns-then-is_keyword-clause-placed
specs::with_body-returns-then-is_keyword-clause-placed t c = λ named.
    let o = c.requires.opened in
    struct_placed c.args.source.now.tokens.now c.args.at c.args.tag (members_list c.in_ok-members.members.tree.items) c.structure.result
    c.structure.ensures.word.word_is c.structure.ensures.tag named
    (c.structure.ensures.placed (drop c.args.at c.args.source.now.tokens.now)
    (subst (AreGroupsPlaced c.in_ok-members.members.tree.items)
    (sym (body_begins c.args.source.now.tokens.now c.args.at c.args.brace o.is_struct (name_in c.args.tag) o.spelled)) c.in_ok-members.ensures.placed))

pub specs::with_body-returns-clause-placed : goal.specs::with_body-returns-clause-placed
specs::with_body-returns-clause-placed t c = λ named.
    let o = c.requires.opened in
    let row = constant_row c.in_ok-constants.constants.tree in
    enum_placed c.args.source.now.tokens.now c.args.at c.args.tag row.0 row.1 c.enumeration.result c.enumeration.ensures.word.word_is c.enumeration.ensures.tag
    named
    (c.enumeration.ensures.placed (drop c.args.at c.args.source.now.tokens.now)
    (subst (AreInRow IsConstantPlaced (λ e. constant_text (constant e)) c.in_ok-constants.constants.tree.list.items)
    (sym (body_begins c.args.source.now.tokens.now c.args.at c.args.brace o.is_struct (name_in c.args.tag) o.spelled)) c.in_ok-constants.ensures.placed))

pub specs::with_body-returns-in_err-members-clause-element : goal.specs::with_body-returns-in_err-members-clause-element
specs::with_body-returns-in_err-members-clause-element t c =
    let e : c.from_residual.result ≡ Err c.in_err-members.field-0.0 = search rules in
    subst (ElementAnswer c.args.source.now.names.now c.args.limit c.args.source.now.tokens.now c.args.at) (sym e)
    (struct_stops c.args.source.now.names.now c.args.limit (c.args.limit - 1) (let some = c.requires.some in
    omega arith) (name_in c.args.tag) c.args.source.now.tokens.now c.args.at (c.args.brace + 1)
    (subst (λ (b : Bool).
    Spells c.args.source.now.tokens.now c.args.at (c.args.brace + 1)
    (λ rest. tag_keyword b ∷ name_text (name_in c.args.tag) (token.Punctuator punctuator.OpenBrace ∷ rest))) c.if-is_keyword.true
    (with_struct c.args.source.now.tokens.now c.args.at c.args.brace (name_in c.args.tag) c.is_keyword.result c.requires.opened
    (c.is_keyword.ensures.keyword.0, c.is_keyword.ensures.keyword.1))) c.in_err-members.field-0.0 c.in_err-members.ensures.parsed)

pub specs::with_body-returns-then-is_keyword-clause-element : goal.specs::with_body-returns-then-is_keyword-clause-element
specs::with_body-returns-then-is_keyword-clause-element t c =
    let b = c.structure.ensures.bounds in
    struct_found c.args.source.now.names.now c.args.limit (c.args.limit - 1) (let some = c.requires.some in
    omega arith) (name_in c.args.tag) c.args.source.now.tokens.now c.args.at (c.args.brace + 1) (let o = c.requires.onward in
    omega arith)
    (subst (λ (b : Bool).
    Spells c.args.source.now.tokens.now c.args.at (c.args.brace + 1)
    (λ rest. tag_keyword b ∷ name_text (name_in c.args.tag) (token.Punctuator punctuator.OpenBrace ∷ rest))) c.if-is_keyword.true
    (with_struct c.args.source.now.tokens.now c.args.at c.args.brace (name_in c.args.tag) c.is_keyword.result c.requires.opened
    (c.is_keyword.ensures.keyword.0, c.is_keyword.ensures.keyword.1))) (λ list. members_list list.items) c.in_ok-members.members
    c.in_ok-members.ensures.parsed c.structure.result c.structure.ensures.word b.1 (let n = b.0 in omega arith)

pub specs::with_body-returns-in_err-constants-clause-element : goal.specs::with_body-returns-in_err-constants-clause-element
specs::with_body-returns-in_err-constants-clause-element t c =
    let e : c.from_residual-in_err-constants.result ≡ Err c.in_err-constants.field-0.0 = search rules in
    subst (ElementAnswer c.args.source.now.names.now c.args.limit c.args.source.now.tokens.now c.args.at) (sym e)
    (enum_stops c.args.source.now.names.now c.args.limit (c.args.limit - 1) (let some = c.requires.some in
    omega arith) (let enough = c.if-limit-lt2.false in
    omega arith) (name_in c.args.tag) c.args.source.now.tokens.now c.args.at (c.args.brace + 1)
    (subst (λ (b : Bool).
    Spells c.args.source.now.tokens.now c.args.at (c.args.brace + 1)
    (λ rest. tag_keyword b ∷ name_text (name_in c.args.tag) (token.Punctuator punctuator.OpenBrace ∷ rest))) c.if-is_keyword.false
    (with_struct c.args.source.now.tokens.now c.args.at c.args.brace (name_in c.args.tag) c.is_keyword.result c.requires.opened
    (c.is_keyword.ensures.keyword.0, c.is_keyword.ensures.keyword.1))) c.in_err-constants.field-0.0 c.in_err-constants.ensures.parsed)

pub specs::with_body-returns-clause-element : goal.specs::with_body-returns-clause-element
specs::with_body-returns-clause-element t c =
    let b = c.enumeration.ensures.bounds in
    enum_found c.args.source.now.names.now c.args.limit (c.args.limit - 1) (let some = c.requires.some in
    omega arith) (name_in c.args.tag) c.args.source.now.tokens.now c.args.at (c.args.brace + 1) (let o = c.requires.onward in
    omega arith)
    (subst (λ (b : Bool).
    Spells c.args.source.now.tokens.now c.args.at (c.args.brace + 1)
    (λ rest. tag_keyword b ∷ name_text (name_in c.args.tag) (token.Punctuator punctuator.OpenBrace ∷ rest))) c.if-is_keyword.false
    (with_struct c.args.source.now.tokens.now c.args.at c.args.brace (name_in c.args.tag) c.is_keyword.result c.requires.opened
    (c.is_keyword.ensures.keyword.0, c.is_keyword.ensures.keyword.1))) constant_row c.in_ok-constants.constants c.in_ok-constants.ensures.parsed
    c.enumeration.result c.enumeration.ensures.word b.1 (let n = b.0 in omega arith)

pub specs::with_body-returns-then-limit-lt2-clause-element : goal.specs::with_body-returns-then-limit-lt2-clause-element
specs::with_body-returns-then-limit-lt2-clause-element t c =
    let o = c.requires.opened in
    let f : o.is_struct ≡ false =
    same_struct o.is_struct false (kind_or_end c.args.source.now.tokens.now c.args.at) o.stands (
      (λ e. absurd (false≢true e)),
      (λ k. sym c.if-is_keyword.false ∙ c.is_keyword.ensures.keyword.1 k),
    ) in
    subst (ElementStops c.args.source.now.names.now c.args.limit c.args.source.now.tokens.now c.args.at) (sym c.refuse_deep.ensures.is)
    (enum_little c.args.source.now.names.now c.args.limit c.requires.some c.if-limit-lt2.true (name_in c.args.tag) c.args.source.now.tokens.now c.args.at
    c.args.brace (subst (λ (b : Bool).
    Spells c.args.source.now.tokens.now c.args.at c.args.brace (λ rest. tag_keyword b ∷ name_text (name_in c.args.tag) rest)) f o.spelled) o.opening)

pub specs::tagged-with_body-requires : goal.specs::tagged-with_body-requires
specs::tagged-with_body-requires t c = (
  omega arith,
  (
    opened_later c.args.source.now.tokens.now c.args.at c.after_tag-following.result c.in_ok-tag.tag c.after_tag-following.ensures,
    (
      c.is_punctuator.ensures.within c.if-is_punctuator.true,
      (
        c.requires.few,
        (
          c.requires.some,
          opened_at c.args.source.now.tokens.now c.args.at c.after_tag-following.result c.in_ok-tag.tag c.requires.stands c.in_ok-tag.ensures.name
              c.after_tag-following.ensures (c.is_punctuator.ensures.punctuator.0 c.if-is_punctuator.true),
        ),
      ),
    ),
  ),
)

pub specs::tagged-returns-then-is_punctuator-clause-placed : goal.specs::tagged-returns-then-is_punctuator-clause-placed
specs::tagged-returns-then-is_punctuator-clause-placed t c = c.with_body.ensures.placed c.in_ok-tag.ensures.placed

pub specs::tagged-returns-in-Some-clause-placed : goal.specs::tagged-returns-in-Some-clause-placed
specs::tagged-returns-in-Some-clause-placed t c =
    let k = c.requires.stands in
    tagged_placed c.args.source.now.tokens.now c.args.at k.0 c.in-Some.tag.name c.in-Some.tag.place c.without_body.result
    (c.without_body.ensures.word.one k.0 k.1) c.without_body.ensures.tag
    (subst (λ (x : Option RawName). IsNamePlaced x (drop (c.args.at + 1) c.args.source.now.tokens.now)) c.in-Some.is c.in_ok-tag.ensures.placed)

pub specs::tagged-returns-in-Some-clause-element : goal.specs::tagged-returns-in-Some-clause-element
specs::tagged-returns-in-Some-clause-element t c =
    tagged_found c.args.source.now.names.now c.args.limit c.requires.some c.args.source.now.tokens.now c.args.at c.after_tag-following.result c.in_ok-tag.tag
    c.in-Some.tag c.in-Some.is c.requires.stands c.in_ok-tag.ensures.name c.after_tag-following.ensures
    (λ b. false≢true (sym c.if-is_punctuator.false ∙ c.is_punctuator.ensures.punctuator.1 b)) c.without_body.result c.without_body.ensures.word
    c.without_body.ensures.bounds.1 c.without_body.ensures.bounds.0

pub specs::tagged-returns-in-None-clause-element : goal.specs::tagged-returns-in-None-clause-element
specs::tagged-returns-in-None-clause-element t c =
    untagged_stops c.args.source.now.names.now c.args.limit c.requires.some c.args.source.now.tokens.now c.args.at c.after_tag-following.result c.in_ok-tag.tag
    c.in-None.is c.requires.stands c.in_ok-tag.ensures.name c.after_tag-following.ensures
    (λ b. false≢true (sym c.if-is_punctuator.false ∙ c.is_punctuator.ensures.punctuator.1 b)) c.refuse.result c.refuse.ensures.is

pub members::member-returns-then-not-begins_specs-clause-parsed : goal.members::member-returns-then-not-begins_specs-clause-parsed
members::member-returns-then-not-begins_specs-clause-parsed t c =
    member_absent c.args.source.now.names.now c.args.limit c.args.source.now.tokens.now c.args.from c.refuse.result c.requires.within
    (sym c.begins_specs.ensures ∙ c.if-not-begins_specs.true) c.refuse.ensures.is

pub members::member-returns-then-limit-lt2-clause-parsed : goal.members::member-returns-then-limit-lt2-clause-parsed
members::member-returns-then-limit-lt2-clause-parsed t c =
    member_full c.args.source.now.names.now c.args.limit c.args.source.now.tokens.now c.args.from c.refuse_deep.result c.requires.within c.if-limit-lt2.true
    (sym c.begins_specs.ensures ∙ c.if-not-begins_specs.false) c.refuse_deep.ensures.is

pub members::member-returns-in_err-specs-clause-parsed : goal.members::member-returns-in_err-specs-clause-parsed
members::member-returns-in_err-specs-clause-parsed t c =
    let e : c.from_residual.result ≡ Err c.in_err-specs.field-0.0 = search rules in
    let enough = c.if-limit-lt2.false in
    subst (ExactAnswers (MemberGroups c.args.source.now.names.now) group c.args.limit c.args.source.now.tokens.now c.args.from) (sym e)
    (member_specs_stop c.args.source.now.names.now c.args.limit (c.args.limit - 1) (omega arith) (omega arith) c.args.source.now.tokens.now c.args.from
    c.requires.within c.in_err-specs.field-0.0 c.in_err-specs.ensures.parsed)

pub members::member-returns-in_err-members-clause-parsed : goal.members::member-returns-in_err-members-clause-parsed
members::member-returns-in_err-members-clause-parsed t c =
    let e : c.from_residual-in_err-members.result ≡ Err c.in_err-members.field-0.0 = search rules in
    let enough = c.if-limit-lt2.false in
    subst (ExactAnswers (MemberGroups c.args.source.now.names.now) group c.args.limit c.args.source.now.tokens.now c.args.from) (sym e)
    (member_list_stops c.args.source.now.names.now c.args.limit (c.args.limit - 1) (omega arith) (omega arith) c.args.source.now.tokens.now c.args.from
    c.in_ok-specs.specs c.in_ok-specs.ensures.parsed c.in_err-members.field-0.0 c.in_err-members.ensures.parsed)

pub members::member-returns-clause-parsed : goal.members::member-returns-clause-parsed
members::member-returns-clause-parsed t c =
    let enough = c.if-limit-lt2.false in
    let h : c.max.result ≡ max c.in_ok-specs.specs.height c.in_ok-members.members.height = c.max.ensures in
    member_taken c.args.source.now.names.now c.args.limit (c.args.limit - 1) (omega arith) (omega arith) c.args.source.now.tokens.now c.args.from
    c.in_ok-specs.specs c.in_ok-specs.ensures.parsed (λ list. map declarator list.items) c.in_ok-members.members c.in_ok-members.ensures.parsed _ refl
    (ap (λ (n : ℕ). n + 1) h) refl

pub members::member-returns-clause-placed : goal.members::member-returns-clause-placed
members::member-returns-clause-placed t c = (
  c.in_ok-specs.ensures.placed,
  declarators_after c.in_ok-specs.specs.tree c.in_ok-members.members.tree.items c.args.source.now.tokens.now c.args.from c.in_ok-specs.specs.next
      c.in_ok-specs.ensures.parsed.spelled c.in_ok-members.ensures.placed,
)

pub members::members-members-init : goal.members::members-members-init
members::members-members-init t c = record {
  onward = omega arith;
  inside = c.requires.within;
  low = omega arith;
  placed = subst (λ (x : List RawMember). SidePlaced IsGroupPlaced group_text c.args.source.now.tokens.now c.args.from x c.args.from)
      (sym c.new-list.ensures.items) (side_begun IsGroupPlaced group_text c.args.source.now.tokens.now c.args.from);
  so_far = subst (λ (x : List RawMember). MembersSoFar c.args.source.now.names.now c.args.limit c.args.source.now.tokens.now c.args.from c.args.from x 0)
      (sym c.new-list.ensures.items) (members_none c.args.source.now.names.now c.args.limit c.args.source.now.tokens.now c.args.from c.requires.within);
}

pub members::members-members-preserved : goal.members::members-members-preserved
members::members-members-preserved t c =
    let i = c.members.invariant in
    let b = c.in_ok-taken.ensures.bounds in
    let h : c.max-height.result ≡ max c.members.height c.in_ok-taken.taken.height = c.max-height.ensures
    ∙ max_is c.members.height c.in_ok-taken.taken.height in
    record {
      onward = omega arith;
      inside = b.1;
      low = omega arith;
      placed = side_goes_on IsGroupPlaced group_text group_framed c.args.source.now.tokens.now c.args.from c.members.list.items c.push.new.self.items
          c.members.next c.in_ok-taken.taken.tree c.in_ok-taken.taken.next i.placed c.in_ok-push.ensures.items c.in_ok-taken.ensures.parsed.spelled
          c.in_ok-taken.ensures.placed;
      so_far =
          subst (λ (x : ℕ).
          MembersSoFar c.args.source.now.names.now c.args.limit c.args.source.now.tokens.now c.args.from c.in_ok-taken.taken.next c.push.new.self.items x)
          (sym h)
          (member_more c.args.source.now.names.now c.args.limit c.args.source.now.tokens.now c.args.from c.members.next c.members.list.items
          c.push.new.self.items c.members.height i.so_far c.in_ok-taken.taken c.in_ok-taken.ensures.parsed c.in_ok-push.ensures.items);
    }

pub members::members-returns-in_err-taken-clause-parsed : goal.members::members-returns-in_err-taken-clause-parsed
members::members-returns-in_err-taken-clause-parsed t c =
    let e : c.from_residual.result ≡ Err c.in_err-taken.field-0.0 = search rules in
    subst (ExactAnswers (MemberRows c.args.source.now.names.now) (λ list. members_list list.items) c.args.limit c.args.source.now.tokens.now c.args.from)
    (sym e)
    (member_stops c.args.source.now.names.now c.args.limit c.args.source.now.tokens.now c.args.from c.members.next c.members.list.items c.members.height
    c.members.invariant.so_far (λ k. false≢true (sym c.members-test.true ∙ c.is_punctuator.ensures.punctuator.1 k)) c.in_err-taken.field-0.0
    c.in_err-taken.ensures.parsed)

pub members::members-returns-clause-parsed : goal.members::members-returns-clause-parsed
members::members-returns-clause-parsed t c =
    members_taken c.args.source.now.names.now c.args.limit c.args.source.now.tokens.now c.args.from c.members.next c.members.list.items c.members.height
    c.members.invariant.so_far (c.is_punctuator.ensures.punctuator.0 c.members-test.false) (λ list. members_list list.items) _ refl refl refl

pub members::members-returns-clause-placed : goal.members::members-returns-clause-placed
members::members-returns-clause-placed t c = c.members.invariant.placed.row

pub specs::word_at-returns-then-not-begins_tagged-clause-apt : goal.specs::word_at-returns-then-not-begins_tagged-clause-apt
specs::word_at-returns-then-not-begins_tagged-clause-apt t c =
    answer_apt scope_of.File c.args.source.now.tokens.now c.plain_word.result c.plain_word.ensures.apt

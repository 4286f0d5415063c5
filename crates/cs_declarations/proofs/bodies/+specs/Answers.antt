use Rattle.std.proofs.Common.{◌≡◌, Err, Some, OnOk, List, rules, refl, sym, ap, subst, ◌∙◌}
use Rattle.std.proofs.lemmas.List.{drop_all}
use Rattle.cs_types.specs.Shape.{shape_of}
use Rattle.cs_ast.specs.declared.raw.declaration.RawMember.{RawMember}
use Rattle.cs_scopes.specs.Verdicts.{Verdict, Fine, lift, IsRefused, Answers}
use Rattle.cs_scopes.specs.TypeNames.{tag_place, whole_word}
use Rattle.cs_scopes.proofs.Lifting.{lift-fine, lift-refused}
use Rattle.cs_declarations.specs.Answered.{AnswersWith}
use Rattle.cs_declarations.specs.Bodies.{Typing, Opening, Body, plain_words, word_type, words_type, specs_type, opening, struct_body, enum_body, struct_read}
use Rattle.cs_declarations.specs.Bodies.{members_of_list, members_declared, group_declared, group_of, first_name, nothing_laid}
use Rattle.cs_declarations.specs.View.{environment_of, typing, opened_as, body, laying}
use Rattle.cs_declarations.proofs.Beside.{known_beside}
use Rattle.cs_declarations.proofs.BodyRows.{struct_among, enum_among, tag_reported, word_reported}
use Rattle.cs_declarations.proofs.ClosedBodies.{members_stop, body_closed}
use Rattle.cs_declarations.proofs.FoldedSoFar.{GoesOver, part_taken, part_stops}
use Rattle.cs_declarations.proofs.SoundBodies.{specs_type-leaves}
use Rattle.cs_declarations.proofs.bodies.+specs.Goals as goal

pub group_read-returns-in_err-base-clause-reported : goal.group_read-returns-in_err-base-clause-reported
group_read-returns-in_err-base-clause-reported t c =
    let k = environment_of c.args.known.now in
    let group = c.args.group.now in
    let before = laying c.args.before in
    let at : c.first_name-place.result ≡ first_name group.declarators.items = c.first_name-place.ensures ∙ ap first_name c.deref.ensures.value in
    let refused : IsRefused (specs_type k (first_name group.declarators.items) group.specs) c.in_err-base.field-0.0 =
    subst (λ p. IsRefused (specs_type k p group.specs) c.in_err-base.field-0.0) at c.in_err-base.ensures.reported in
    let e : c.from_residual.result ≡ Err c.in_err-base.field-0.0 = search rules in
    subst (λ r. AnswersWith body (group_of k group before) r c.specs_type.new.known) (sym e)
    (lift-refused (group_declared group.declarators.items before) (specs_type k (first_name group.declarators.items) group.specs) c.in_err-base.field-0.0
    refused)

pub group_read-returns-clause-reported : goal.group_read-returns-clause-reported
group_read-returns-clause-reported t c =
    let k = environment_of c.args.known.now in
    let following = c.specs_type.new.known in
    let group = c.args.group.now in
    let before = laying c.args.before in
    let base = shape_of c.in_ok-base.base in
    let rule : Typing → Verdict Body = group_declared group.declarators.items before in
    let at : c.first_name-place.result ≡ first_name group.declarators.items = c.first_name-place.ensures ∙ ap first_name c.deref.ensures.value in
    let whole : group_of k group before ≡ rule (typing c.in_ok-base.base following) = ap (λ p. lift rule (specs_type k p group.specs)) (sym at)
    ∙ ap (lift rule) c.in_ok-base.ensures.reported ∙ lift-fine rule (typing c.in_ok-base.base following) in
    let added : Answers laying (members_declared following.context base group.declarators.items before) c.add_members.result =
    subst (λ ds. Answers laying (members_declared following.context base ds before) c.add_members.result) c.deref-2.ensures.value c.add_members.ensures in
    subst (λ v. AnswersWith body v c.add_members.result following) (sym whole)
    (known_beside laying (λ l. Fine (record { laying = l; known = environment_of following })) body
    (members_declared following.context base group.declarators.items before) c.add_members.result following (λ l. refl) added)

-- the members of groups, and those of one group, after the members so far
groups_read : List RawMember → Body → Verdict Body
groups_read groups so_far = members_of_list so_far.known groups so_far.laying

group_after : RawMember → Body → Verdict Body
group_after group so_far = group_of so_far.known group so_far.laying

groups_over : GoesOver groups_read group_after
unfolding groups_read group_after
groups_over = (λ gs g b. refl, λ b. refl)

pub members_read-returns-in_err-so_far-clause-reported : goal.members_read-returns-in_err-so_far-clause-reported
unfolding groups_read group_after
members_read-returns-in_err-so_far-clause-reported t c =
    let whole = members_of_list (environment_of c.args.known.now) c.args.groups.now nothing_laid in
    let e : c.from_residual.result ≡ Err c.in_err-so_far.field-0.0 = search rules in
    subst (λ r. AnswersWith body whole r c.group_read.new.known) (sym e)
    (part_stops groups_read group_after groups_over c.args.groups.now c.loop-group.group-index c.group-item.result whole
    (body c.loop-group.so_far c.loop-group.known) c.in_err-so_far.field-0.0 c.loop-group-test.true c.group-item.is c.loop-group.invariant.reported
    c.in_err-so_far.ensures.reported)

pub members_read-loop-group-preserved : goal.members_read-loop-group-preserved
unfolding groups_read group_after
members_read-loop-group-preserved t c =
    let whole = members_of_list (environment_of c.args.known.now) c.args.groups.now nothing_laid in
    record {
      reported = part_taken groups_read group_after groups_over c.args.groups.now c.loop-group.group-index c.group-item.result whole
          (body c.loop-group.so_far c.loop-group.known) (body c.in_ok-so_far.so_far c.group_read.new.known) c.loop-group-test.true c.group-item.is
          c.loop-group.invariant.reported c.in_ok-so_far.ensures.reported;
      reading = c.in_ok-so_far.ensures.reading ∙ c.loop-group.invariant.reading;
    }

pub specs_type-returns-in-Struct-clause-reported : goal.specs_type-returns-in-Struct-clause-reported
specs_type-returns-in-Struct-clause-reported t c =
    let k = environment_of c.args.known.now in
    let specs = c.args.specs.now in
    let at = c.args.place in
    let tag = c.in-Struct.tag in
    let whole : struct_body (environment_of c.loop-word.known) c.unwrap_or-tag_place.result tag c.deref.result.now ≡ specs_type k at specs =
    ap (λ h. struct_body (environment_of h) c.unwrap_or-tag_place.result tag c.deref.result.now) c.loop-word.invariant.same
    ∙ ap (λ p. struct_body k p tag c.deref.result.now) (c.unwrap_or-tag_place.ensures ∙ tag_reported specs.tag at)
    ∙ ap (λ ms. struct_body k (tag_place at specs.tag) tag ms) c.deref.ensures.value
    ∙ sym (struct_among k specs.tag at (plain_words specs.words.items) c.deref-word-items.result.now c.loop-word.word-index c.word-item.result
    c.loop-word-test.true c.word-item.is tag c.in-Struct.members c.in-Struct.is)
    ∙ c.loop-word.invariant.reported in
    subst (λ v. AnswersWith typing v c.struct_body.result c.struct_body.new.known) whole c.struct_body.ensures.reported

pub specs_type-returns-in-Struct-clause-reading : goal.specs_type-returns-in-Struct-clause-reading
specs_type-returns-in-Struct-clause-reading t c =
    subst (λ h. OnOk c.struct_body.result (c.struct_body.new.known.reading.items ≡ h.reading.items)) c.loop-word.invariant.same c.struct_body.ensures.reading

pub specs_type-returns-in-Struct-clause-laid_out : goal.specs_type-returns-in-Struct-clause-laid_out
specs_type-returns-in-Struct-clause-laid_out t c =
    specs_type-leaves (environment_of c.args.known.now) c.args.place c.args.specs.now c.struct_body.result c.struct_body.new.known
    (specs_type-returns-in-Struct-clause-reported t c)

pub specs_type-returns-in-Enum-clause-reported : goal.specs_type-returns-in-Enum-clause-reported
specs_type-returns-in-Enum-clause-reported t c =
    let k = environment_of c.args.known.now in
    let specs = c.args.specs.now in
    let at = c.args.place in
    let tag = c.in-Enum.tag in
    let whole : enum_body (environment_of c.loop-word.known) c.unwrap_or-tag_place.result tag c.deref-in-Enum.result.now ≡ specs_type k at specs =
    ap (λ h. enum_body (environment_of h) c.unwrap_or-tag_place.result tag c.deref-in-Enum.result.now) c.loop-word.invariant.same
    ∙ ap (λ p. enum_body k p tag c.deref-in-Enum.result.now) (c.unwrap_or-tag_place.ensures ∙ tag_reported specs.tag at)
    ∙ ap (λ constants. enum_body k (tag_place at specs.tag) tag constants) c.deref-in-Enum.ensures.value
    ∙ sym (enum_among k specs.tag at (plain_words specs.words.items) c.deref-word-items.result.now c.loop-word.word-index c.word-item.result
    c.loop-word-test.true c.word-item.is tag c.in-Enum.constants c.in-Enum.field-2 c.in-Enum.is)
    ∙ c.loop-word.invariant.reported in
    subst (λ v. AnswersWith typing v c.enum_body.result c.enum_body.new.known) whole c.enum_body.ensures.reported

pub specs_type-returns-in-Enum-clause-reading : goal.specs_type-returns-in-Enum-clause-reading
specs_type-returns-in-Enum-clause-reading t c =
    subst (λ h. OnOk c.enum_body.result (c.enum_body.new.known.reading.items ≡ h.reading.items)) c.loop-word.invariant.same c.enum_body.ensures.reading

pub specs_type-returns-in-Enum-clause-laid_out : goal.specs_type-returns-in-Enum-clause-laid_out
specs_type-returns-in-Enum-clause-laid_out t c =
    specs_type-leaves (environment_of c.args.known.now) c.args.place c.args.specs.now c.enum_body.result c.enum_body.new.known
    (specs_type-returns-in-Enum-clause-reported t c)

pub specs_type-returns-clause-reported : goal.specs_type-returns-clause-reported
specs_type-returns-clause-reported t c =
    let k = environment_of c.args.known.now in
    let specs = c.args.specs.now in
    let at = c.args.place in
    let all = plain_words specs.words.items in
    let whole : word_type (environment_of c.loop-word.known) (Some c.unwrap_or-tag_place.result) at (plain_words c.deref-2.result.now)
    (whole_word (plain_words c.deref-2.result.now)) ≡ specs_type k at specs =
    ap (λ h.
    word_type (environment_of h) (Some c.unwrap_or-tag_place.result) at (plain_words c.deref-2.result.now) (whole_word (plain_words c.deref-2.result.now)))
    c.loop-word.invariant.same
    ∙ ap (λ p. word_type k (Some p) at (plain_words c.deref-2.result.now) (whole_word (plain_words c.deref-2.result.now))) (c.unwrap_or-tag_place.ensures
    ∙ tag_reported specs.tag at)
    ∙ ap (λ ws. word_type k (Some (tag_place at specs.tag)) at (plain_words ws) (whole_word (plain_words ws))) c.deref-2.ensures.value
    ∙ word_reported k specs.tag at all (whole_word all)
    ∙ ap (words_type k specs.tag at all) (sym (drop_all c.loop-word.word-index c.deref-word-items.result.now c.loop-word-test.false))
    ∙ c.loop-word.invariant.reported in
    subst (λ v. AnswersWith typing v c.word_type.result c.word_type.new.known) whole c.word_type.ensures.reported

pub specs_type-returns-clause-reading : goal.specs_type-returns-clause-reading
specs_type-returns-clause-reading t c =
    subst (λ h. OnOk c.word_type.result (c.word_type.new.known.reading.items ≡ h.reading.items)) c.loop-word.invariant.same c.word_type.ensures.reading

pub specs_type-returns-clause-laid_out : goal.specs_type-returns-clause-laid_out
specs_type-returns-clause-laid_out t c =
    specs_type-leaves (environment_of c.args.known.now) c.args.place c.args.specs.now c.word_type.result c.word_type.new.known
    (specs_type-returns-clause-reported t c)

pub struct_body-returns-in_err-number-clause-reported : goal.struct_body-returns-in_err-number-clause-reported
struct_body-returns-in_err-number-clause-reported t c =
    let k = environment_of c.args.known.now in
    let name = c.args.tag.now in
    let groups = c.args.members.now in
    let rule : Opening → Verdict Typing = λ o. lift (struct_read o k.reading name) (members_of_list o.known groups nothing_laid) in
    let e : c.from_residual.result ≡ Err c.in_err-number.field-0.0 = search rules in
    subst (λ r. AnswersWith typing (struct_body k c.args.place name groups) r c.begin_struct.new.known) (sym e)
    (lift-refused rule (opening c.args.place name k) c.in_err-number.field-0.0 c.in_err-number.ensures.reported)

pub struct_body-returns-in_err-laying-clause-reported : goal.struct_body-returns-in_err-laying-clause-reported
struct_body-returns-in_err-laying-clause-reported t c =
    let k = environment_of c.args.known.now in
    let name = c.args.tag.now in
    let groups = c.args.members.now in
    let e : c.from_residual-in_err-laying.result ≡ Err c.in_err-laying.field-0.0 = search rules in
    subst (λ r. AnswersWith typing (struct_body k c.args.place name groups) r c.members_read.new.known) (sym e)
    (members_stop k c.args.place name groups (opened_as c.in_ok-number.number c.begin_struct.new.known) c.in_ok-number.ensures.reported
    c.in_err-laying.field-0.0 c.in_err-laying.ensures.reported)

pub struct_body-returns-clause-reported : goal.struct_body-returns-clause-reported
struct_body-returns-clause-reported t c =
    let k = environment_of c.args.known.now in
    body_closed k c.args.place c.args.tag.now c.args.members.now (opened_as c.in_ok-number.number c.begin_struct.new.known) c.in_ok-number.ensures.reported
    (body c.in_ok-laying.laying c.members_read.new.known) (environment_of c.complete_struct.new.self) c.in_ok-laying.ensures.reported
    (c.in_ok-laying.ensures.reading ∙ c.in_ok-number.ensures.reading) c.in_ok-complete_struct.ensures

use Rattle.std.proofs.Common.{sym, ◌∙◌}
use Rattle.std.specs.Int.{w128}
use Rattle.std.proofs.lemmas.Int.{to_z-of_z}
use Rattle.cs_eval.proofs.CasePieces.{pushed_none, pushed_some, case_made}
use Rattle.cs_eval.proofs.CheckedTerms.{wide_values}
use Rattle.cs_eval.proofs.cases.push_case.Goals as goal

pub assume-requires-clause-values : goal.assume-requires-clause-values
assume-requires-clause-values c = wide_values _ _ c.requires

pub returns-then-not-contains : goal.returns-then-not-contains
returns-then-not-contains c =
    let value = to_z-of_z w128 c.args.value c.ranges.value in
    pushed_none c.args.constraints.now c.args.term c.args.number c.args.value c.args.left c.args.pieces.now.items c.requires
    (rw value at (sym c.contains.ensures ∙ c.if-not-contains.true))

pub returns : goal.returns
returns c =
    let value = to_z-of_z w128 c.args.value c.ranges.value in
    pushed_some c.args.constraints.now c.args.term c.args.number c.args.value c.args.left c.in_ok-taken.taken c.in_ok-rest.rest c.in_ok-kept.kept
    c.args.pieces.now.items c.push_exact.new.pieces.items (rw value at c.in_ok-check_inside.ensures)
    (rw value at (sym c.contains.ensures ∙ c.if-not-contains.false)) (λ x. rw value at (c.in_ok-taken.ensures.numbers x)) c.in_ok-rest.ensures
    c.in_ok-kept.ensures
    (case_made c.args.number c.in_ok-case_shown.field-0 c.in_ok-kept.kept c.args.pieces.now.items c.push_exact.new.pieces.items
    c.in_ok-case_shown.ensures.label c.in_ok-case_shown.ensures.answer c.in_ok-push_exact.ensures)

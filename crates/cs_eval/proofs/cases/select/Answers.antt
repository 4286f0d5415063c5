use Rattle.std.proofs.Common.{◌≡◌, ℕ, suc, ◌+◌, ℤ, pos, length, get_or, subst, sym, arith, rules, to_z, of_z}
use Rattle.std.specs.Int.{w128}
use Rattle.std.proofs.lemmas.Option.{slice_get-get_or}
use Rattle.cs_cfg.specs.declared.code.SwitchCase.{SwitchCase}
use Rattle.cs_eval.specs.Cases.{AreFirst, AreLeft, IsCaseAt}
use Rattle.cs_eval.proofs.CasePieces.{case_at, case_made, last_pushed}
use Rattle.cs_eval.proofs.CheckedTerms.{wide_values}
use Rattle.cs_eval.proofs.cases.select.Goals as goal

pub assume-requires-clause-values : goal.assume-requires-clause-values
assume-requires-clause-values c = wide_values _ _ c.in_ok-check_wide.ensures

pub loop-number-preserved : goal.loop-number-preserved
loop-number-preserved c =
    let cases = c.args.cases.now in
    let n = c.loop-number.number in
    let none : SwitchCase = record { value = pos 0; block = 0 } in
    let one : SwitchCase = get_or cases n none in
    let same : to_z w128 (of_z w128 one.value) ≡ one.value = search rules in
    let next : n + 1 ≡ suc n = omega arith in
    let here : IsCaseAt cases n (to_z w128 (of_z w128 one.value)) =
    subst (λ (x : ℤ). IsCaseAt cases n x) (sym same) (case_at cases n one (slice_get-get_or cases n none c.loop-number-test.true)) in
    let pushed = c.in_ok-left-2.ensures in
    rw next (record {
      left = pushed.left_is cases here c.loop-number.invariant.left;
      first = pushed.first cases here c.loop-number.invariant.left c.loop-number.invariant.first;
    })

pub returns : goal.returns
returns c =
    let cases = c.args.cases.now in
    let n = c.loop-number.number in
    let end : n ≡ length cases = omega (arith, c.loop-number-test.false, c.loop-number.auto.number-end) in
    let left : AreLeft cases (length cases) c.loop-number.left = subst (λ (m : ℕ). AreLeft cases m c.loop-number.left) end c.loop-number.invariant.left in
    let first : AreFirst c.args.constraints.now c.args.term cases (length cases) c.loop-number.pieces.items =
    subst (λ (m : ℕ). AreFirst c.args.constraints.now c.args.term cases m c.loop-number.pieces.items) end c.loop-number.invariant.first in
    last_pushed c.args.constraints.now c.args.term cases c.loop-number.left c.in_ok-kept.kept c.loop-number.pieces.items c.push_exact.new.pieces.items
    c.in_ok-check_wide.ensures left first c.in_ok-kept.ensures
    (case_made (length cases) c.in_ok-case_shown.field-0 c.in_ok-kept.kept c.loop-number.pieces.items c.push_exact.new.pieces.items
    c.in_ok-case_shown.ensures.label c.in_ok-case_shown.ensures.answer c.in_ok-push_exact.ensures)

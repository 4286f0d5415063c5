use Rattle.std.proofs.Common.{◌≡◌, pos, get_or, sym, ◌∙◌, subst, to_z, of_z, rules}
use Rattle.std.specs.Int.{w128}
use Rattle.std.specs.List.{Contains}
use Rattle.std.proofs.lemmas.List.Elements.{Contains-get_or}
use Rattle.cs_ranges.specs.Interval.{IsInside}
use Rattle.cs_terms.specs.Term.{value_at}
use Rattle.cs_access.specs.Offsets.{IsTried}
use Rattle.cs_access.proofs.Stepping.{in_order_only, tried_next}
use Rattle.cs_access.proofs.reaching.steps_at.Goals as goal

pub push_at-requires-clause-inside : goal.push_at-requires-clause-inside
push_at-requires-clause-inside c =
    let items = c.deref-number-items.result.now in
    let number = get_or items c.loop-number.number-index (pos 0) in
    let same : to_z w128 (of_z w128 (get_or c.deref-number-items.result.now c.loop-number.number-index (pos 0)))
    ≡ get_or c.deref-number-items.result.now c.loop-number.number-index (pos 0) = search rules in
    let there = subst (λ l. Contains l number) (c.deref-number-items.ensures.value ∙ c.by_offset-numbers.ensures)
    (Contains-get_or items c.loop-number.number-index (pos 0) c.loop-number-test.true) in
    subst (λ n. IsInside (value_at c.args.offset n)) (sym same)
    (c.requires.inside number (in_order_only c.args.offset c.args.numbers.items number there))

pub loop-number-preserved : goal.loop-number-preserved
loop-number-preserved c =
    let items = c.deref-number-items.result.now in
    let same : to_z w128 (of_z w128 (get_or c.deref-number-items.result.now c.loop-number.number-index (pos 0)))
    ≡ get_or c.deref-number-items.result.now c.loop-number.number-index (pos 0) = search rules in
    tried_next c.args.state.now c.args.offset items c.loop-number.number-index (pos 0) c.loop-number.steps.items c.push_at.new.steps.items
    c.loop-number-test.true c.loop-number.invariant
    (subst (λ n. IsTried c.args.state.now c.args.offset (value_at c.args.offset n) c.loop-number.steps.items c.push_at.new.steps.items) same
    c.in_ok-push_at.ensures)

use Rattle.std.proofs.Common.{◌≢◌, ◌<◌, List, length, get_or, true≢false, sym, ap, ◌∙◌, subst, arith}
use Rattle.std.proofs.lemmas.List.{take_all}
use Rattle.std.proofs.lemmas.List.Elements.{All-more}
use Rattle.cs_successors.specs.Coming.{StateEnd}
use Rattle.cs_children.specs.Adding.{HaveOthers}
use Rattle.cs_children.proofs.children.Children.has_end.Goals as goal

pub loop-found-preserved : goal.loop-found-preserved
loop-found-preserved c =
    let ends = c.args.self.now.ends.items in
    let value = c.deref-found-items.ensures.value in
    let within = subst (λ (items : List StateEnd). c.loop-found.found-index < length items) value c.loop-found-test.true in
    let item = c.loop-found-item.result in
    let here = c.loop-found-item.is ∙ ap (λ (items : List StateEnd). get_or items c.loop-found.found-index item) value in
    All-more (λ (end : StateEnd). end.0 ≢ c.args.outcome) ends c.loop-found.found-index item within c.loop-found.invariant
    (λ same. true≢false (sym (c.is_same.ensures (ap (λ (end : StateEnd). end.0) here ∙ same)) ∙ c.if-is_same.false))

pub returns : goal.returns
returns c = λ none.
    let ends = c.args.self.now.ends.items in
    let many = ap length c.deref-found-items.ensures.value in
    let bound = c.loop-found-test.false in
    subst (HaveOthers c.args.outcome) (take_all c.loop-found.found-index ends (omega (arith, many, bound))) c.loop-found.invariant

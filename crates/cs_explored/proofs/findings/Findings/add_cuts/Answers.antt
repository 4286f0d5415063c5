use Rattle.std.proofs.Common.{List, refl, sym, subst, take, get_or, arith}
use Rattle.std.proofs.lemmas.List.{take_more, take_all}
use Rattle.cs_results.specs.declared.result.Cut.{Cut}
use Rattle.cs_results.specs.declared.result.Cut.TheVariants.{Nodes}
use Rattle.cs_explored.specs.Placing.{AddsCuts}
use Rattle.cs_explored.proofs.Placed.{CutSoFar, cut_none, cut_next}
use Rattle.cs_explored.proofs.findings.Findings.add_cuts.Goals as goal

pub loop-cut-init : goal.loop-cut-init
loop-cut-init c = cut_none c.args.self.now

pub loop-cut-preserved : goal.loop-cut-preserved
loop-cut-preserved c =
    let cuts = c.args.cuts.now in
    let k = c.loop-cut.cut-index in
    let one : Cut = get_or cuts k (Nodes 0) in
    subst (λ (new : List Cut). CutSoFar new c.args.self.now (record c.loop-cut.self { cuts = c.push.new.self }))
    (sym (take_more cuts k (Nodes 0) (omega arith)))
    (cut_next (take k cuts) one c.args.self.now c.loop-cut.self (record c.loop-cut.self { cuts = c.push.new.self }) refl refl refl refl
    c.in_ok-push.ensures.items c.loop-cut.invariant)

pub returns-clause-adds : goal.returns-clause-adds
returns-clause-adds c =
    subst (λ (new : List Cut). AddsCuts new c.args.self.now c.loop-cut.self) (take_all c.loop-cut.cut-index c.args.cuts.now (omega arith))
    c.loop-cut.invariant.adds

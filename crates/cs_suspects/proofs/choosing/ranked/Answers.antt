use Rattle.std.proofs.Common.{◌≡◌, ◌∙◌, ◌+◌, List, true≢false, sym, ap, subst, arith}
use Rattle.std.specs.Prelude.{Some, slice_get, ◌++◌, ◌∷◌, []}
use Rattle.std.proofs.lemmas.Option.{slice_get-get_or}
use Rattle.cs_findings.specs.GoodFindings.{IsFinding}
use Rattle.cs_suspects.specs.declared.choosing.Rank.{Rank}
use Rattle.cs_suspects.specs.Chosen.{numbers_of}
use Rattle.cs_suspects.proofs.ChosenEnds.{RankedSoFar, numbers_push, ranked_none, ranked_more, ranked_past, all_ranked, each_sorted, all_sorted}
use Rattle.cs_suspects.proofs.choosing.ranked.Goals.{then-is_finding+in_ok-guesses+in_ok-push, else-is_finding}
use Rattle.cs_suspects.proofs.choosing.ranked.Goals as goal

pub loop-number-init : goal.loop-number-init
loop-number-init c =
    let ends = c.args.ends.now in
    subst (λ (ranks : List Rank). RankedSoFar ends 0 (numbers_of ranks)) (sym c.new-ranks.ensures.items) (ranked_none ends)

pub loop-number-preserved : goal.loop-number-preserved
loop-number-preserved c =
    let ends = c.args.ends.now in
    let count = c.loop-number.number in
    let end = c.index-ends-number.result in
    let at : slice_get ends count ≡ Some end = slice_get-get_or ends count end c.loop-number-test.true ∙ ap Some (sym c.index-ends-number.is) in
    elim c.if-is_finding.branch [
      | then-is_finding+in_ok-guesses+in_ok-push w ↦
          let ranks = c.loop-number.ranks.items in
          let pushed = numbers_push ranks w.push.new.self.items _ w.in_ok-push.ensures.items in
          let same : numbers_of c.if-is_finding.ranks.items ≡ numbers_of ranks ++ count ∷ [] = rw w.ranks-is pushed in
          subst (RankedSoFar ends (count + 1)) (sym same)
          (ranked_more ends count (numbers_of ranks) end at (c.is_finding.ensures.0 w.if-is_finding.true) c.loop-number.invariant)
      | else-is_finding w ↦
          let other : IsFinding end.outcome → ⊥ = λ is. true≢false (sym (c.is_finding.ensures.1 is) ∙ w.if-is_finding.false) in
          rw w.ranks-is (ranked_past ends count (numbers_of c.loop-number.ranks.items) end at other c.loop-number.invariant)
    ]

pub returns-clause-each : goal.returns-clause-each
returns-clause-each c =
    each_sorted c.args.ends.now c.loop-number.ranks.items c.sort.new.self.items c.in_ok-sort.ensures.permutation c.loop-number.invariant.each

pub returns-clause-all : goal.returns-clause-all
returns-clause-all c =
    let ends = c.args.ends.now in
    all_sorted ends c.loop-number.ranks.items c.sort.new.self.items c.in_ok-sort.ensures.permutation
    (all_ranked ends c.loop-number.number (numbers_of c.loop-number.ranks.items) (omega arith) c.loop-number.invariant)

use Rattle.std.proofs.Common.{◌≡◌, ◌∙◌, ◌+◌, ◌≤◌, List, ℕ, true, false, length, take, get_or, sym, ap, arith}
use Rattle.std.specs.Prelude.{Some, slice_get, ◌++◌, ◌∷◌, []}
use Rattle.std.proofs.lemmas.List.{take_all}
use Rattle.std.proofs.lemmas.Option.{slice_get-get_or, slice_get_within}
use Rattle.std.proofs.lemmas.Bool.Decides.{nat_tests}
use Rattle.cs_events.specs.declared.outcome.Outcome.{Outcome}
use Rattle.cs_findings.specs.GoodFindings.{IsFinding}
use Rattle.cs_suspects.specs.Chosen.{numbers_of, counted, HaveAllFindings, AreOfFindings, IsWanted}
use Rattle.cs_suspects.proofs.ChosenEnds.{no_rank, chosen_none, chosen_next, refused_next, next_number, ranked_end, ranked_finding, all_chosen}
use Rattle.cs_suspects.proofs.choosing.chosen.Goals.{then-branch+in_ok-push, else-branch}
use Rattle.cs_suspects.proofs.choosing.chosen.Goals as goal

pub loop-rank-init : goal.loop-rank-init
loop-rank-init c =
    let ends = c.args.ends.now in
    rw (c.new-counts.ensures.items, c.new-numbers.ensures.items) (chosen_none ends)

pub loop-rank-preserved-in_default : goal.loop-rank-preserved-in_default
loop-rank-preserved-in_default c =
    let ends = c.args.ends.now in
    let ranks = c.deref-rank-items.result.now in
    let each : AreOfFindings ends (numbers_of ranks) = rw c.deref-rank-items.ensures.value c.in_ok-ranks.ensures.each in
    let found = ranked_end ends ranks c.loop-rank.rank-index no_rank c.loop-rank-test.true each in
    let within = slice_get_within ends (get_or ranks c.loop-rank.rank-index no_rank).number found.0 found.1 in
    absurd (grind (arith, nat_tests, c.in_default.ensures.lookup))

pub loop-rank-preserved : goal.loop-rank-preserved
loop-rank-preserved c =
    let ends = c.args.ends.now in
    let ranks = c.deref-rank-items.result.now in
    let k = c.loop-rank.rank-index in
    let end = c.in-Some.end.now in
    let lookup = c.in-Some.ensures.lookup in
    let number : ℕ = (get_or ranks k no_rank).number in
    let at : slice_get ends number ≡ Some end = slice_get-get_or ends number end lookup.3.0 ∙ ap Some (sym lookup.1) in
    let each : AreOfFindings ends (numbers_of ranks) = rw c.deref-rank-items.ensures.value c.in_ok-ranks.ensures.each in
    let finding : IsFinding end.outcome = ranked_finding ends ranks k no_rank end c.loop-rank-test.true each at in
    let before : List ℕ = numbers_of (take k ranks) in
    let counts : List Outcome = counted c.loop-rank.counts.items in
    let after : List Outcome = counted c.is_wanted.new.counts.items in
    let next : numbers_of (take (k + 1) ranks) ≡ before ++ number ∷ [] = next_number ranks k no_rank c.loop-rank-test.true in
    elim c.if-branch.branch [
      | then-branch+in_ok-push w ↦
          let wanted : IsWanted end.outcome counts true after = rw w.if-branch.true at c.in_ok-is_wanted.ensures in
          rw (next, w.numbers-is, w.in_ok-push.ensures.items)
          (chosen_next ends before counts after c.loop-rank.numbers.items number end at finding wanted c.loop-rank.invariant)
      | else-branch w ↦
          let refused : IsWanted end.outcome counts false after = rw w.if-branch.false at c.in_ok-is_wanted.ensures in
          rw (next, w.numbers-is) (refused_next ends before counts after c.loop-rank.numbers.items number end at refused c.loop-rank.invariant)
    ]

pub returns-clause-each : goal.returns-clause-each
returns-clause-each c = c.loop-rank.invariant.each

pub returns-clause-all : goal.returns-clause-all
returns-clause-all c =
    let ends = c.args.ends.now in
    let ranks = c.deref-rank-items.result.now in
    let k = c.loop-rank.rank-index in
    let past : length ranks ≤ k = omega arith in
    let have : HaveAllFindings ends (numbers_of (take k ranks)) =
    rw (take_all k ranks past, c.deref-rank-items.ensures.value) c.in_ok-ranks.ensures.all in
    all_chosen ends (numbers_of (take k ranks)) (counted c.loop-rank.counts.items) c.loop-rank.numbers.items have c.loop-rank.invariant

use Rattle.std.proofs.Common.{All, sym, subst, arith}
use Rattle.std.proofs.lemmas.List.{take_all}
use Rattle.cs_results.specs.declared.result.Cut.TheVariants.{Nodes}
use Rattle.cs_suspects.specs.Spots.{IsNodes}
use Rattle.cs_suspects.proofs.ListedCuts.{kind_more, kind_all, kind_before, kind_last}
use Rattle.cs_suspects.proofs.cuts.splits_of.Goals.{in-Splits+in_ok-raise, in_default}
use Rattle.cs_suspects.proofs.cuts.splits_of.Goals as goal

pub loop-cut-preserved : goal.loop-cut-preserved
loop-cut-preserved c = elim c.match-cut.branch [
  | in-Splits+in_ok-raise w ↦
      rw w.splits-is (record {
        ordered = w.raise.ensures.ordered;
        some = λ none. absurd (w.in_ok-raise.ensures.some none);
        none = λ all.
            let last = kind_last IsNodes c.args.cuts.now c.loop-cut.cut-index (Nodes 0) c.loop-cut-test.true all in
            absurd (subst IsNodes w.in-Splits.is last);
      })
  | in_default w ↦
      rw w.splits-is (record {
        ordered = c.loop-cut.invariant.ordered;
        some = λ none. kind_more IsNodes c.args.cuts.now c.loop-cut.cut-index (Nodes 0) c.loop-cut-test.true (subst IsNodes (sym w.in_default.is) tt)
            (c.loop-cut.invariant.some none);
        none = λ all. c.loop-cut.invariant.none (kind_before IsNodes c.args.cuts.now c.loop-cut.cut-index (Nodes 0) c.loop-cut-test.true all);
      })
]

pub returns-clause-some : goal.returns-clause-some
returns-clause-some c none = kind_all IsNodes c.args.cuts.now c.loop-cut.cut-index (omega arith) (c.loop-cut.invariant.some none)

pub returns-clause-none : goal.returns-clause-none
returns-clause-none c all = c.loop-cut.invariant.none (subst (All IsNodes) (sym (take_all c.loop-cut.cut-index c.args.cuts.now (omega arith))) all)

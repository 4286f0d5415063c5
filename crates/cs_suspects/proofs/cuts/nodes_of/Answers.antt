use Rattle.std.proofs.Common.{sym, subst, arith}
use Rattle.cs_results.specs.declared.result.Cut.TheVariants.{Nodes}
use Rattle.cs_suspects.specs.Spots.{IsSplits}
use Rattle.cs_suspects.proofs.ListedCuts.{kind_more, kind_all}
use Rattle.cs_suspects.proofs.cuts.nodes_of.Goals as goal

pub loop-cut-preserved : goal.loop-cut-preserved
loop-cut-preserved c =
    kind_more IsSplits c.args.cuts.now c.loop-cut.cut-index (Nodes 0) c.loop-cut-test.true (subst IsSplits (sym c.in_default.is) tt) c.loop-cut.invariant

pub returns : goal.returns
returns c = kind_all IsSplits c.args.cuts.now c.loop-cut.cut-index (omega arith) c.loop-cut.invariant

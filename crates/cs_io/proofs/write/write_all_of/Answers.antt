-- The piece that was taken comes after the prefix that was written before.
use Rattle.std.proofs.Common.{rules}
use Rattle.std.proofs.lemmas.List.{take_rest}
use Rattle.cs_io.proofs.Appended.{Appends-take_add}
use Rattle.cs_io.proofs.write.write_all_of.Goals as goal

pub loop-done-preserved : goal.loop-done-preserved
loop-done-preserved g c =
    let piece = simp take_rest at c.in_ok-count.ensures.appends in
    record {
      writes = Appends-take_add _ _ _ c.args.text.now c.loop-done.done c.in_ok-count.count c.loop-done.invariant.writes piece;
      within = search rules;
      faults = search rules;
      empty_takes = search rules;
    }

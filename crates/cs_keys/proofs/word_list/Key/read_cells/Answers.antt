use Rattle.std.proofs.Common.{◌≡◌, ◌∙◌, subst}
use Rattle.std.specs.Prelude.{OnOk}
use Rattle.cs_keys.specs.Live.{live_read}
use Rattle.cs_keys.specs.Words.{with_read}
use Rattle.cs_word_lists.proofs.Folding.{one_more, all_written}
use Rattle.cs_keys.proofs.word_list.Key.read_cells.Goals as goal

pub loop-cell-preserved : goal.loop-cell-preserved
loop-cell-preserved c =
    rw c.in_ok-read_cell.ensures
    (one_more with_read (live_read c.args.constraints.now) _ _ _ _ c.loop-cell-test.true ∙ c.loop-cell.invariant)

pub returns : goal.returns
returns c =
    subst (λ words. OnOk c.word.result (c.word.new.self ≡ words))
    (all_written with_read (live_read c.args.constraints.now) _ _ _ _ c.loop-cell-test.false c.loop-cell.invariant) c.word.ensures.ok

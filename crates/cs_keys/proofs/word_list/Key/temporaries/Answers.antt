use Rattle.std.proofs.Common.{◌≡◌, ◌∙◌, subst}
use Rattle.std.specs.Prelude.{OnOk}
use Rattle.cs_keys.specs.Live.{live_temporary}
use Rattle.cs_keys.specs.Words.{with_temporary}
use Rattle.cs_word_lists.proofs.Folding.{one_more, all_written}
use Rattle.cs_keys.proofs.word_list.Key.temporaries.Goals as goal

pub loop-temporary-preserved : goal.loop-temporary-preserved
loop-temporary-preserved c =
    rw (c.in_ok-temporary.ensures, c.temporary-item.is)
    (one_more with_temporary (live_temporary c.args.constraints.now) _ _ _ _ c.loop-temporary-test.true ∙ c.loop-temporary.invariant)

pub returns : goal.returns
returns c =
    subst (λ words. OnOk c.word.result (c.word.new.self ≡ words))
    (all_written with_temporary (live_temporary c.args.constraints.now) _ _ _ _ c.loop-temporary-test.false c.loop-temporary.invariant) c.word.ensures.ok

use Rattle.std.proofs.Common.{◌≡◌, ◌∙◌, subst}
use Rattle.std.specs.Prelude.{OnOk}
use Rattle.cs_keys.specs.Live.{live_region}
use Rattle.cs_keys.specs.Words.{with_region}
use Rattle.cs_word_lists.proofs.Folding.{one_more_item, one_more_counted, all_items_written}
use Rattle.cs_keys.proofs.word_list.Key.store.Goals as goal

pub loop-base-preserved : goal.loop-base-preserved
loop-base-preserved c = (
  rw c.in_ok-region.ensures
      (one_more_item with_region (live_region c.args.constraints.now) _ _ _ _ c.in-Some.ensures.steps ∙ c.loop-base.invariant.0),
  one_more_counted with_region (live_region c.args.constraints.now) _ _ _ _ _ _ c.in-Some.ensures.steps c.in_ok-count.ensures
      c.loop-base.invariant.1,
)

pub returns : goal.returns
returns c =
    subst (λ words. OnOk c.word.result (c.word.new.self ≡ words))
    (all_items_written with_region (live_region c.args.constraints.now) _ _ _ _ _ c.in-None.ensures.steps.0 c.loop-base.invariant.0
    c.loop-base.invariant.1) c.word.ensures.ok

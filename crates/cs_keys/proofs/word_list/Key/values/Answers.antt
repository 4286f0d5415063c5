use Rattle.std.proofs.Common.{◌≡◌, ◌∙◌, subst}
use Rattle.std.specs.Prelude.{OnOk}
use Rattle.cs_keys.specs.Live.{live_value}
use Rattle.cs_keys.specs.Words.{with_value}
use Rattle.cs_word_lists.proofs.Folding.{one_more, all_written}
use Rattle.cs_keys.proofs.word_list.Key.values.Goals as goal

pub loop-value-preserved : goal.loop-value-preserved
loop-value-preserved c =
    rw c.in_ok-value.ensures
    (one_more with_value (live_value c.args.constraints.now) _ _ _ _ c.loop-value-test.true ∙ c.loop-value.invariant)

pub returns : goal.returns
returns c =
    subst (λ words. OnOk c.word.result (c.word.new.self ≡ words))
    (all_written with_value (live_value c.args.constraints.now) _ _ _ _ c.loop-value-test.false c.loop-value.invariant) c.word.ensures.ok

use Rattle.std.proofs.Common.{◌≡◌, ◌∙◌, subst}
use Rattle.std.specs.Prelude.{OnOk}
use Rattle.cs_keys.specs.Live.{live_term}
use Rattle.cs_keys.specs.Words.{with_term}
use Rattle.cs_word_lists.proofs.Folding.{one_more, all_written}
use Rattle.cs_keys.proofs.word_list.Key.terms.Goals as goal

pub loop-term-preserved : goal.loop-term-preserved
loop-term-preserved c =
    rw c.in_ok-term.ensures
    (one_more with_term (live_term c.args.constraints.now) _ _ _ _ c.loop-term-test.true ∙ c.loop-term.invariant)

pub returns : goal.returns
returns c =
    subst (λ words. OnOk c.word.result (c.word.new.self ≡ words))
    (all_written with_term (live_term c.args.constraints.now) _ _ _ _ c.loop-term-test.false c.loop-term.invariant) c.word.ensures.ok

use Rattle.std.proofs.Common.{◌≡◌, ◌∙◌, subst}
use Rattle.std.specs.Prelude.{OnOk}
use Rattle.cs_constraints.specs.Constraints.{set_of}
use Rattle.cs_keys.specs.Words.{with_set}
use Rattle.cs_word_lists.proofs.Folding.{one_more, all_written}
use Rattle.cs_keys.proofs.word_list.Key.all_numbers.Goals as goal

pub loop-sym-preserved : goal.loop-sym-preserved
loop-sym-preserved c =
    rw c.in_ok-numbers.ensures
    (one_more with_set (λ sym. set_of c.args.constraints.now sym.0) _ _ _ _ c.loop-sym-test.true ∙ c.loop-sym.invariant)

pub returns : goal.returns
returns c =
    subst (λ words. OnOk c.word.result (c.word.new.self ≡ words))
    (all_written with_set (λ sym. set_of c.args.constraints.now sym.0) _ _ _ _ c.loop-sym-test.false c.loop-sym.invariant) c.word.ensures.ok

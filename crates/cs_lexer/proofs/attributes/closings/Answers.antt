use Rattle.cs_lexer.proofs.Groups.{count_more}
use Rattle.cs_lexer.proofs.attributes.closings.Goals as goal

pub loop-token-preserved : goal.loop-token-preserved
loop-token-preserved c =
    count_more c.args.reversed.now c.loop-token.token-index c.loop-token.surplus c.surplus_before-surplus.result c.loop-token.made.items
    c.push-in-loop-token.new.self.items c.token-item.result c.loop-token.invariant c.loop-token-test.true c.token-item.is c.surplus_before-surplus.ensures
    c.in_ok-push-2.ensures.items

use Rattle.std.proofs.Common.{◌<◌, ◌∙◌, sym, length, arith}
use Rattle.std.proofs.lemmas.Bool.Decides.{nat_tests}
use Rattle.cs_lexer.proofs.Literals.{nothing_read, one_more}
use Rattle.cs_lexer.proofs.quoted.text_of.Goals as goal

pub loop-rest-init : goal.loop-rest-init
loop-rest-init c = nothing_read c.args.body.now c.new-values.result.items c.new-values.ensures.items

pub loop-rest-preserved : goal.loop-rest-preserved
loop-rest-preserved c =
    let some : 0 < length c.loop-rest.rest.now = grind (arith, nat_tests, c.is_empty.ensures) in
    one_more c.args.body.now c.loop-rest.values.items c.loop-rest.rest.now c.push.new.self.items c.following-rest.result.now c.in-Byte.byte c.in-Byte.size
    c.loop-rest.invariant some (sym c.first_item.ensures.value ∙ c.in-Byte.is) c.in_ok-push-in-Byte.ensures.items c.following-rest.ensures

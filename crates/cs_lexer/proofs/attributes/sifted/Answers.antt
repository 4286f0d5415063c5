use Rattle.std.proofs.Common.{◌≡◌, true, false, reverse, ap, sym, ◌∙◌}
use Rattle.cs_lexer.specs.Attributes.{has_group}
use Rattle.cs_lexer.proofs.Groups.{in_group, outside, still_outside, sift_group, sift_kept}
use Rattle.cs_lexer.proofs.attributes.sifted.Goals as goal

pub loop-token-preserved-then-depth-gt0 : goal.loop-token-preserved-then-depth-gt0
loop-token-preserved-then-depth-gt0 c =
    in_group c.args.tokens.items c.loop-token.left.items c.pop.new.self.items c.in_ok-closings.closings.items c.loop-token.depth c.depth_after-depth.result
    c.loop-token.kept.items c.in-Some.token c.if-depth-gt0.true c.loop-token.invariant c.in-Some.ensures.items c.depth_after-depth.ensures

pub loop-token-preserved-then-has_group : goal.loop-token-preserved-then-has_group
loop-token-preserved-then-has_group c =
    let begins : has_group c.in-Some.token (reverse c.pop.new.self.items) ≡ true =
    sym (c.has_group.ensures ∙ ap (λ ts. has_group c.in-Some.token (reverse ts)) c.as_slice-else-depth-gt0.ensures.value) ∙ c.if-has_group.true in
    sift_group c.args.tokens.items c.loop-token.left.items c.pop.new.self.items c.drop_last.new.tokens.items c.in_ok-closings.closings.items
    c.loop-token.kept.items c.in-Some.token (outside c.args.tokens.items c.loop-token.left.items c.in_ok-closings.closings.items c.loop-token.depth
    c.loop-token.kept.items c.if-depth-gt0.false c.loop-token.invariant) c.in-Some.ensures.items begins c.drop_last.ensures

pub loop-token-preserved : goal.loop-token-preserved
loop-token-preserved c =
    let alone : has_group c.in-Some.token (reverse c.pop.new.self.items) ≡ false =
    sym (c.has_group.ensures ∙ ap (λ ts. has_group c.in-Some.token (reverse ts)) c.as_slice-else-depth-gt0.ensures.value) ∙ c.if-has_group.false in
    still_outside c.args.tokens.items c.pop.new.self.items c.in_ok-closings.closings.items c.loop-token.depth c.push.new.self.items c.if-depth-gt0.false
    (sift_kept c.args.tokens.items c.loop-token.left.items c.pop.new.self.items c.in_ok-closings.closings.items c.loop-token.kept.items
    c.push.new.self.items c.in-Some.token (outside c.args.tokens.items c.loop-token.left.items c.in_ok-closings.closings.items c.loop-token.depth
    c.loop-token.kept.items c.if-depth-gt0.false c.loop-token.invariant) c.in-Some.ensures.items alone c.in_ok-push.ensures.items)

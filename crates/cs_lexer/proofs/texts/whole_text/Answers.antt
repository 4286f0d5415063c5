use Rattle.std.proofs.Common.{◌≡◌, reverse, Some, None, sym, ap, ◌∙◌, ◌++◌}
use Rattle.cs_lexer.specs.Texts.{first_text}
use Rattle.cs_lexer.proofs.JoinedTexts.{gather_next, gathered_all}
use Rattle.cs_lexer.proofs.texts.whole_text.Goals as goal

pub loop-next-preserved : goal.loop-next-preserved
loop-next-preserved c =
    let text : first_text (reverse c.loop-next.left.items) ≡ Some c.in-Some.next.now = sym (ap (λ ts. first_text (reverse ts)) c.as_slice.ensures.value)
    ∙ c.in-Some.ensures in
    gather_next c.args.first c.args.left.now.items c.loop-next.bytes.items c.in-Some.next.now c.extend_from_slice.new.self.items c.loop-next.left.items
    c.drop_last.new.tokens.items c.loop-next.invariant text (c.in_ok-extend_from_slice.ensures.items
    ∙ ap (λ bs. c.loop-next.bytes.items ++ bs) c.as_bytes-in-Some.ensures) c.drop_last.ensures

pub returns-clause-whole : goal.returns-clause-whole
returns-clause-whole c =
    let none : first_text (reverse c.loop-next.left.items) ≡ None = sym (ap (λ ts. first_text (reverse ts)) c.as_slice.ensures.value)
    ∙ c.in_default.ensures in
    gathered_all c.args.first c.args.left.now.items c.loop-next.bytes.items c.from_vec.result c.loop-next.left.items c.loop-next.invariant none
    c.from_vec.ensures

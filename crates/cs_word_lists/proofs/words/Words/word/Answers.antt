use Rattle.std.proofs.Common.{◌∙◌, ◌++◌, ap, sym}
use Rattle.cs_word_lists.proofs.Coding.{one_byte, one_more_read}
use Rattle.cs_word_lists.proofs.Digests.{kept_more}
use Rattle.cs_word_lists.proofs.words.Words.word.Goals as goal

pub invariant_of-self : goal.invariant_of-self
invariant_of-self c =
    let items = c.push_reserved.ensures.items ∙ ap (λ byte. c.self.inside.bytes.items ++ byte) (sym (one_byte c.args.word c.if-word-lt128.true)) in
    rw items (kept_more _ _ _ c.args.word c.self.invariant)

pub returns-then-len-capacity-clause-ok : goal.returns-then-len-capacity-clause-ok
returns-then-len-capacity-clause-ok c =
    let items = c.push_reserved.ensures.items ∙ ap (λ byte. c.self.inside.bytes.items ++ byte) (sym (one_byte c.args.word c.if-word-lt128.true)) in
    rw (items, ← c.self.view_is) (one_more_read c.self.inside.bytes.items c.self.invariant.whole c.args.word)

use Rattle.cs_word_lists.proofs.Coding.{one_more_read}
use Rattle.cs_word_lists.proofs.Digests.{kept_more}
use Rattle.cs_word_lists.proofs.words.Words.long.Goals as goal

pub invariant_of-self-2 : goal.invariant_of-self-2
invariant_of-self-2 c = rw c.in_ok-append_digits.ensures.ok (kept_more _ _ _ c.args.word c.self.invariant)

pub returns-clause-ok : goal.returns-clause-ok
returns-clause-ok c =
    rw (c.in_ok-append_digits.ensures.ok, ← c.self.view_is) (one_more_read c.self.inside.bytes.items c.self.invariant.whole c.args.word)

use Rattle.cs_word_lists.proofs.Digests.{digest_joined}
use Rattle.cs_word_lists.proofs.words.Words.digest_after.Goals as goal

pub returns : goal.returns
returns c = λ words is.
    rw (is, c.self.invariant.digest_is, c.self.invariant.power_is, c.self.view_is) (digest_joined words c.args.self.now)

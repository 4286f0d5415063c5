use Rattle.std.proofs.Common.{ap, sym, ◌∙◌, ◌++◌}
use Rattle.cs_word_lists.specs.Digest.{digest_of}
use Rattle.cs_word_lists.specs.Bytes.{words_in}
use Rattle.cs_word_lists.proofs.Coding.{joined_read}
use Rattle.cs_word_lists.proofs.Digests.{kept_joined}
use Rattle.cs_word_lists.proofs.words.Words.append.Goals as goal

pub invariant_of-self-2 : goal.invariant_of-self-2
invariant_of-self-2 c =
    let bytes = c.self.inside.bytes.items in
    let digest = c.digest_after-self-inside.ensures (words_in bytes) c.self.invariant.digest_is in
    let joined = digest ∙ ap (λ last. digest_of (words_in bytes ++ last)) (sym c.words.view_is) in
    rw (c.in_ok-extend_from_slice.ensures.items, c.as_slice.ensures.value)
    (kept_joined _ _ _ _ _ _ c.self.invariant c.words.invariant _ joined)

pub returns : goal.returns
returns c =
    rw (c.in_ok-extend_from_slice.ensures.items, c.as_slice.ensures.value, ← c.self.view_is, ← c.words.view_is)
    (joined_read _ c.self.invariant.whole _)

use Rattle.std.proofs.Common.{◌∙◌, nat_eq}
use Rattle.std.specs.Cmp.Lexicographic.{pointwise}
use Rattle.cs_keys.proofs.Divided.{same_bytes}
use Rattle.cs_keys.proofs.word_list.KeyPartialEq.eq.Goals as goal

pub returns-then-digest : goal.returns-then-digest
returns-then-digest c =
    c.are_same.ensures ∙ (λ i. pointwise nat_eq (c.left.ensures i) (c.left-then-digest.ensures i))
    ∙ same_bytes c.args.self.now c.args.other.now
